-- `count` meets its contract: each of the eight totals of the station is raised, one after the other, if the record counts
-- in its column. Assumes nothing.
use Prim.Native.Nat.{◌*◌}
use mathlib.Core.Path.{sym, ◌∙◌}
use Rattle.sizes.proofs.Choosing.{when, unless}
use Rattle.trace.specs.Counted.{counted_numbers}
use Rattle.trace.proofs.Raising.{raised_eight}
use Rattle.trace.proofs.counting.count.Goals as goal

pub returns-then-not-station-stations : goal.returns-then-not-station-stations
unfolding counted_numbers
returns-then-not-station-stations c =
    sym (unless _ _ c.if-not-station-stations.true)

pub returns : goal.returns
unfolding counted_numbers
returns c =
    raised_eight (c.args.station * 8) _ _ _ _ _ _ _ _ c.args.totals.now _ _ _ _ _ _ _ _
    c.raise_if.ensures
    c.raise_if-2.ensures
    c.raise_if-3.ensures
    c.raise_if-4.ensures
    c.raise_if-5.ensures
    c.raise_if-6.ensures
    c.raise_if-7.ensures
    c.raise_if-8.ensures
    ∙ sym (when _ _ c.if-not-station-stations.false)

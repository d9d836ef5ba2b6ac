-- What the loop of `add_trace` keeps: the totals are those after the records that were passed. Assumes nothing.
use Rattle.std.proofs.Common.{◌≡◌, ◌≤◌, length, take}
use Rattle.trace.specs.Counted.{counted_all}
use Rattle.trace.proofs.adding.add_trace.Given as goal

abbrev pub invariant-loop-one : goal.invariant-loop-one
invariant-loop-one l =
    (l.one-index ≤ length l.trace)
    × (l.one-index-end ≡ length l.trace)
    × (l.totals ≡ counted_all l.stations (take l.one-index l.trace) l.fn.totals)

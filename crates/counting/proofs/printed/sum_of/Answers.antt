-- `sum_of` meets its contract: after so many stations the sum is theirs. Assumes nothing.
use mathlib.Core.Path.{◌≡◌, ◌∙◌, ap}
use native.Mathlib.Omega.{arith}
use Rattle.trace.specs.Number.{total_at, at_most}
use Rattle.counting.specs.Printed.{sum_of}
use Rattle.counting.proofs.Printing.{sum_none, sum_next}
use Rattle.counting.proofs.printed.sum_of.Goals as goal

pub loop-station-init : goal.loop-station-init
loop-station-init c = (sum_none _, omega arith)

pub loop-station-preserved : goal.loop-station-preserved
loop-station-preserved c =
    let a = c.args in (
      sum_next (λ i. total_at a.totals.now i a.column) c.loop-station.station _ _ c.loop-station.invariant.0
          c.sum_at_most-sum.ensures,
      omega arith,
    )

pub returns : goal.returns
returns c =
    let a = c.args in
    let all : c.loop-station.station ≡ a.stations = omega arith in
    c.loop-station.invariant.0 ∙ ap (λ k. at_most (sum_of k (λ i. total_at a.totals.now i a.column))) all

-- After so many stations the sum is theirs.
use Prim.Native.Nat.{◌≤◌}
use mathlib.Core.Path.{◌≡◌}
use Rattle.trace.specs.Number.{total_at, at_most}
use Rattle.counting.specs.Printed.{sum_of}
use Rattle.counting.proofs.printed.sum_of.Given as goal

abbrev pub invariant-loop-station : goal.invariant-loop-station
invariant-loop-station l =
    (l.sum ≡ at_most (sum_of l.station (λ i. total_at l.totals i l.column))) × (l.station ≤ l.stations)

-- After so many columns their sums are written.
use Prim.Native.Nat.{◌+◌, ◌*◌, ◌≤◌}
use Rattle.writer.specs.Buffer.{Wrote}
use Rattle.trace.specs.Number.{total_at, at_most}
use Rattle.counting.specs.Printed.{columns_text, sum_of}
use Rattle.counting.proofs.printed.put_all.Given as goal

abbrev pub invariant-loop-column : goal.invariant-loop-column
invariant-loop-column l =
    Wrote l.initial.out l.initial.next
    (columns_text l.column (λ k. at_most (sum_of l.stations (λ i. total_at l.totals i k)))) l.out l.next
    × (l.column ≤ 8)
    × (l.next ≤ l.initial.next + 21 * l.column)

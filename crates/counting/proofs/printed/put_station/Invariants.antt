-- After so many columns their numbers are written.
use Prim.Native.Nat.{◌+◌, ◌*◌, ◌≤◌}
use Rattle.writer.specs.Buffer.{Wrote}
use Rattle.trace.specs.Number.{total_at}
use Rattle.counting.specs.Printed.{columns_text}
use Rattle.counting.proofs.printed.put_station.Given as goal

abbrev pub invariant-loop-column : goal.invariant-loop-column
invariant-loop-column l =
    Wrote l.initial.out l.initial.next (columns_text l.column (total_at l.totals l.station)) l.out l.next
    × (l.column ≤ 8)
    × (l.next ≤ l.initial.next + 21 * l.column)

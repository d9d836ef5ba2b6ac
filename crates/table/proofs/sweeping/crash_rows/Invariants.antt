-- After f files their rows are swept.
use Rattle.std.proofs.Common.{◌≤◌}
use Rattle.protocol.specs.Entry.{crashed_entry}
use Rattle.words.specs.Rows.{entry_held}
use Rattle.table.specs.Swept.{Sweeps}
use Rattle.table.proofs.sweeping.crash_rows.Given as goal

abbrev pub invariant-loop-f : goal.invariant-loop-f
invariant-loop-f l =
    (l.f ≤ l.fn.sizes.files) × Sweeps l.f (λ g. crashed_entry l.fn.sizes.clients (entry_held l.fn.table g)) l.fn.table l.table

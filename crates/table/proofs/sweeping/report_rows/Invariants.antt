-- After f files the client's sides of them are taken.
use Rattle.std.proofs.Common.{◌≤◌}
use Rattle.protocol.specs.Entry.{reported_entry}
use Rattle.protocol.specs.Client.{side_of}
use Rattle.words.specs.Rows.{entry_held, sides_held}
use Rattle.table.specs.Swept.{Sweeps}
use Rattle.table.proofs.sweeping.report_rows.Given as goal

abbrev pub invariant-loop-f : goal.invariant-loop-f
invariant-loop-f l =
    (l.f ≤ l.fn.sizes.files)
    × Sweeps l.f (λ g. reported_entry (entry_held l.fn.table g) l.client (side_of (sides_held l.fn.table g) l.client)) l.fn.table l.table

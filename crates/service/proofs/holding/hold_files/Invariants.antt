-- What the loop of `hold_files` keeps: f of the rows are stored.
use Rattle.service.proofs.Held.{RowsHeld}
use Rattle.service.proofs.holding.hold_files.Given as goal

abbrev pub invariant-loop-f : goal.invariant-loop-f
invariant-loop-f l = RowsHeld l.fn.files l.fn.clients l.initial.table l.table l.f

-- After i clients their records and sides are stored.
use Rattle.words.proofs.Filling.{Filled}
use Rattle.words.proofs.rows.put_file.Given as goal

abbrev pub invariant-loop-i : goal.invariant-loop-i
invariant-loop-i l = Filled l.f l.fn.shared.entry.records l.fn.shared.sides.of l.initial.table l.table l.i

-- What the loop of `held_files` keeps: after f turns f of the entries are stored.
use Rattle.sizes.specs.Sizes.{max_files}
use Rattle.decision.proofs.Storing.{Stored}
use Rattle.words.specs.Rows.{entry_held}
use Rattle.service.proofs.holding.held_files.Given as goal

abbrev pub invariant-loop-f : goal.invariant-loop-f
invariant-loop-f l = Stored max_files (λ k. k) (λ k. entry_held l.table k) l.initial.files l.files l.f

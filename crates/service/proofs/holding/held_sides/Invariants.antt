-- What the loop of `held_sides` keeps: after f turns f of the clients' sides are stored.
use Rattle.sizes.specs.Sizes.{max_files}
use Rattle.decision.proofs.Storing.{Stored}
use Rattle.words.specs.Rows.{sides_held}
use Rattle.service.proofs.holding.held_sides.Given as goal

abbrev pub invariant-loop-f : goal.invariant-loop-f
invariant-loop-f l = Stored max_files (λ k. k) (λ k. sides_held l.table k) l.initial.clients l.clients l.f

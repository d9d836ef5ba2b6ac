-- `mark_sent`: after b turns b of the blocks are marked. Assumes nothing.
use Rattle.std.proofs.Common.{◌+◌, false, ◌||◌, get_or}
use Rattle.decision.proofs.Storing.{Stored}
use Rattle.service.proofs.spending.mark_sent.Given as goal

abbrev pub invariant-loop-b : goal.invariant-loop-b
invariant-loop-b l =
    Stored l.count (λ k. l.to + k) (λ k. get_or l.initial.flags (l.to + k) false || get_or l.sent k false) l.initial.flags l.flags l.b

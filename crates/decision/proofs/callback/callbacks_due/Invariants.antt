-- After i clients the callbacks that are due to them are stored.
use Rattle.std.proofs.Common.{replicate}
use Rattle.decision.specs.State.{record_in}
use Rattle.decision.specs.Callback.{callback_due}
use Rattle.decision.proofs.Storing.{Stored}
use Rattle.decision.proofs.callback.callbacks_due.Given as goal

abbrev pub invariant-loop-i : goal.invariant-loop-i
invariant-loop-i l =
    Stored l.clients (λ k. k) (callback_due l.clients (record_in l.fn.records) l.last l.opener l.mode) (replicate 8 0) l.calls l.i

-- After so many clients their callbacks are written.
use Prim.Native.Nat.{◌+◌, ◌-◌, ◌*◌, ◌≤◌}
use Rattle.decision.specs.Callback.{ordered_calls}
use Rattle.writer.specs.Buffer.{Wrote}
use Rattle.phrases.specs.Accepted.{calls_text}
use Rattle.phrases.proofs.wait.put_calls.Given as goal

abbrev pub invariant-loop-client : goal.invariant-loop-client
invariant-loop-client l =
    Wrote l.fn.out l.at (calls_text (ordered_calls l.client l.fn.calls)) l.out l.next
    × (l.next ≤ l.at + 72 * l.client)

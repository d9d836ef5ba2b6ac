-- After so many clients their callbacks are written.
use Prim.Native.Nat.{◌+◌, ◌-◌, ◌*◌, ◌≤◌}
use Rattle.writer.specs.Buffer.{Wrote}
use Rattle.decision.specs.Callback.{ordered_calls}
use Rattle.stepfile.specs.Line.{calls_text}
use Rattle.writer.proofs.reply.put_calls.Given as goal

abbrev pub invariant-loop-client : goal.invariant-loop-client
invariant-loop-client l =
    Wrote l.fn.out l.at (calls_text (ordered_calls l.client l.fn.calls)) l.out l.next
    × (l.next ≤ l.at + 42 * l.client)

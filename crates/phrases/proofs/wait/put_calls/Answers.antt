-- `put_calls` meets its contract: after so many clients their callbacks are written. Assumes nothing.
use mathlib.Core.Path.{refl, ap, ◌∙◌}
use native.Mathlib.Omega.{arith}
use Rattle.decision.specs.Callback.{ordered_calls}
use Rattle.phrases.specs.Accepted.{calls_text}
use Rattle.writer.proofs.Buffers.{wrote_none, wrote_as}
use Rattle.phrases.proofs.Calls.{wrote_call}
use Rattle.phrases.proofs.wait.put_calls.Goals as goal

pub loop-client-init : goal.loop-client-init
unfolding calls_text ordered_calls
loop-client-init c = (wrote_none _ _ (omega arith), omega arith)

pub loop-client-preserved : goal.loop-client-preserved
loop-client-preserved c =
    let put = c.put_call-next in
    let inv = c.loop-client.invariant in (
      wrote_call _ c.args.calls inv.0 put.ensures.wrote,
      omega arith,
    )

pub returns-clause-wrote : goal.returns-clause-wrote
returns-clause-wrote c = wrote_as (ap (λ k. calls_text (ordered_calls k c.args.calls)) (omega arith)) c.loop-client.invariant.0

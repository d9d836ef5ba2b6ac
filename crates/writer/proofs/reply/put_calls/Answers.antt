-- `put_calls` meets its contract: after so many clients their callbacks are written. Assumes nothing.
use mathlib.Core.Path.{◌≡◌, refl, sym, ◌∙◌, ap}
use native.Mathlib.Numerals.{add-one}
use native.Mathlib.Omega.{arith}
use Rattle.decision.specs.Callback.{ordered_calls}
use Rattle.stepfile.specs.Line.{calls_text}
use Rattle.stepfile.proofs.CallTexts.{calls_next}
use Rattle.writer.proofs.Buffers.{wrote_none, wrote_then, wrote_as}
use Rattle.writer.proofs.reply.put_calls.Goals as goal

pub loop-client-init : goal.loop-client-init
unfolding calls_text ordered_calls
loop-client-init c = (wrote_none _ _ (omega arith), omega arith)

pub loop-client-preserved : goal.loop-client-preserved
loop-client-preserved c =
    let turn = c.loop-client in
    let put = c.put_call-next in (
      rw (add-one turn.client)
          (wrote_as (sym (calls_next turn.client c.args.calls)) (wrote_then turn.invariant.0 put.ensures.wrote)),
      omega arith,
    )

pub returns-clause-wrote : goal.returns-clause-wrote
returns-clause-wrote c =
    let all : c.loop-client.client ≡ 8 = omega arith in
    let kinds = c.args.calls in
    wrote_as (ap (λ k. calls_text (ordered_calls k kinds)) all) c.loop-client.invariant.0

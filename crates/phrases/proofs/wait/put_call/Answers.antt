-- `put_call` meets its contract: a callback, or none. Assumes nothing.
use native.Mathlib.Omega.{arith}
use Rattle.writer.proofs.Buffers.{wrote_as, wrote_none, wrote_then}
use Rattle.phrases.proofs.Calls.{no_call_text_lem, call_text_lem}
use Rattle.phrases.proofs.wait.put_call.Goals as goal

pub returns-then-kind-eq0-clause-wrote : goal.returns-then-kind-eq0-clause-wrote
returns-then-kind-eq0-clause-wrote c = wrote_as (no_call_text_lem _ _ c.if-kind-eq0.true) (wrote_none _ _ (omega arith))

pub returns-clause-wrote : goal.returns-clause-wrote
returns-clause-wrote c =
    wrote_as (call_text_lem c.args.client c.args.kind c.if-kind-eq0.false)
    (wrote_then c.put_text-name.ensures.wrote
    (wrote_then c.put_client-word.ensures.wrote
    (wrote_then c.put_text-what.ensures.wrote c.put_kind.ensures.wrote)))

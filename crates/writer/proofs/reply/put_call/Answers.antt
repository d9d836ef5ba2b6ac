-- `put_call` meets its contract, by whether the kind is one. Assumes nothing.
use native.Mathlib.Omega.{arith}
use Rattle.writer.proofs.Buffers.{wrote_none, wrote_then, wrote_as}
use Rattle.writer.proofs.Replies.{no_call_text_lem, call_text_lem}
use Rattle.writer.proofs.reply.put_call.Goals as goal

pub returns-in-0-clause-wrote : goal.returns-in-0-clause-wrote
returns-in-0-clause-wrote c = wrote_as (no_call_text_lem _ _ c.in-0.is) (wrote_none _ _ (omega arith))

pub returns-in_default-clause-wrote : goal.returns-in_default-clause-wrote
returns-in_default-clause-wrote c =
    wrote_as (call_text_lem _ _ (λ e. omega arith))
    (wrote_then c.put_argument-colon.ensures.wrote
    (wrote_then c.put_byte-second.ensures.wrote c.put_decimal.ensures.wrote))

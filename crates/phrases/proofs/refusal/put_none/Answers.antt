-- `put_none` meets its contract: its parts, one after the other. Assumes nothing.
use Rattle.writer.proofs.Buffers.{wrote_then}
use Rattle.phrases.proofs.refusal.put_none.Goals as goal

pub returns-clause-wrote : goal.returns-clause-wrote
returns-clause-wrote c =
    wrote_then c.put_text-word.ensures.wrote
    (wrote_then c.put_argument-next.ensures.wrote c.put_numbered.ensures.wrote)

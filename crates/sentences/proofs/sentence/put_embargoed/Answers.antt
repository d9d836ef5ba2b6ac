-- `put_embargoed` meets its contract: its parts, one after the other. Assumes nothing.
use Rattle.writer.proofs.Buffers.{wrote_then}
use Rattle.sentences.proofs.sentence.put_embargoed.Goals as goal

pub returns-clause-wrote : goal.returns-clause-wrote
returns-clause-wrote c =
    wrote_then c.put_client-word.ensures.wrote
    (wrote_then c.put_text-tail.ensures.wrote c.put_forgotten.ensures.wrote)

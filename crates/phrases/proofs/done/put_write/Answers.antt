-- `put_write` meets its contract: its parts, one after the other. Assumes nothing.
use Rattle.writer.proofs.Buffers.{wrote_then}
use Rattle.phrases.proofs.done.put_write.Goals as goal

pub returns-clause-wrote : goal.returns-clause-wrote
returns-clause-wrote c =
    wrote_then c.put_client-word.ensures.wrote
    (wrote_then c.put_text-named.ensures.wrote
    (wrote_then c.put_block-to.ensures.wrote
    (wrote_then c.put_either-loss.ensures.wrote c.put_wasted.ensures.wrote)))

-- `put_read` meets its contract: its parts, one after the other. Assumes nothing.
use Rattle.writer.proofs.Buffers.{wrote_then}
use Rattle.phrases.proofs.read.put_read.Goals as goal

pub returns-clause-wrote : goal.returns-clause-wrote
returns-clause-wrote c =
    wrote_then c.put_client-comma.ensures.wrote
    (wrote_then c.put_text-place.ensures.wrote
    (wrote_then c.put_block-source.ensures.wrote
    (wrote_then c.put_source-origin.ensures.wrote c.put_worth.ensures.wrote)))

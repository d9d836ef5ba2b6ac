-- `put_aside` meets its contract: its parts, one after the other. Assumes nothing.
use Rattle.writer.proofs.Buffers.{wrote_then}
use Rattle.picture.proofs.aside.put_aside.Goals as goal

pub returns-clause-wrote : goal.returns-clause-wrote
returns-clause-wrote c =
    wrote_then c.put_client-word.ensures.wrote
    (wrote_then c.put_embargo-list.ensures.wrote
    (wrote_then c.put_text-losses.ensures.wrote
    (wrote_then c.put_wasted-feed.ensures.wrote c.put_byte.ensures.wrote)))

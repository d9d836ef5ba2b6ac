-- `put_sizes` meets its contract: its parts, one after the other. Assumes nothing.
use Rattle.writer.proofs.Buffers.{wrote_then}
use Rattle.sentences.proofs.explained.put_sizes.Goals as goal

pub returns-clause-wrote : goal.returns-clause-wrote
returns-clause-wrote c =
    wrote_then c.put_text-clients.ensures.wrote
    (wrote_then c.put_argument-word.ensures.wrote
    (wrote_then c.put_text-files.ensures.wrote
    (wrote_then c.put_argument-named.ensures.wrote
    (wrote_then c.put_text-blocks.ensures.wrote
    (wrote_then c.put_argument-unit.ensures.wrote c.put_room.ensures.wrote)))))

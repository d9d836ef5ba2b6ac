-- `put_heading` meets its contract: the word, the number and LF, one after the other. Assumes nothing.
use Rattle.writer.proofs.Buffers.{wrote_then}
use Rattle.writer.proofs.summary.put_heading.Goals as goal

pub returns-clause-wrote : goal.returns-clause-wrote
returns-clause-wrote c =
    wrote_then c.put_text-number.ensures.wrote
    (wrote_then c.put_argument-feed.ensures.wrote c.put_byte.ensures.wrote)

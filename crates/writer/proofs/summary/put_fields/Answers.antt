-- `put_fields` meets its contract: the fields of the line, one after the other. Assumes nothing.
use Rattle.writer.proofs.Buffers.{wrote_then}
use Rattle.writer.proofs.summary.put_fields.Goals as goal

pub returns-clause-wrote : goal.returns-clause-wrote
returns-clause-wrote c =
    wrote_then c.put_decimal-second.ensures.wrote
    (wrote_then c.put_argument-third.ensures.wrote
    (wrote_then c.put_argument-fourth.ensures.wrote
    (wrote_then c.put_writer-feed.ensures.wrote c.put_byte.ensures.wrote)))

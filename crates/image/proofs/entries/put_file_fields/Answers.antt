-- `put_file_fields` meets its contract: the fields, one after the other. Assumes nothing.
use Rattle.writer.proofs.Buffers.{wrote_then}
use Rattle.image.proofs.entries.put_file_fields.Goals as goal

pub returns-clause-wrote : goal.returns-clause-wrote
returns-clause-wrote c =
    wrote_then c.put_byte-second.ensures.wrote (wrote_then c.put_low-third.ensures.wrote c.put_byte.ensures.wrote)

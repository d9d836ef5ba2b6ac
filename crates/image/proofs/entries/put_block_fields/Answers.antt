-- `put_block_fields` meets its contract: two bytes and the value. Assumes nothing.
use Rattle.writer.proofs.Buffers.{wrote_then}
use Rattle.image.proofs.entries.put_block_fields.Goals as goal

pub returns-clause-wrote : goal.returns-clause-wrote
returns-clause-wrote c =
    wrote_then c.put_byte-second.ensures.wrote (wrote_then c.put_byte-third.ensures.wrote c.put_low.ensures.wrote)

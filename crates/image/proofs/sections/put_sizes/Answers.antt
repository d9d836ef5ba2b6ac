-- `put_sizes` meets its contract: three bytes, and then two for the store. Assumes nothing.
use Rattle.writer.proofs.Buffers.{wrote_then}
use Rattle.image.proofs.sections.put_sizes.Goals as goal

pub returns-clause-wrote : goal.returns-clause-wrote
returns-clause-wrote c =
    wrote_then c.put_byte-second.ensures.wrote
    (wrote_then c.put_byte-third.ensures.wrote (wrote_then c.put_byte-fourth.ensures.wrote c.put_low.ensures.wrote))

-- `put_letter` meets its contract: a space, then the letter. Assumes nothing.
use Rattle.writer.proofs.Buffers.{wrote_then}
use Rattle.writer.proofs.reply.put_letter.Goals as goal

pub returns-clause-wrote : goal.returns-clause-wrote
returns-clause-wrote c = wrote_then c.put_byte-next.ensures.wrote c.put_byte.ensures.wrote

-- `put_argument` meets its contract: a space, then the number. Assumes nothing.
use Rattle.writer.proofs.Buffers.{wrote_then}
use Rattle.writer.proofs.decimal.put_argument.Goals as goal

pub returns-clause-wrote : goal.returns-clause-wrote
returns-clause-wrote c = wrote_then c.put_byte-next.ensures.wrote c.put_decimal.ensures.wrote

-- `put_eight` meets its contract: four digits, then four more. Assumes nothing.
use Rattle.writer.proofs.Buffers.{wrote_then}
use Rattle.writer.proofs.decimal.put_eight.Goals as goal

pub returns-clause-wrote : goal.returns-clause-wrote
returns-clause-wrote c = wrote_then c.put_four-second.ensures.wrote c.put_four.ensures.wrote

-- `put_origin` meets its contract: its parts, one after the other. Assumes nothing.
use Rattle.writer.proofs.Buffers.{wrote_then}
use Rattle.phrases.proofs.read.put_origin.Goals as goal

pub returns-clause-wrote : goal.returns-clause-wrote
returns-clause-wrote c = wrote_then c.put_written-loss.ensures.wrote c.put_lost.ensures.wrote

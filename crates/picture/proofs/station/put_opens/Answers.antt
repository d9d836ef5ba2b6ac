-- `put_opens` meets its contract: its parts, one after the other. Assumes nothing.
use Rattle.writer.proofs.Buffers.{wrote_then}
use Rattle.picture.proofs.station.put_opens.Goals as goal

pub returns-clause-wrote : goal.returns-clause-wrote
returns-clause-wrote c =
    wrote_then c.put_numbered-word.ensures.wrote
    (wrote_then c.put_numbered-may.ensures.wrote c.put_either.ensures.wrote)

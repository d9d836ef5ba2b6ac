-- `put_own` meets its contract: its parts, one after the other. Assumes nothing.
use Rattle.writer.proofs.Buffers.{wrote_then}
use Rattle.phrases.proofs.read.put_own.Goals as goal

pub returns-clause-wrote : goal.returns-clause-wrote
returns-clause-wrote c =
    wrote_then c.put_text-flag.ensures.wrote
    (wrote_then c.put_either-word.ensures.wrote c.put_numbered.ensures.wrote)

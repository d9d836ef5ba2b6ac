-- `put_open_waits` meets its contract: its parts, one after the other. Assumes nothing.
use Rattle.writer.proofs.Buffers.{wrote_then}
use Rattle.phrases.proofs.pending.put_open_waits.Goals as goal

pub returns-clause-wrote : goal.returns-clause-wrote
returns-clause-wrote c =
    wrote_then c.put_opener-word.ensures.wrote
    (wrote_then c.put_numbered-still.ensures.wrote c.put_still.ensures.wrote)

-- `put_says` meets its contract: its parts, one after the other. Assumes nothing.
use Rattle.writer.proofs.Buffers.{wrote_then}
use Rattle.phrases.proofs.clash.put_says.Goals as goal

pub returns-clause-wrote : goal.returns-clause-wrote
returns-clause-wrote c =
    wrote_then c.put_client-word.ensures.wrote
    (wrote_then c.put_counts-may.ensures.wrote
    (wrote_then c.put_either-mark.ensures.wrote c.put_either.ensures.wrote))

-- `put_terms` meets its contract: its parts, one after the other. Assumes nothing.
use Rattle.writer.proofs.Buffers.{wrote_then}
use Rattle.phrases.proofs.grant.put_terms.Goals as goal

pub returns-clause-wrote : goal.returns-clause-wrote
returns-clause-wrote c =
    wrote_then c.put_version-may.ensures.wrote
    (wrote_then c.put_either-copy.ensures.wrote c.put_copy.ensures.wrote)

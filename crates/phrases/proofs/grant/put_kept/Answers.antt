-- `put_kept` meets its contract: no copy, or its version and what becomes of it. Assumes nothing.
use Rattle.writer.proofs.Buffers.{wrote_as, wrote_then}
use Rattle.phrases.proofs.Grants.{copy_text}
use Rattle.phrases.proofs.grant.put_kept.Goals as goal

pub returns-clause-wrote : goal.returns-clause-wrote
returns-clause-wrote c =
    wrote_as (copy_text c.args.keep c.args.label _ c.is_none.ensures c.if-is_none.false)
    (wrote_then c.put_version-fate.ensures.wrote c.put_either.ensures.wrote)

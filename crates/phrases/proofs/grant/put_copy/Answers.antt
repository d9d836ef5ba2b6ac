-- `put_copy` meets its contract: what is said of the copy that the grant keeps or drops. Assumes nothing.
use mathlib.Core.Path.{ap}
use Rattle.phrases.specs.Accepted.{kept_text}
use Rattle.writer.proofs.Buffers.{wrote_as}
use Rattle.phrases.proofs.grant.put_copy.Goals as goal

pub returns-clause-wrote : goal.returns-clause-wrote
returns-clause-wrote c = wrote_as (ap (λ k. kept_text k c.args.own.label) c.keeps_blocks.ensures) c.put_kept.ensures.wrote

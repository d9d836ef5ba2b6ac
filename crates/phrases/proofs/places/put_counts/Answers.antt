-- `put_counts` meets its contract: its parts, one after the other. Assumes nothing.
use mathlib.Core.Path.{ap}
use mathlib.Core.List.{◌++◌}
use Rattle.stepfile.specs.Text.{bytes, argument_text}
use Rattle.writer.proofs.Buffers.{wrote_as, wrote_then}
use Rattle.phrases.proofs.places.put_counts.Goals as goal

pub returns-clause-wrote : goal.returns-clause-wrote
returns-clause-wrote c =
    let used = wrote_as (ap (λ n. bytes "; used:" ++ argument_text n) c.count_used-blocks.ensures) c.put_numbered-second.ensures.wrote in
    let reserved = wrote_as (ap (λ n. bytes "; reserved:" ++ argument_text n) c.count_reserved-reserved.ensures) c.put_numbered.ensures.wrote in
    wrote_then c.put_numbered-first.ensures.wrote (wrote_then used reserved)

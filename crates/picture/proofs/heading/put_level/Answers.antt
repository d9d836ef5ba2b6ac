-- `put_level` meets its contract: its parts, one after the other. Assumes nothing.
use mathlib.Core.Path.{ap}
use mathlib.Core.List.{◌++◌}
use Rattle.stepfile.specs.Text.{bytes, argument_text}
use Rattle.writer.proofs.Buffers.{wrote_as, wrote_then}
use Rattle.picture.proofs.heading.put_level.Goals as goal

pub returns-clause-wrote : goal.returns-clause-wrote
returns-clause-wrote c =
    let version = wrote_as (ap (λ n. bytes " at version" ++ argument_text n) c.version_in.ensures) c.put_numbered-last.ensures.wrote in
    wrote_then version (wrote_then c.put_last-feed.ensures.wrote c.put_byte.ensures.wrote)

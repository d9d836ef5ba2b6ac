-- `put_head` meets its contract: its parts, one after the other. Assumes nothing.
use mathlib.Core.Path.{ap}
use Rattle.phrases.specs.Phrase.{state_text}
use Rattle.writer.proofs.Buffers.{wrote_as, wrote_then}
use Rattle.picture.proofs.heading.put_head.Goals as goal

pub returns-clause-wrote : goal.returns-clause-wrote
returns-clause-wrote c =
    let state = wrote_as (ap state_text c.state_of.ensures) c.put_state-level.ensures.wrote in
    wrote_then c.put_numbered-word.ensures.wrote
    (wrote_then c.put_text-name.ensures.wrote (wrote_then state c.put_level.ensures.wrote))

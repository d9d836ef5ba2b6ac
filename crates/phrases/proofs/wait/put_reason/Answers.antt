-- `put_reason` meets its contract: its parts, one after the other. Assumes nothing.
use mathlib.Core.Path.{ap}
use Rattle.phrases.specs.Phrase.{state_text}
use Rattle.writer.proofs.Buffers.{wrote_as, wrote_then}
use Rattle.phrases.proofs.wait.put_reason.Goals as goal

pub returns-clause-wrote : goal.returns-clause-wrote
returns-clause-wrote c =
    wrote_then c.put_text-name.ensures.wrote (wrote_as (ap state_text c.state_of.ensures) c.put_state.ensures.wrote)

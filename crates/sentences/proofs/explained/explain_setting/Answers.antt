-- `explain_setting` meets its contract, by the room. Assumes nothing.
use native.Mathlib.Omega.{arith}
use Rattle.sentences.specs.Explained.{explained_text}
use Rattle.writer.proofs.Buffers.{wrote_then, wrote_if_room}
use Rattle.sentences.proofs.explained.explain_setting.Goals as goal

pub returns-clause-wrote_if_room : goal.returns-clause-wrote_if_room
unfolding explained_text
returns-clause-wrote_if_room c reply calls granted says =
    wrote_if_room _ _ _ _ _ _ (omega arith)
    (wrote_then (c.put_said-space.ensures.wrote reply calls granted says)
    (wrote_then c.put_text-sentence.ensures.wrote
    (wrote_then c.put_setting-feed.ensures.wrote c.put_byte.ensures.wrote)))

-- `explain_step` meets its contract, by the room. Assumes nothing.
use Prim.Native.Nat.{ℕ}
use mathlib.Core.Path.{ap, ◌∙◌}
use mathlib.Core.List.{List}
use native.Mathlib.Omega.{arith}
use Rattle.protocol.specs.declared.reply.Reply.{Reply}
use Rattle.ledger.specs.Ledger.{lines_at}
use Rattle.sentences.specs.Scene.{scene_held, whole_held}
use Rattle.sentences.specs.Explained.{said_of, explained_text}
use Rattle.writer.proofs.Buffers.{wrote_as, wrote_then, wrote_if_room}
use Rattle.sentences.proofs.explained.explain_step.Goals as goal

pub returns-clause-wrote_if_room : goal.returns-clause-wrote_if_room
unfolding explained_text
returns-clause-wrote_if_room c reply calls granted says called =
    let a = c.args in
    let sentence : List ℕ → Reply → List ℕ =
    λ k r.
    said_of a.fresh
    (scene_held a.sizes a.step a.before.now a.service.now.table a.came.now a.service.now.stores.dirty a.ledger.now.since
    a.told a.caching)
    (whole_held a.before.now a.service.now.table (lines_at a.ledger.now))
    a.step k r in
    let same =
    ap (sentence _) (c.reply_of-reply.ensures ∙ says.back)
    ∙ ap (λ (k : List ℕ). sentence k reply) (c.calls_with-calls.ensures ∙ called) in
    wrote_if_room _ _ _ _ _ _ (omega arith)
    (wrote_then (c.put_said-space.ensures.wrote reply calls granted says)
    (wrote_then c.put_text-sentence.ensures.wrote
    (wrote_then {s = sentence calls reply} (wrote_as same c.put_sentence-feed.ensures.wrote) c.put_byte.ensures.wrote)))

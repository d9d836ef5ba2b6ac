-- `keep_words` meets its contract: after k words those are kept. Assumes nothing.
use mathlib.Core.Path.{refl}
use Rattle.decision.proofs.Storing.{stored_none, stored_more, stored_all}
use Rattle.sentences.proofs.scene.keep_words.Goals as goal

pub loop-k-init : goal.loop-k-init
loop-k-init c = stored_none

pub loop-k-preserved : goal.loop-k-preserved
loop-k-preserved c = stored_more c.loop-k.invariant c.loop-k-test.true refl

pub returns : goal.returns
returns c = stored_all c.loop-k.invariant c.loop-k-test.false

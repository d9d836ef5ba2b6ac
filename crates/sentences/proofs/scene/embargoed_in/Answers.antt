-- `embargoed_in` meets its contract: the last eight flags. Assumes nothing.
use mathlib.Core.Path.{refl}
use Rattle.words.specs.Rows.{listed}
use Rattle.sentences.proofs.scene.embargoed_in.Goals as goal

pub returns : goal.returns
unfolding listed
returns c = refl

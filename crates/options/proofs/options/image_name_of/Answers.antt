-- `image_name_of` meets its contract, by its test. Assumes nothing.
use Rattle.options.specs.Options.{image_name_of}
use Rattle.options.proofs.Texts.{differs}
use Rattle.options.proofs.options.image_name_of.Goals as goal

pub returns-then-same : goal.returns-then-same
unfolding image_name_of
returns-then-same c = rw (c.same.ensures.0 c.if-same.true)

pub returns : goal.returns
unfolding image_name_of
returns c = rw (differs _ _ c.same.ensures.1 c.if-same.false)

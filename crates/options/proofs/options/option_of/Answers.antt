-- `option_of` meets its contract: the tests of the code are those of the definition. Assumes nothing.
use Rattle.options.specs.Options.{option_of}
use Rattle.options.proofs.Texts.{differs}
use Rattle.options.proofs.options.option_of.Goals as goal

pub returns-then-same : goal.returns-then-same
unfolding option_of
returns-then-same c = rw (c.same.ensures.0 c.if-same.true)

pub returns-then-same-2 : goal.returns-then-same-2
unfolding option_of
returns-then-same-2 c = rw (c.same-2.ensures.0 c.if-same-2.true)

pub returns-then-same-3 : goal.returns-then-same-3
unfolding option_of
returns-then-same-3 c = rw (c.same-3.ensures.0 c.if-same-3.true)

pub returns-then-same-4 : goal.returns-then-same-4
unfolding option_of
returns-then-same-4 c = rw (c.same-4.ensures.0 c.if-same-4.true, c.once.ensures)

pub returns-then-same-5 : goal.returns-then-same-5
unfolding option_of
returns-then-same-5 c = rw (c.same-5.ensures.0 c.if-same-5.true, c.once-then-same-5.ensures)

pub returns : goal.returns
unfolding option_of
returns c =
    rw (
      differs _ _ c.same.ensures.1 c.if-same.false,
      differs _ _ c.same-2.ensures.1 c.if-same-2.false,
      differs _ _ c.same-3.ensures.1 c.if-same-3.false,
      differs _ _ c.same-4.ensures.1 c.if-same-4.false,
      differs _ _ c.same-5.ensures.1 c.if-same-5.false,
    )

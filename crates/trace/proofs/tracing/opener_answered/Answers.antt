-- `opener_answered` meets its contract. Assumes nothing.
use Rattle.trace.proofs.Told.{opened_answered, none_answered}
use Rattle.trace.proofs.tracing.opener_answered.Goals as goal

pub returns-then-letter_of-said : goal.returns-then-letter_of-said
returns-then-letter_of-said c = opened_answered c.args.said c.args.words.now (rw c.letter_of.ensures at c.if-letter_of-said.true)

pub returns : goal.returns
returns c = none_answered c.args.said c.args.words.now (rw c.letter_of.ensures at c.if-letter_of-said.false)

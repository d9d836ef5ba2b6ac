-- `digit_at` meets its contract: a space, a digit, and no digit after it. Assumes nothing.
use mathlib.Core.Path.{sym}
use Rattle.reader.proofs.Numbers.{argument_one}
use Rattle.reader.proofs.number.digit_at.Goals as goal

pub returns-clause-s_value : goal.returns-clause-s_value
returns-clause-s_value c there =
    rw c.from.ensures
    (argument_one _ _ c.if-s-at-ne32.false (sym c.if-not-is_digit.ensures) c.requires (sym c.if-is_digit.ensures))

-- `two_digits_at` meets its contract: a space, and one or two digits with no digit after them. Assumes nothing.
use mathlib.Core.Path.{sym, ◌∙◌, ap}
use mathlib.Core.Bool.{cond}
use native.Mathlib.Omega.{arith}
use Rattle.reader.proofs.Numbers.{argument_short}
use Rattle.reader.proofs.number.two_digits_at.Goals as goal

pub returns-clause-s_value : goal.returns-clause-s_value
returns-clause-s_value c there =
    let more = c.one_if-more.ensures ∙ ap (λ b. cond b 1 0) c.is_digit-2.ensures in
    argument_short c.args.s.now c.args.at c.if-s-at-ne32.false (sym c.if-not-is_digit.ensures) _ _ more
    c.number_of.ensures c.requires (omega arith) (sym c.if-is_digit.ensures)

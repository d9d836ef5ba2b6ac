-- `digits_from` meets its contract: from any offset that the loop comes to, with the number so far, the digits give what
-- they give from the first offset. Assumes nothing.
use Prim.Native.Nat.{◌+◌}
use mathlib.Core.Path.{sym, ◌∙◌, ap}
use native.Mathlib.Omega.{arith}
use lib.ListN.{drop, drop_of_length-le}
use Rattle.stepfile.specs.Grammar.{found, digits_on}
use Rattle.reader.specs.Offsets.{found_in}
use Rattle.reader.proofs.Numbers.{digit_low, digit_high, digits_stop, digits_end, digits_over, digits_more}
use Rattle.reader.proofs.number.digits_from.Goals as goal

pub returns-then-not-is_digit : goal.returns-then-not-is_digit
returns-then-not-is_digit c = c.loop-i.invariant ∙ digits_end _ _ _ c.loop-i-test.true (sym c.if-not-is_digit.ensures)

pub returns-in_err-value : goal.returns-in_err-value
returns-in_err-value c =
    let digit = sym c.if-not-is_digit.ensures in
    c.loop-i.invariant
    ∙ digits_over _ _ _ c.loop-i-test.true (digit_low _ digit) (digit_high _ digit) (c.with_digit.ensures.over c.in_err-value.was)
    ∙ sym (ap (found_in c.args.s.now) c.from_residual.ensures)

pub loop-i-preserved : goal.loop-i-preserved
loop-i-preserved c =
    let digit = sym c.if-not-is_digit.ensures in
    c.loop-i.invariant
    ∙ digits_more _ _ _ c.loop-i-test.true (digit_low _ digit) (digit_high _ digit)
    (omega (arith, c.with_digit.ensures.more _ c.in_ok-value.was))
    ∙ ap (λ v. digits_on v (drop (c.loop-i.i + 1) c.args.s.now)) (sym (c.with_digit.ensures.more _ c.in_ok-value.was))

pub returns : goal.returns
returns c =
    c.loop-i.invariant ∙ digits_stop _ _ _ c.loop-i-test.false
    ∙ ap (found c.loop-i.value) (drop_of_length-le _ c.loop-i-test.false ∙ sym (drop_of_length-le c.args.s.now (omega arith)))

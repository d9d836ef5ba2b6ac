-- `numeral_at` meets its contract, by the first byte. Assumes nothing.
use mathlib.Core.Path.{sym, ◌∙◌, ap}
use borrow.Author.Tests.{ltb-false}
use native.Mathlib.Omega.{arith}
use lib.ListN.{drop}
use Prim.Native.Nat.{◌+◌, ◌-◌}
use Rattle.stepfile.specs.Grammar.{digits_on}
use Rattle.reader.specs.Offsets.{found_in}
use Rattle.reader.proofs.Numbers.{byte_there, digit_low, digit_high, numeral_stop, numeral_zero, numeral_other, numeral_digit}
use Rattle.reader.proofs.number.numeral_at.Goals as goal

pub returns-in_err-first : goal.returns-in_err-first
returns-in_err-first c =
    numeral_stop _ _ (ltb-false _ _ (sym c.in_err-first.ensures.lookup.0)) ∙ sym (ap (found_in c.args.s.now) c.from_residual.ensures)

pub returns-then-first-eq48 : goal.returns-then-first-eq48
returns-then-first-eq48 c =
    let read = c.in_ok-first.ensures.lookup in
    let there = byte_there _ _ _ read.0 read.1 in
    numeral_zero _ _ there.0 (there.1 ∙ c.if-first-eq48.true)

pub returns-then-not-is_digit : goal.returns-then-not-is_digit
returns-then-not-is_digit c =
    let read = c.in_ok-first.ensures.lookup in
    let there = byte_there _ _ _ read.0 read.1 in
    numeral_other _ _ there.0 (λ e. c.if-first-eq48.false (sym there.1 ∙ e)) (rw there.1 (sym c.if-not-is_digit.ensures))

pub returns : goal.returns
returns c =
    let read = c.in_ok-first.ensures.lookup in
    let there = byte_there _ _ _ read.0 read.1 in
    let digit = sym c.if-not-is_digit.ensures in
    let low = digit_low c.in_ok-first.field-0.now digit in
    let high = digit_high c.in_ok-first.field-0.now digit in
    numeral_digit _ _ there.0 (λ e. c.if-first-eq48.false (sym there.1 ∙ e)) (omega (arith, there.1, low)) (omega (arith, there.1, high))
    ∙ ap (λ v. digits_on v (drop (c.args.at + 1) c.args.s.now)) (ap (λ b. b - 48) there.1 ∙ sym c.from.ensures)
    ∙ c.digits_from.ensures

-- `argument_at` meets its contract: the space, then the number. Assumes nothing.
use mathlib.Core.Path.{sym, ◌∙◌, ap}
use borrow.Author.Tests.{ltb-false}
use Rattle.reader.specs.Offsets.{found_in}
use Rattle.reader.proofs.Numbers.{byte_there, argument_stop, argument_other, argument_space}
use Rattle.reader.proofs.number.argument_at.Goals as goal

pub returns-in_err-get : goal.returns-in_err-get
returns-in_err-get c =
    argument_stop _ _ (ltb-false _ _ (sym c.in_err-get.ensures.lookup.0)) ∙ sym (ap (found_in c.args.s.now) c.from_residual.ensures)

pub returns-then-branch-ne32 : goal.returns-then-branch-ne32
returns-then-branch-ne32 c =
    let read = c.in_ok-get.ensures.lookup in
    let there = byte_there _ _ _ read.0 read.1 in
    argument_other _ _ there.0 (λ e. c.if-branch-ne32.true (sym there.1 ∙ e))

pub returns : goal.returns
returns c =
    let read = c.in_ok-get.ensures.lookup in
    let there = byte_there _ _ _ read.0 read.1 in
    argument_space _ _ there.0 (there.1 ∙ c.if-branch-ne32.false) ∙ c.numeral_at.ensures

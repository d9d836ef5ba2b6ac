-- `write_from` meets its contract: three numbers, then the fourth. Assumes nothing.
use mathlib.Core.Path.{sym, ◌∙◌, ap}
use Rattle.protocol.specs.declared.step.Step.TheVariants.{Write}
use Rattle.stepfile.specs.Grammar.{one}
use Rattle.reader.specs.Offsets.{found_in, triple_in}
use Rattle.reader.proofs.Shapes.{whole_there, number_missing, number_there}
use Rattle.reader.proofs.step.write_from.Goals as goal

pub returns-in_err-value : goal.returns-in_err-value
returns-in_err-value c =
    ap (triple_in c.args.s.now (λ a b c. one (Write a b c))) c.in_ok-client.was
    ∙ number_missing _ _ _ _ c.argument_at.ensures c.in_err-value.was
    ∙ sym (ap (found_in c.args.s.now) c.from_residual-in_err-value.ensures)

pub returns : goal.returns
returns c =
    ap (triple_in c.args.s.now (λ a b c. one (Write a b c))) c.in_ok-client.was
    ∙ number_there _ _ _ _ c.argument_at.ensures _ c.in_ok-value.was
    ∙ whole_there _ _

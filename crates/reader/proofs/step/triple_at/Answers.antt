-- `triple_at` meets its contract: two numbers, then the third. Assumes nothing.
use mathlib.Core.Path.{sym, ◌∙◌, ap}
use Rattle.std.proofs.Common.{is_some}
use Rattle.stepfile.specs.Grammar.{taking}
use Rattle.reader.specs.Offsets.{pair_in, triple_in}
use Rattle.reader.proofs.Shapes.{is_there, number_missing, number_there}
use Rattle.reader.proofs.step.triple_at.Goals as goal

pub returns-in_err-pair : goal.returns-in_err-pair
returns-in_err-pair g c f there =
    let none = c.from_residual.ensures in
    c.pair_at.ensures.by_index (λ a b. taking (f a b)) (λ short e. there short (ap is_some none))
    ∙ ap (pair_in c.args.s.now (λ a b. taking (f a b))) c.in_err-pair.was
    ∙ sym (ap (triple_in c.args.s.now f) none)

pub returns-in_err-block : goal.returns-in_err-block
returns-in_err-block g c f there =
    let none = c.from_residual-in_err-block.ensures in
    c.pair_at.ensures.by_index (λ a b. taking (f a b)) (λ short. is_there _ _ c.in_ok-pair.was)
    ∙ ap (pair_in c.args.s.now (λ a b. taking (f a b))) c.in_ok-pair.was
    ∙ number_missing _ _ _ _ (c.one_at.ensures.s_value (λ short e. there short (ap is_some none))) c.in_err-block.was
    ∙ sym (ap (triple_in c.args.s.now f) none)

pub returns : goal.returns
returns g c f there =
    c.pair_at.ensures.by_index (λ a b. taking (f a b)) (λ short. is_there _ _ c.in_ok-pair.was)
    ∙ ap (pair_in c.args.s.now (λ a b. taking (f a b))) c.in_ok-pair.was
    ∙ number_there _ _ _ _ (c.one_at.ensures.s_value (λ short. is_there _ _ c.in_ok-block.was)) _ c.in_ok-block.was

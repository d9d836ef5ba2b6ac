-- `pair_at` meets its contract: one number after the other. Assumes nothing.
use mathlib.Core.Path.{sym, ◌∙◌, ap}
use Rattle.std.proofs.Common.{is_some}
use Rattle.reader.specs.Offsets.{pair_in}
use Rattle.reader.proofs.Shapes.{is_there, number_missing, number_there}
use Rattle.reader.proofs.step.pair_at.Goals as goal

pub returns-in_err-client-clause-by_index : goal.returns-in_err-client-clause-by_index
returns-in_err-client-clause-by_index g c f there =
    let none = c.from_residual.ensures in
    number_missing _ _ _ _ (c.one_at.ensures.s_value (λ short e. there short (ap is_some none))) c.in_err-client.was
    ∙ sym (ap (pair_in c.args.s.now f) none)

pub returns-in_err-file-clause-by_index : goal.returns-in_err-file-clause-by_index
returns-in_err-file-clause-by_index g c f there =
    let none = c.from_residual-in_err-file.ensures in
    number_there _ _ _ _ (c.one_at.ensures.s_value (λ short. is_there _ _ c.in_ok-client.was)) _ c.in_ok-client.was
    ∙ number_missing _ _ _ _ (c.file_at.ensures.s_value (λ short e. there short (ap is_some none))) c.in_err-file.was
    ∙ sym (ap (pair_in c.args.s.now f) none)

pub returns-clause-by_index : goal.returns-clause-by_index
returns-clause-by_index g c f there =
    number_there _ _ _ _ (c.one_at.ensures.s_value (λ short. is_there _ _ c.in_ok-client.was)) _ c.in_ok-client.was
    ∙ number_there _ _ _ _ (c.file_at.ensures.s_value (λ short. is_there _ _ c.in_ok-file.was)) _ c.in_ok-file.was

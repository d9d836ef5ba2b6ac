-- `four_at` meets its contract: the low half and the high one. Assumes nothing.
use Prim.Native.Nat.{◌+◌, ◌*◌}
use mathlib.Core.Path.{◌∙◌, ap}
use Rattle.restore.specs.Decoded.{number_at}
use Rattle.restore.proofs.ReadLow.{number_four}
use Rattle.restore.proofs.numbers.four_at.Goals as goal

pub returns-clause-value : goal.returns-clause-value
returns-clause-value c =
    let a = c.args in
    ap (λ x. x + 65536 * c.two_at-high.result) c.two_at-low.ensures.value
    ∙ ap (λ x. number_at 2 a.bytes.now a.at + 65536 * x) c.two_at-high.ensures.value
    ∙ number_four a.bytes.now a.at

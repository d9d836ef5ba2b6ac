-- `eight_at` meets its contract: the low half and the high one. Assumes nothing.
use Prim.Native.Nat.{◌+◌, ◌*◌}
use mathlib.Core.Path.{◌∙◌, ap}
use Rattle.restore.specs.Decoded.{number_at}
use Rattle.restore.proofs.ReadLow.{number_eight}
use Rattle.restore.proofs.numbers.eight_at.Goals as goal

pub returns : goal.returns
returns c =
    let a = c.args in
    ap (λ x. x + 4294967296 * c.four_at-high.result) c.four_at-low.ensures.value
    ∙ ap (λ x. number_at 4 a.bytes.now a.at + 4294967296 * x) c.four_at-high.ensures.value
    ∙ number_eight a.bytes.now a.at

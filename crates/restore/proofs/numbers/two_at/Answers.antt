-- `two_at` meets its contract: the low byte and the high one. Assumes nothing.
use Prim.Native.Nat.{◌+◌, ◌*◌}
use mathlib.Core.Path.{◌∙◌, ap}
use Rattle.restore.specs.Decoded.{byte_at}
use Rattle.restore.proofs.ReadLow.{number_two}
use Rattle.restore.proofs.numbers.two_at.Goals as goal

pub returns-clause-value : goal.returns-clause-value
returns-clause-value c =
    let a = c.args in
    ap (λ x. x + 256 * c.byte_at-high.result) c.byte_at-low.ensures
    ∙ ap (λ x. byte_at a.bytes.now a.at + 256 * x) c.byte_at-high.ensures
    ∙ number_two a.bytes.now a.at

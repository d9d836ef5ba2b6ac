-- `opener_beside` meets its contract: under another letter nobody stands in any place. Assumes nothing.
use Prim.Native.Nat.{◌%◌}
use mathlib.Core.Path.{◌≡◌, sym, ap}
use native.Mathlib.Omega.{arith}
use borrow.Author.Tests.{ne_eqb}
use Rattle.sizes.specs.Sizes.{max_files}
use Rattle.decision.proofs.Beyond.{get_d_alike}
use Rattle.protocol.specs.declared.reply.Granting.{Granting}
use Rattle.protocol.specs.Reply.{no_granting}
use Rattle.trace.proofs.tracing.opener_beside.Goals as goal

pub returns-in_default : goal.returns-in_default
returns-in_default c =
    let letter = c.args.said % 256 in
    let k : letter ≡ 75 → ⊥ = λ e. omega arith in
    let a : letter ≡ 65 → ⊥ = λ e. omega arith in
    rw (ne_eqb letter 75 k, ne_eqb letter 65 a)
    (sym (ap (λ (g : Granting). g.client) (get_d_alike max_files no_granting c.args.k)))

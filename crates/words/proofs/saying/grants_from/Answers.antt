-- `grants_from` meets its contract. Assumes nothing.
use Prim.Native.Nat.{ℕ, ◌+◌, ◌*◌}
use mathlib.Core.Bool.{cond}
use lib.Dec.{ltb}
use borrow.Author.Rules.{rules}
use Rattle.protocol.specs.Reply.{no_granting}
use Rattle.words.specs.Said.{granting_said}
use Rattle.words.proofs.Making.{made_listed}
use Rattle.words.proofs.saying.grants_from.Goals as goal

pub returns : goal.returns
returns c =
    let a = c.args in
    made_listed (λ (k : ℕ). cond (ltb (a.from + 4 * k) a.count) (granting_said a.words.now (a.from + 4 * k)) no_granting)
    (λ k y q called. (search rules, search rules)) no_granting c.from_fn.ensures.items

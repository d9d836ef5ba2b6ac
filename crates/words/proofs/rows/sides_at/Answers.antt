-- `sides_at` meets its contract. Assumes nothing.
use Prim.Native.Nat.{ℕ, ◌+◌}
use mathlib.Core.Path.{◌≡◌, ap}
use borrow.Author.Rules.{rules}
use Rattle.protocol.specs.Client.{no_client}
use Rattle.words.specs.Words.{side_held}
use Rattle.words.specs.Rows.{listed, word_at}
use Rattle.words.proofs.Making.{made_listed}
use Rattle.words.proofs.rows.sides_at.Goals as goal

pub returns : goal.returns
returns c =
    let side = λ (i : ℕ). side_held (word_at c.args.table.now c.args.f (10 + i)) in
    let made : c.from_fn.result ≡ listed 8 side =
    made_listed side (λ i y q called. (search rules, search rules)) no_client c.from_fn.ensures.items in
    ap (λ l. record { of = l }) made

-- `entry_at` meets its contract. Assumes nothing.
use Prim.Native.Nat.{ℕ, ◌+◌}
use mathlib.Core.Path.{◌≡◌}
use borrow.Author.Rules.{rules}
use Rattle.records.specs.Record.{not_open}
use Rattle.words.specs.Words.{record_held}
use Rattle.words.specs.Rows.{listed, word_at}
use Rattle.words.proofs.Making.{made_listed}
use Rattle.words.proofs.rows.entry_at.Goals as goal

pub returns : goal.returns
returns c =
    let known = λ (i : ℕ). record_held (word_at c.args.table.now c.args.f (2 + i)) in
    let made : c.from_fn.result ≡ listed 8 known =
    made_listed known (λ i y q called. (search rules, search rules)) not_open c.from_fn.ensures.items in
    rw (
      made,
      c.version_of.ensures,
      c.last_of.ensures,
      c.waiter_of.ensures,
      c.mode_of.ensures,
      c.calls_of.ensures,
    )

-- `keep_before` meets its contract, by whether the step is one on all files. Assumes nothing.
use Prim.Native.Nat.{ℕ, ◌+◌, ◌*◌, ◌%◌}
use mathlib.Core.Path.{◌≡◌, sym, ◌∙◌, ap}
use mathlib.Core.Bool.{Bool, true, false, cond}
use mathlib.Core.List.{List}
use lib.Dec.{leb}
use lib.ListN.{get_or}
use borrow.Author.Tests.{le-leb, lt-leb}
use Rattle.sizes.specs.Sizes.{max_files}
use Rattle.decision.specs.Lists.{stored}
use Rattle.words.specs.Rows.{row_words, table_words}
use Rattle.sentences.specs.Scene.{kept_before}
use Rattle.sentences.proofs.scene.keep_before.Goals as goal

-- so many words from here on
module _ (kind f : ℕ) (t before : List ℕ) where
  abbrev kept : ℕ → ℕ → List ℕ
  kept from words = stored words (λ k. from + k) (λ k. get_or t (from + k) 0) before

  abbrev by-test : Bool → List ℕ
  by-test all = kept (cond all 0 (f % max_files * row_words)) (cond all table_words row_words)

  whole : leb 11 kind ≡ true → kept 0 table_words ≡ kept_before kind f t before
  whole e = sym (ap by-test e)

  row : leb 11 kind ≡ false → kept (f % max_files * row_words) row_words ≡ kept_before kind f t before
  row e = sym (ap by-test e)

pub returns-then-kind-ge-RESTART : goal.returns-then-kind-ge-RESTART
returns-then-kind-ge-RESTART c =
    let a = c.args in
    c.keep_words.ensures ∙ whole a.kind a.file a.table.now a.before.now (le-leb 11 _ c.if-kind-ge-RESTART.true)

pub returns-else-kind-ge-RESTART : goal.returns-else-kind-ge-RESTART
returns-else-kind-ge-RESTART c =
    let a = c.args in
    c.keep_words-else-kind-ge-RESTART.ensures ∙ row a.kind a.file a.table.now a.before.now (lt-leb 11 _ c.if-kind-ge-RESTART.false)

-- What is kept from before a step has the row of its file, and before a step on all files the whole table; and what is
-- said of such a step looks at the files in force alone. Assumes nothing.
use Prim.Native.Nat.{ℕ, zero, suc, ◌+◌, ◌*◌, ◌%◌, ◌≤◌, ◌<◌}
use mathlib.Core.Path.{◌≡◌, refl, ap, ◌∙◌, subst⁻¹, fun_ext}
use mathlib.Core.Bool.{Bool, true, cond}
use mathlib.Core.List.{List, ◌++◌}
use native.Mathlib.Omega.{arith}
use lib.Dec.{leb}
use lib.ListN.{length, get_or}
use Rattle.sizes.proofs.Choosing.{split}
use Rattle.sizes.specs.declared.sizes.Sizes.{Sizes}
use Rattle.sizes.specs.Sizes.{max_files}
use Rattle.records.specs.Record.{is_open}
use Rattle.decision.specs.Lists.{stored}
use Rattle.decision.proofs.Counting.{count_agree}
use Rattle.decision.proofs.Storing.{get_d_stored, length_stored, stored_whole}
use Rattle.protocol.specs.declared.client.ClientFile.{ClientFile}
use Rattle.words.specs.Rows.{row_words, table_words, file_held}
use Rattle.words.proofs.Places.{same_row}
use Rattle.stepfile.specs.Text.{bytes}
use Rattle.phrases.specs.Phrase.{numbers_text, list_text}
use Rattle.phrases.specs.Accepted.{risks_text}
use Rattle.sentences.specs.Scene.{Whole, kept_before}
use Rattle.sentences.specs.Explained.{granted_text, grants_text, opened_text, forgotten_text}

-- ---- what is kept

module _ (t b₀ : List ℕ) (t-long : length t ≡ table_words) (b_long : length b₀ ≡ table_words) where
  pub kept_whole : (kind f : ℕ) → leb 11 kind ≡ true → kept_before kind f t b₀ ≡ t
  kept_whole kind f is =
      let from-0 : ◌≡◌ {A = ℕ → ℕ} (λ k. 0 + k) (λ k. k) = fun_ext (λ k. omega arith) in
      subst⁻¹
      (λ k.
      stored (cond k table_words row_words) (λ j. cond k 0 (f % max_files * row_words) + j)
      (λ j. get_or t (cond k 0 (f % max_files * row_words) + j) 0) b₀
      ≡ t)
      is
      (ap (λ (g : ℕ → ℕ). stored table_words g (λ k. get_or t (g k) 0) b₀) from-0
      ∙ stored_whole table_words 0 t b₀ t-long b_long)

  -- a word of the row that is kept alone
  kept_word :
      (from k : ℕ)
      → k < row_words
      → from + row_words ≤ table_words
      → get_or (stored row_words (λ j. from + j) (λ j. get_or t (from + j) 0) b₀) (from + k) 0 ≡ get_or t (from + k) 0
  kept_word from k below fits =
      get_d_stored row_words (λ j. from + j) (λ j. get_or t (from + j) 0) b₀ 0 k below (omega (arith, b_long, below, fits))
      (λ j a b e. omega (arith, a, e))

  pub kept_row : (kind f : ℕ) → file_held (kept_before kind f t b₀) (f % max_files) ≡ file_held t (f % max_files)
  kept_row kind f =
      split (leb 11 kind)
      (λ e. ap (λ (l : List ℕ). file_held l (f % max_files)) (kept_whole kind f e))
      (λ e.
      subst⁻¹
      (λ k.
      file_held (stored (cond k table_words row_words) (λ j. cond k 0 (f % max_files * row_words) + j)
      (λ j. get_or t (cond k 0 (f % max_files * row_words) + j) 0) b₀) (f % max_files)
      ≡ file_held t (f % max_files))
      e
      (same_row (stored row_words (λ j. f % max_files * row_words + j) (λ j. get_or t (f % max_files * row_words + j) 0) b₀) t
      (f % max_files)
      (λ k below. kept_word (f % max_files * row_words) k below (omega arith))))

-- its length is the same
pub stored_long :
    (n : ℕ) (place v : ℕ → ℕ) (l₀ l : List ℕ) (m : ℕ) → l ≡ stored n place v l₀ → length l₀ ≡ m → length l ≡ m
stored_long n place v l₀ l m is long = ap length is ∙ length_stored n place v l₀ ∙ long

-- ---- what a step on all files is told by

numbers_agree : (n : ℕ) (p q : ℕ → Bool) → ((k : ℕ) → k < n → p k ≡ q k) → numbers_text n p ≡ numbers_text n q
unfolding numbers_text
numbers_agree zero p q same = refl
numbers_agree (suc n) p q same =
    rw (numbers_agree n p q (λ k h. same k (omega arith)), same n (omega arith))

list_agree : (n : ℕ) (p q : ℕ → Bool) → ((k : ℕ) → k < n → p k ≡ q k) → list_text n p ≡ list_text n q
list_agree n p q same = rw (count_agree n p q same, numbers_agree n p q same)

-- two scenes that are alike on the first n files
pub record Alike (n : ℕ) (w v : Whole) : Type 0 where
  pub entry : (f : ℕ) → f < n → w.entry f ≡ v.entry f
  pub after : (f : ℕ) → f < n → w.after f ≡ v.after f
  pub side : (i f : ℕ) → f < n → w.side i f ≡ v.side i f
  pub lines : w.lines ≡ v.lines

grants_agree : (m n : ℕ) (w v : Whole) (i k : ℕ) → k ≤ n → Alike n w v → grants_text m w i k ≡ grants_text m v i k
unfolding grants_text
grants_agree m n w v i zero fits h = refl
grants_agree m n w v i (suc k) fits h =
    let below : k < n = omega arith in
    ap (λ (l : List ℕ). l ++ granted_text m i (w.entry k) (w.after k) (w.side (w.entry k).waiter k) k)
    (grants_agree m n w v i k (omega arith) h)
    ∙ (λ j.
    grants_text m v i k
    ++ granted_text m i (h.entry k below j) (h.after k below j) (h.side (h.entry k below j).waiter k below j) k)

pub opened_agree : (z : Sizes) (w v : Whole) (i : ℕ) → Alike z.files w v → opened_text z w i ≡ opened_text z v i
opened_agree z w v i h =
    ap (λ (l : List ℕ). bytes "; files it had open:" ++ l)
    (list_agree z.files (λ f. is_open (w.side i f).opens) (λ f. is_open (v.side i f).opens)
    (λ f below. ap (λ (c : ClientFile). is_open c.opens) (h.side i f below)))

pub forgotten_agree : (z : Sizes) (w v : Whole) (i : ℕ) → Alike z.files w v → forgotten_text z w i ≡ forgotten_text z v i
forgotten_agree z w v i h =
    let opened = opened_agree z w v i h in
    let granted = grants_agree z.clients z.files w v i z.files (omega arith) h in
    λ j.
    opened j ++ (bytes "; writes lost:" ++ (risks_text (h.lines j) i z.files z.blocks ++ granted j))

-- A list of numbers: it grows with each number, it is empty exactly where none is listed, and it looks at the property
-- below its bound only. Assumes nothing.
use Prim.Native.Nat.{ℕ, zero, suc, ◌+◌, ◌≤◌, ◌<◌}
use mathlib.Core.Path.{◌≡◌, refl, sym, ◌∙◌, ap}
use mathlib.Core.Bool.{Bool, false, cond}
use mathlib.Core.List.{List, [], ◌∷◌, ◌++◌, append-nil}
use native.Mathlib.Numerals.{add-one}
use native.Mathlib.Omega.{arith}
use lib.Dec.{eqb}
use lib.ListN.{length, get_or, length-append}
use borrow.Author.Tests.{eq-eqb, ne_eqb}
use Rattle.sizes.proofs.Choosing.{when, unless, split}
use Rattle.decision.specs.Lists.{count, stored}
use Rattle.decision.proofs.Counting.{count_agree}
use Rattle.decision.proofs.Storing.{get_d_stored}
use Rattle.stepfile.specs.Text.{bytes, argument_text}
use Rattle.writer.specs.Buffer.{Wrote}
use Rattle.writer.proofs.Buffers.{wrote_then, wrote_as}
use Rattle.phrases.specs.Phrase.{numbers_text, list_text}

pub numbers_next : (n : ℕ) (p : ℕ → Bool) → numbers_text (suc n) p ≡ numbers_text n p ++ cond (p n) (argument_text n) []
unfolding numbers_text
numbers_next n p = refl

-- none is counted: nothing is written, and the other way about
none_counted : (n : ℕ) (p : ℕ → Bool) → count n p ≡ 0 → length (numbers_text n p) ≡ 0
unfolding numbers_text count
none_counted zero p e = refl
none_counted (suc n) p e =
    split (p n)
    (λ t.
    let one : count n p + 1 ≡ 0 = ap (λ k. count n p + k) (sym (when 1 0 t)) ∙ e in
    absurd (omega (arith, one)))
    (λ t.
    let rest : count n p + 0 ≡ 0 = ap (λ k. count n p + k) (sym (unless 1 0 t)) ∙ e in
    ap (λ l. length (numbers_text n p ++ l)) (unless (argument_text n) [] t)
    ∙ ap length (append-nil (numbers_text n p))
    ∙ none_counted n p (omega (arith, rest)))

none_written : (n : ℕ) (p : ℕ → Bool) → length (numbers_text n p) ≡ 0 → count n p ≡ 0
unfolding numbers_text count
none_written zero p e = refl
none_written (suc n) p e =
    let both : length (numbers_text n p) + length (cond (p n) (argument_text n) []) ≡ 0 =
    sym (length-append (numbers_text n p) (cond (p n) (argument_text n) [])) ∙ e in
    split (p n)
    (λ t.
    let more : length (cond (p n) (argument_text n) []) ≡ length (argument_text n) =
    ap length (when (argument_text n) [] t) in
    absurd (omega (arith, both, more)))
    (λ t.
    let before : count n p ≡ 0 = none_written n p (omega (arith, both)) in
    ap (λ k. count n p + k) (unless 1 0 t) ∙ omega (arith, before))

no_text : (l : List ℕ) → length l ≡ 0 → l ≡ []
no_text [] e = refl
no_text (b ∷ l) e = absurd (omega (arith, e))

empty_list : (n : ℕ) (p : ℕ → Bool) → length (numbers_text n p) ≡ 0 → numbers_text n p ++ bytes " none" ≡ list_text n p
empty_list n p e =
    ap (λ l. l ++ bytes " none") (no_text (numbers_text n p) e)
    ∙ sym (when (bytes " none") (numbers_text n p) (eq-eqb (count n p) 0 (none_written n p e)))

some_list : (n : ℕ) (p : ℕ → Bool) → (length (numbers_text n p) ≡ 0 → ⊥) → numbers_text n p ≡ list_text n p
some_list n p e =
    sym (unless (bytes " none") (numbers_text n p) (ne_eqb (count n p) 0 (λ z. e (none_counted n p z))))

-- a list is written number by number; where nothing is, " none" is
module _
    (p : ℕ → Bool) (i : ℕ) {d : List ℕ} {at : ℕ} {d' : List ℕ} {next : ℕ} (so_far : Wrote d at (numbers_text i p) d' next) where
  pub wrote_number :
      {d'' : List ℕ} {past : ℕ}
      → Wrote d' next (cond (p i) (argument_text i) []) d'' past
      → Wrote d at (numbers_text (i + 1) p) d'' past
  wrote_number more = rw (add-one i) (wrote_as (sym (numbers_next i p)) (wrote_then so_far more))

  wrote_all : {n : ℕ} → i ≡ n → Wrote d at (numbers_text n p) d' next
  wrote_all all = wrote_as (ap (λ m. numbers_text m p) all) so_far

  pub wrote_empty_list :
      {n : ℕ} {d'' : List ℕ} {past : ℕ}
      → i ≡ n
      → next ≡ at
      → Wrote d' next (bytes " none") d'' past
      → Wrote d at (list_text n p) d'' past
  wrote_empty_list {n} all still none =
      let numbers = wrote_all all in
      wrote_as (empty_list n p (omega (arith, numbers.next, still))) (wrote_then numbers none)

  pub wrote_some_list : {n : ℕ} → i ≡ n → (next ≡ at → ⊥) → Wrote d at (list_text n p) d' next
  wrote_some_list {n} all moved =
      let numbers = wrote_all all in
      wrote_as (some_list n p (λ none. moved (omega (arith, numbers.next, none)))) numbers

-- two properties that agree below n
module _ (p q : ℕ → Bool) where
  numbers_agree : (n : ℕ) → ((k : ℕ) → k < n → p k ≡ q k) → numbers_text n p ≡ numbers_text n q
  unfolding numbers_text
  numbers_agree zero same = refl
  numbers_agree (suc n) same = rw (numbers_agree n (λ k h. same k (omega arith)), same n (omega arith))

  pub list_agree : (n : ℕ) → ((k : ℕ) → k < n → p k ≡ q k) → list_text n p ≡ list_text n q
  list_agree n same =
      ap (λ k. cond (eqb k 0) (bytes " none") (numbers_text n p)) (count_agree n p q same)
      ∙ ap (λ l. cond (eqb (count n q) 0) (bytes " none") l) (numbers_agree n same)

-- the property, as the flags that stand for it
pub list_of_flags :
    (n : ℕ) (p : ℕ → Bool) (l : List Bool)
    → n ≤ length l
    → list_text n (λ k. get_or (stored n (λ i. i) p l) k false) ≡ list_text n p
list_of_flags n p l room =
    list_agree (λ k. get_or (stored n (λ i. i) p l) k false) p n
    (λ k below. get_d_stored n (λ i. i) p l false k below (omega arith) (λ j later h. omega arith))

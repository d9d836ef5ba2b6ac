-- What is said of lines, for any kind of state: of some lines and then of others. Assumes nothing.
use Prim.Native.Nat.{ℕ, ◌+◌}
use mathlib.Core.Path.{◌≡◌, sym, ◌∙◌, ap}
use mathlib.Core.List.{List, [], ◌∷◌, ◌++◌, append_assoc, append-nil}
use native.Mathlib.Nat.{add-zero}
use native.Mathlib.Omega.{arith}
use lib.ListN.{length}
use Rattle.stepfile.specs.Transcript.{lines, BreaksLine, transcript, after}
use Rattle.stepfile.proofs.Splitting.{NoLF, lines_more}

module _ {ℓ} {S : Type ℓ} (next : S → ℕ → List ℕ → S) where
  pub after_append : (s : S) (n : ℕ) (xs ys : List (List ℕ))
      → after next s n (xs ++ ys) ≡ after next (after next s n xs) (n + length xs) ys
  unfolding after
  after_append s n [] ys = ap (λ k. after next s k ys) (sym (add-zero n))
  after_append s n (x ∷ xs) ys =
      let one_more : n + 1 + length xs ≡ n + length (x ∷ xs) = omega arith in
      after_append (next s n x) (n + 1) xs ys ∙ ap (λ k. after next (after next (next s n x) (n + 1) xs) k ys) one_more

  -- of a part that ends a line, and of what follows it
  pub after_on : (s : S) (n : ℕ) (a b : List ℕ) → BreaksLine a
      → after next s n (lines (a ++ b)) ≡ after next (after next s n (lines a)) (n + length (lines a)) (lines b)
  after_on s n a b h = ap (after next s n) (h b) ∙ after_append s n (lines a) (lines b)

  -- of one line more
  pub after_more : (s : S) (n : ℕ) (a l : List ℕ) → BreaksLine a → NoLF l
      → after next s n (lines (a ++ (l ++ (10 ∷ [])))) ≡ next (after next s n (lines a)) (n + length (lines a)) l
  unfolding after
  after_more s n a l h none = ap (after next s n) (lines_more a l h none) ∙ after_append s n (lines a) (l ∷ [])

module _ {ℓ} {S : Type ℓ} (say : S → ℕ → List ℕ → List ℕ) (next : S → ℕ → List ℕ → S) where
  pub transcript_append : (s : S) (n : ℕ) (xs ys : List (List ℕ))
      → transcript say next s n (xs ++ ys)
      ≡ transcript say next s n xs ++ transcript say next (after next s n xs) (n + length xs) ys
  unfolding transcript after
  transcript_append s n [] ys = ap (λ k. transcript say next s k ys) (sym (add-zero n))
  transcript_append s n (x ∷ xs) ys =
      let one_more : n + 1 + length xs ≡ n + length (x ∷ xs) = omega arith in
      ap (λ l. say s n x ++ l) (transcript_append (next s n x) (n + 1) xs ys)
      ∙ sym (append_assoc (say s n x) _ _)
      ∙ ap
      (λ k.
      (say s n x ++ transcript say next (next s n x) (n + 1) xs)
      ++ transcript say next (after next (next s n x) (n + 1) xs) k ys)
      one_more

  pub transcript_on : (s : S) (n : ℕ) (a b : List ℕ) → BreaksLine a
      → transcript say next s n (lines (a ++ b))
      ≡ transcript say next s n (lines a)
      ++ transcript say next (after next s n (lines a)) (n + length (lines a)) (lines b)
  transcript_on s n a b h = ap (transcript say next s n) (h b) ∙ transcript_append s n (lines a) (lines b)

  pub transcript_more : (s : S) (n : ℕ) (a l : List ℕ) → BreaksLine a → NoLF l
      → transcript say next s n (lines (a ++ (l ++ (10 ∷ []))))
      ≡ transcript say next s n (lines a) ++ say (after next s n (lines a)) (n + length (lines a)) l
  unfolding transcript
  transcript_more s n a l h none =
      ap (transcript say next s n) (lines_more a l h none)
      ∙ transcript_append s n (lines a) (l ∷ [])
      ∙ ap (λ k. transcript say next s n (lines a) ++ k) (append-nil _)

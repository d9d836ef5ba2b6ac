-- Reading the word of a step. Assumes nothing.
use Prim.Native.Nat.{ℕ, ◌+◌, ◌*◌, ◌≤◌, ◌<◌}
use mathlib.Core.Path.{◌≡◌, refl, sym, ◌∙◌, ap}
use mathlib.Core.List.{List, [], ◌∷◌}
use native.Mathlib.Nat.{add_assoc}
use native.Mathlib.Omega.{arith}
use lib.ListN.{length, get_or, drop, length-drop}
use Rattle.stepfile.specs.Grammar.{nothing, Shape, no_word, words, same, shape_in, shape_of, shaped, step}
use Rattle.sizes.proofs.Choosing.{unless, split}
use Rattle.stepfile.proofs.Digits.{at_offset}
use Rattle.stepfile.proofs.AsWritten.{same_true}

-- fewer than two bytes are no word
short : (l : List ℕ) → length l < 2 → step l ≡ nothing
unfolding step
short [] h = refl
short (a ∷ []) h = refl
short (a ∷ b ∷ l) h = absurd (omega arith)

module _ (s : List ℕ) (at : ℕ) where
  pub step_short : length s < at + 2 → step (drop at s) ≡ nothing
  step_short h = short (drop at s) (rw (length-drop at s) (omega arith))

  -- two bytes: their shape, and the offset after them
  pub step_there : at + 2 ≤ length s → step (drop at s) ≡ shaped (shape_of (get_or s at 0) (get_or s (at + 1) 0)) (drop (at + 2) s)
  unfolding step
  step_there h =
      rw (at_offset s at (omega arith), at_offset s (at + 1) (omega arith), add_assoc at 1 1)

-- The code reads the two bytes as one number.
abbrev pub word_number : List ℕ → ℕ
word_number [] = 0
word_number (p ∷ []) = 0
word_number (p ∷ q ∷ l) = p * 256 + q

same_letters : (p q a b : ℕ) → q < 256 → b < 256 → a * 256 + b ≡ p * 256 + q → (a ≡ p) × (b ≡ q)
same_letters p q a b hq hb e = (omega arith, omega arith)

-- w is the number of no word of the table
abbrev pub NoneOf : ℕ → List (List ℕ × Shape) → Type 0
NoneOf w [] = Unit {0}
NoneOf w (e ∷ es) = (w ≡ word_number e.0 → ⊥) × NoneOf w es

unknown : (t : List (List ℕ × Shape)) (w a b : ℕ) → w ≡ a * 256 + b → NoneOf w t → shape_in t (a ∷ b ∷ []) ≡ no_word
unknown [] w a b is h = refl
unknown (e ∷ es) w a b is h =
    split (same (a ∷ b ∷ []) e.0)
    (λ named. absurd (h.0 (is ∙ ap word_number (same_true (a ∷ b ∷ []) e.0 named))))
    (λ other. unless _ _ other ∙ unknown es w a b is h.1)

module _ (s : List ℕ) (at w : ℕ) (fits : at + 2 ≤ length s) (is : w ≡ get_or s at 0 * 256 + get_or s (at + 1) 0) where
  -- it is the word of the letters p and q
  pub step_word : (p q : ℕ) → q < 256 → get_or s (at + 1) 0 < 256 → w ≡ p * 256 + q → step (drop at s) ≡ shaped (shape_of p q) (drop (at + 2) s)
  step_word p q hq hb e =
      let both = same_letters p q _ _ hq hb (sym is ∙ e) in
      step_there s at fits ∙ rw (both.0, both.1)

  -- it is none of the words
  pub step_unknown : NoneOf w words → step (drop at s) ≡ nothing
  unfolding shape_of shaped
  step_unknown h = step_there s at fits ∙ ap (λ x. shaped x (drop (at + 2) s)) (unknown words w _ _ is h)

-- The end of the input: LF after the rest ends its line and leaves the lines as they were; what LF ends has no rest.
-- Assumes nothing.
use Prim.Native.Nat.{ℕ, zero, suc, ◌+◌, ◌<◌}
use mathlib.Core.Path.{◌≡◌, refl, sym, ap, subst, ◌∙◌}
use mathlib.Core.Bool.{true≢false}
use mathlib.Core.List.{List, [], ◌∷◌, ◌++◌}
use native.Mathlib.Numerals.{add-one}
use native.Mathlib.Omega.{arith}
use lib.ListN.{length, take, drop, set, length-set}
use lib.Seq.{length-take-le, take-suc-set, drop-drop}
use borrow.Author.Tests.{lt-ltb, eq-eqb, ne_eqb, eqb-true, eqb-false}
use lib.Dec.{eqb}
use Rattle.sizes.proofs.Choosing.{when, unless, split}
use Rattle.stepfile.specs.Transcript.{lines}
use Rattle.stepfile.proofs.Splitting.{NoLF, breaks_none, lines_completed}
use Rattle.telling.specs.Turn.{lacks_lf, completed_buffer, completed_count}

pub take_none : (n : ℕ) → take {A = ℕ} n [] ≡ []
take_none zero = refl
take_none (suc n) = refl

-- no rest is left that LF does not end
abbrev pub Terminated : List ℕ → Type 0
Terminated d = (k : ℕ) → NoLF (drop k d) → drop k d ≡ []

pub terminated_none : Terminated []
terminated_none zero none = refl
terminated_none (suc k) none = refl

has_lf : (p : List ℕ) → NoLF (p ++ (10 ∷ [])) → ⊥
has_lf [] none = true≢false none.0
has_lf (b ∷ p) none = has_lf p none.1

terminated_lf : (p : List ℕ) → Terminated (p ++ (10 ∷ []))
terminated_lf p zero none = absurd (has_lf p none)
terminated_lf [] (suc k) none = terminated_none k none
terminated_lf (b ∷ p) (suc k) none = terminated_lf p k none

pub terminated_drop : (d : List ℕ) (n : ℕ) → Terminated d → Terminated (drop n d)
terminated_drop d n h k none = drop-drop k n d ∙ h (n + k) (subst NoLF (drop-drop k n d) none)

-- LF after a line that has none
after_line : (d : List ℕ) → NoLF d → 0 < length d → lines (d ++ (10 ∷ [])) ≡ lines d
after_line [] none some = absurd (omega arith)
after_line (b ∷ l) none some = lines_completed [] b l breaks_none none

-- LF after the rest leaves the buffer its length
pub completed_long : (buffer : List ℕ) (rest : ℕ) → length (completed_buffer buffer rest) ≡ length buffer
completed_long buffer rest =
    split (lacks_lf buffer rest) (λ e. ap length (when _ _ e) ∙ length-set buffer rest 10) (λ e. ap length (unless _ _ e))

-- the rest at the end of the input, with room for LF after it
module _ (buffer : List ℕ) (rest : ℕ) (room : rest < length buffer) where
  abbrev bytes : List ℕ
  bytes = take (completed_count buffer rest) (completed_buffer buffer rest)

  with_lf : (rest ≡ 0 → ⊥) → bytes ≡ take rest buffer ++ (10 ∷ [])
  with_lf some =
      rw (ne_eqb rest 0 some, lt-ltb rest (length buffer) room) (ap (λ (k : ℕ). take k (set buffer rest 10)) (add-one rest) ∙ take-suc-set buffer rest 10 room)

  without : rest ≡ 0 → bytes ≡ take rest buffer
  without e = rw (eq-eqb rest 0 e)

  by_rest : (P : Type 0) → (rest ≡ 0 → P) → ((rest ≡ 0 → ⊥) → P) → P
  by_rest P none some =
      split (eqb rest 0) (λ e. none (eqb-true rest 0 e)) (λ e. some (eqb-false rest 0 e))

  pub last_line : NoLF (take rest buffer) → lines bytes ≡ lines (take rest buffer)
  last_line none =
      by_rest _
      (λ e. ap lines (without e))
      (λ some.
      let long : 0 < length (take rest buffer) = rw (length-take-le rest buffer (omega arith)) (omega arith) in
      ap lines (with_lf some) ∙ after_line (take rest buffer) none long)

  pub last_terminated : Terminated bytes
  last_terminated =
      by_rest _
      (λ e. subst Terminated (sym (without e ∙ ap (λ (k : ℕ). take k buffer) e)) terminated_none)
      (λ some. subst Terminated (sym (with_lf some)) (terminated_lf (take rest buffer)))

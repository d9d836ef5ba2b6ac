-- Those of a part of a list that have a property, counted. Assumes nothing.
use Prim.Native.Nat.{ℕ, zero, suc, ◌+◌, ◌≤◌, ◌<◌}
use mathlib.Core.Path.{◌≡◌, refl, sym, ap, ◌∙◌}
use mathlib.Core.Bool.{Bool, cond}
use mathlib.Core.List.{List}
use native.Mathlib.Nat.{add-zero}
use native.Mathlib.Numerals.{add-one}
use native.Mathlib.Omega.{arith}
use lib.ListN.{length, get_or, take, drop, length-drop}
use Rattle.std.specs.List.{count_by}
use Rattle.std.proofs.lemmas.List.{get_or-drop}
use Rattle.std.proofs.lemmas.List.Sums.{count_by_more_yes, count_by_more_no}
use Rattle.sizes.proofs.Choosing.{split}
use Rattle.decision.specs.Lists.{count}

module _ {A : Type 0} (p : A → Bool) (l : List A) (d : A) where
  one_more : (n : ℕ) → n < length l → count_by p (take (n + 1) l) ≡ count_by p (take n l) + cond (p (get_or l n d)) 1 0
  one_more n more =
      split (p (get_or l n d))
      (λ e. count_by_more_yes p l n d more e ∙ ap (λ b. count_by p (take n l) + cond b 1 0) (sym e))
      (λ e. count_by_more_no p l n d more e ∙ sym (add-zero (count_by p (take n l))) ∙ ap (λ b. count_by p (take n l) + cond b 1 0) (sym e))

  pub count_first : (n : ℕ) → n ≤ length l → count_by p (take n l) ≡ count n (λ b. p (get_or l b d))
  unfolding count
  count_first zero fits = refl
  count_first (suc n) fits =
      ap (λ k. count_by p (take k l)) (sym (add-one n))
      ∙ one_more n (omega arith)
      ∙ ap (λ k. k + cond (p (get_or l n d)) 1 0) (count_first n (omega arith))

-- n from an offset on
pub count_part :
    {A : Type 0} (p : A → Bool) (l : List A) (d : A) (at n k : ℕ)
    → k ≡ n
    → at + n ≤ length l
    → count_by p (take k (drop at l)) ≡ count n (λ b. p (get_or l (at + b) d))
count_part p l d at n k is fits =
    ap (λ k. count_by p (take k (drop at l))) is
    ∙ count_first p (drop at l) d n (omega (arith, length-drop at l))
    ∙ ap (count n) (λ i b. p (get_or-drop at l b d i))

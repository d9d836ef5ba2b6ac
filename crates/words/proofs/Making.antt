-- An array made by a closure that is called at each place: where each call gives the value of its place, and leaves the
-- closure as it was, the array is the list of those values. Assumes nothing.
use Prim.Native.Nat.{ℕ, zero, suc, ◌+◌, ◌≤◌, ◌<◌}
use mathlib.Core.Path.{◌≡◌, refl, sym, subst, ◌∙◌}
use mathlib.Core.List.{List}
use native.Mathlib.Omega.{arith}
use lib.Dec.{eqb}
use lib.ListN.{length, get_or}
use lib.Seq.{ext_get_or}
use borrow.Author.Tests.{eqb-true, eqb-false}
use Rattle.std.specs.Array.{IsFromFnResult, IsFromFnResultFrom}
use Rattle.std.specs.Fn.{Mut, Called}
use Rattle.sizes.proofs.Choosing.{split}
use Rattle.words.specs.Rows.{listed}
use Rattle.words.proofs.Listing.{length_listed, get_d_listed}

module _ {F B : Type 0} {g : Mut F (ℕ × Unit {0}) B} {f : F} (h : ℕ → B)
    (gives : (i : ℕ) (y : B) (q : F) → Called g f (i, tt) y q → (y ≡ h i) × (q ≡ f)) where
  each_given :
      (n i : ℕ) (ys : List B) (d : B) (p : F)
      → p ≡ f → IsFromFnResultFrom g p ys i n → (k : ℕ) → i ≤ k → k < i + n → get_or ys k d ≡ h k
  each_given zero i ys d p same made k low high = absurd (omega arith)
  each_given (suc n) i ys d p same made k low high =
      let once = gives i made.1 made.0 (subst (λ (x : F). Called g x (i, tt) made.1 made.0) same made.3) in
      split (eqb i k)
      (λ e. subst (λ (j : ℕ). get_or ys j d ≡ h j) (eqb-true i k e) (made.2.1 d ∙ once.0))
      (λ e. each_given n (i + 1) ys d made.0 once.1 made.4 k (omega (arith, eqb-false i k e)) (omega arith))

  pub made_listed : {ys : List B} {n : ℕ} (d : B) → IsFromFnResult g f ys n → ys ≡ listed n h
  made_listed {ys} {n} d made =
      let long : length ys ≡ n = made.long in
      ext_get_or d ys (listed n h) (long ∙ sym (length_listed n h))
      (λ k below.
      each_given n 0 ys d f refl made.each k (omega arith) (omega (arith, below, long))
      ∙ sym (get_d_listed n h d k (omega (arith, below, long))))

-- The entries of a section, put in their places one after the other. Assumes nothing.
use Prim.Native.Nat.{ℕ, zero, suc, ◌<◌}
use mathlib.Core.Path.{◌≡◌, refl, ap, ◌∙◌}
use mathlib.Core.Bool.{Bool, true, false, cond}
use mathlib.Core.List.{List, [], ◌∷◌, ◌++◌}
use native.Mathlib.Omega.{arith}
use Rattle.image.specs.Bytes.{below, entry_if}
use Rattle.restore.specs.Decoded.{placed}

module _ {A : Type 0} (put : List ℕ → A → A) where
  pub placed_append : (xs ys : List (List ℕ)) (a : A) → placed put (xs ++ ys) a ≡ placed put ys (placed put xs a)
  unfolding placed
  placed_append [] ys a = refl
  placed_append (e ∷ xs) ys a = placed_append xs ys (put e a)

  pub placed_if : (t : Bool) (e : List ℕ) (a : A) → placed put (entry_if t e) a ≡ cond t (put e a) a
  unfolding placed
  placed_if true e a = refl
  placed_if false e a = refl

  -- what each number below n makes of the state
  pub placed_below :
      (n : ℕ) (x : ℕ → List (List ℕ)) (state : ℕ → A)
      → ((k : ℕ) → k < n → placed put (x k) (state k) ≡ state (suc k))
      → placed put (below n x) (state 0) ≡ state n
  unfolding placed below
  placed_below zero x state step = refl
  placed_below (suc n) x state step =
      placed_append (below n x) (x n) (state 0)
      ∙ ap (placed put (x n)) (placed_below n x state (λ k h. step k (omega arith)))
      ∙ step n (omega arith)

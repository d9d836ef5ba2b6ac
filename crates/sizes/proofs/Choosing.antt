-- Choosing by a test: `cond b x y` is x where b is true and y where it is false. `unless _ _ e ∙ when _ _ f` passes a
-- chain of tests, with e and f by the lemmas of `borrow.Author.Tests`. Assumes nothing.
use mathlib.Core.Path.{◌≡◌, refl, sym, ap, ◌∙◌}
use mathlib.Core.Bool.{Bool, true, false, cond, not, ◌&&◌, true≢false}

module _ {ℓ} {A : Type ℓ} where
  pub when : {b : Bool} (x y : A) → b ≡ true → cond b x y ≡ x
  when x y e = ap (λ (t : Bool). cond t x y) e

  pub unless : {b : Bool} (x y : A) → b ≡ false → cond b x y ≡ y
  unless x y e = ap (λ (t : Bool). cond t x y) e

  pub cond_not : (b : Bool) (x y : A) → cond (not b) x y ≡ cond b y x
  cond_not true x y = refl
  cond_not false x y = refl

-- a test holds or fails, and never both
pub split {ℓ} : {A : Type ℓ} (b : Bool) → (b ≡ true → A) → (b ≡ false → A) → A
split true f g = f refl
split false f g = g refl

pub conflict {ℓ} : {A : Type ℓ} {b : Bool} → b ≡ true → b ≡ false → A
conflict p q = absurd (true≢false (sym p ∙ q))

-- where two tests hold, each does
pub and_left : (a b : Bool) → (a && b) ≡ true → a ≡ true
and_left true b e = refl
and_left false b e = e

pub and_right : (a b : Bool) → (a && b) ≡ true → b ≡ true
and_right true b e = e
and_right false b e = conflict e refl

-- The two outcomes of a test, alone and under `&&` and `cond`. They serve every proof about the service. Assumes
-- nothing.
use Prim.Native.Nat.{ℕ}
use mathlib.Core.Path.{◌≡◌, refl}
use mathlib.Core.Bool.{Bool, true, false, cond, ◌&&◌, ◌||◌}
use lib.Dec.{eqb}
use borrow.Author.Tests.{eq-eqb}
pub use Rattle.sizes.proofs.Choosing.{split, conflict, when, unless, cond_not}

-- what holds of both values that a test chooses between
pub either {ℓ ℓ'} :
    {A : Type ℓ} (P : A → Type ℓ') (t : Bool) {a b : A} → (t ≡ true → P a) → (t ≡ false → P b) → P (cond t a b)
either P true p q = p refl
either P false p q = q refl

-- a function of what a test chooses
pub cond_ap {ℓ ℓ'} :
    {A : Type ℓ} {B : Type ℓ'} (h : A → B) (t : Bool) (a b : A) → h (cond t a b) ≡ cond t (h a) (h b)
cond_ap h true a b = refl
cond_ap h false a b = refl

pub eqb_same : (k : ℕ) → eqb k k ≡ true
eqb_same k = eq-eqb k k refl

pub both : (x y : Bool) → (x && y) ≡ true → (x ≡ true) × (y ≡ true)
both true y e = (refl, e)
both false y e = conflict e refl

-- where neither of two tests holds the first does not
pub neither_first : (x y : Bool) → (x || y) ≡ false → x ≡ false
neither_first true y e = e
neither_first false y e = refl

pub and_true : (x : Bool) → (x && true) ≡ x
and_true true = refl
and_true false = refl

pub and_false : (x : Bool) → (x && false) ≡ false
and_false true = refl
and_false false = refl

and_comm : (x y : Bool) → (x && y) ≡ (y && x)
and_comm true true = refl
and_comm true false = refl
and_comm false true = refl
and_comm false false = refl

pub and_swap : (x y z : Bool) → (x && y && z) ≡ (x && z && y)
and_swap true y z = and_comm y z
and_swap false y z = refl

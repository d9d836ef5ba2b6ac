-- Flags: what follows from the tests `&&`, `||` and `eqb`, and the one split "the same client or another" that every
-- step needs. Assumes nothing.
use Prim.Native.Nat.{ℕ}
use mathlib.Core.Path.{◌≡◌, refl, sym, subst}
use mathlib.Core.Bool.{Bool, true, false, cond, ◌&&◌, ◌||◌}
use mathlib.Core.Logic.{◌⊎◌, inl, inr}
use native.Mathlib.Omega.{arith}
use lib.Dec.{eqb, ltb}
use borrow.Author.Tests.{eqb-true, eqb-false, eq-eqb, ne_eqb, lt-ltb}
use Rattle.protocol.proofs.View.{at}
pub use Rattle.sizes.proofs.Choosing.{split, conflict, and_left, and_right}

pub is_false : (b : Bool) → (b ≡ true → ⊥) → b ≡ false
is_false true f = absurd (f refl)
is_false false f = refl

-- `split` for what goes by the flag
pub cases {ℓ} : (P : Bool → Type ℓ) (b : Bool) → (b ≡ true → P true) → (b ≡ false → P false) → P b
cases P true f g = f refl
cases P false f g = g refl

pub and_both : {a b : Bool} → a ≡ true → b ≡ true → (a && b) ≡ true
and_both {b = b} p q = subst (λ x. (x && b) ≡ true) (sym p) q

pub or_left : {a : Bool} (b : Bool) → a ≡ true → (a || b) ≡ true
or_left b p = subst (λ x. (x || b) ≡ true) (sym p) refl

pub or_right : (a : Bool) {b : Bool} → b ≡ true → (a || b) ≡ true
or_right true q = refl
or_right false q = q

pub or_cases : (a b : Bool) → (a || b) ≡ true → (a ≡ true) ⊎ (b ≡ true)
or_cases true b e = inl refl
or_cases false b e = inr e

pub positive : (x : ℕ) → eqb x 0 ≡ false → ltb 0 x ≡ true
positive x e = let ne = eqb-false x 0 e in lt-ltb 0 x (omega arith)

-- "another client", seen from either side
pub other_sym : (s t : ℕ) → eqb t s ≡ false → eqb s t ≡ false
other_sym s t e = ne_eqb s t (λ q. eqb-false t s e (sym q))

-- What goes by whether client j is the client i.
pub change {ℓ} :
    (P : ℕ → Bool → Type ℓ) (i : ℕ)
    → P i true
    → ((j : ℕ) → eqb j i ≡ false → P j false)
    → (j : ℕ)
    → P j (eqb j i)
change P i same other j =
    cases (λ b. P j b) (eqb j i) (λ e. subst (λ k. P k true) (sym (eqb-true j i e)) same) (λ e. other j e)

pub at_same {ℓ} : {A : Type ℓ} (i : ℕ) (a : A) (g : ℕ → A) → at i a g i ≡ a
at_same i a g = subst (λ b. cond b a (g i) ≡ a) (sym (eq-eqb i i refl)) refl

pub at_other {ℓ} : {A : Type ℓ} (i j : ℕ) (a : A) (g : ℕ → A) → eqb j i ≡ false → at i a g j ≡ g j
at_other i j a g e = subst (λ b. cond b a (g j) ≡ g j) (sym e) refl

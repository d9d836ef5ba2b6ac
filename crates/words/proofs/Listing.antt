-- Lists by place. Assumes nothing.
use Prim.Native.Nat.{ℕ, zero, suc, ◌<◌}
use mathlib.Core.Path.{◌≡◌, refl, sym, ap, ap₂, ◌∙◌}
use mathlib.Core.List.{List, ◌∷◌}
use mathlib.Core.Logic.{◌≢◌}
use native.Mathlib.Omega.{arith}
use lib.ListN.{length, get_or, set}
use Rattle.decision.specs.Lists.{stored}
use Rattle.decision.proofs.Storing.{stored_agree, stored_whole}
use Rattle.words.specs.Rows.{listed}

module _ {ℓ} {A : Type ℓ} where
  pub length_listed : (n : ℕ) (g : ℕ → A) → length (listed n g) ≡ n
  unfolding listed
  length_listed zero g = refl
  length_listed (suc n) g = ap suc (length_listed n (λ i. g (suc i)))

  pub get_d_listed : (n : ℕ) (g : ℕ → A) (d : A) (i : ℕ) → i < n → get_or (listed n g) i d ≡ g i
  unfolding listed
  get_d_listed zero g d i h = absurd (omega arith)
  get_d_listed (suc n) g d zero h = refl
  get_d_listed (suc n) g d (suc i) h = get_d_listed n (λ k. g (suc k)) d i (omega arith)

  pub listed_agree :
      (n : ℕ) (g h : ℕ → A) → ((k : ℕ) → k < n → g k ≡ h k) → listed n g ≡ listed n h
  unfolding listed
  listed_agree zero g h same = refl
  listed_agree (suc n) g h same =
      ap₂ ◌∷◌ (same 0 (omega arith)) (listed_agree n (λ k. g (suc k)) (λ k. h (suc k)) (λ k lt. same (suc k) (omega arith)))

  -- one place has another value, and all others are alike
  pub listed_set :
      (n : ℕ) (g h : ℕ → A) (i : ℕ) (v : A)
      → i < n
      → h i ≡ v
      → ((k : ℕ) → k < n → k ≢ i → h k ≡ g k)
      → listed n h ≡ set (listed n g) i v
  unfolding listed
  listed_set zero g h i v lt at same = absurd (omega arith)
  listed_set (suc n) g h zero v lt at same =
      ap₂ ◌∷◌ at
      (listed_agree n (λ k. h (suc k)) (λ k. g (suc k)) (λ k l. same (suc k) (omega arith) (λ e. omega arith)))
  listed_set (suc n) g h (suc i) v lt at same =
      ap₂ ◌∷◌ (same 0 (omega arith) (λ e. omega arith))
      (listed_set n (λ k. g (suc k)) (λ k. h (suc k)) i v (omega arith) at
      (λ k l off. same (suc k) (omega arith) (λ e. off (omega arith))))

-- what a loop leaves that stores element after element
pub stored_listed {ℓ} : {A : Type ℓ} (n : ℕ) (d : A) (g : ℕ → A) (l : List A) → length l ≡ n → stored n (λ i. i) g l ≡ listed n g
stored_listed n d g l long =
    stored_agree n (λ i. i) g (λ i. get_or (listed n g) i d) l (λ i h. sym (get_d_listed n g d i h))
    ∙ stored_whole n d (listed n g) l (length_listed n g) long

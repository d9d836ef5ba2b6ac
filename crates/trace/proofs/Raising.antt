-- Eight totals, raised one after the other, are `raised` from the first on. Assumes nothing.
use Prim.Native.Nat.{ℕ, ◌+◌}
use mathlib.Core.Path.{◌≡◌, refl, ◌∙◌}
use native.Mathlib.Omega.{arith}
use mathlib.Core.Bool.{Bool}
use mathlib.Core.List.{List, [], ◌∷◌}
use lib.ListN.{get_or, set}
use Rattle.trace.specs.Counted.{raised_if, raised}

-- m are the totals l with one of them raised, if it counts
abbrev Raises : Bool → ℕ → List ℕ → List ℕ → Type 0
Raises c at l m = m ≡ set l at (raised_if c (get_or l at 0))

-- one that is raised before the others
raised_next :
    (c : Bool) (cs : List Bool) (at next : ℕ) (l m last : List ℕ)
    → at + 1 ≡ next
    → Raises c at l m
    → last ≡ raised cs next m
    → last ≡ raised (c ∷ cs) at l
unfolding raised
raised_next c cs at next l m last is raises rest = rest ∙ rw (← is, raises)

raised_last : (c : Bool) (at : ℕ) (l last : List ℕ) → Raises c at l last → last ≡ raised (c ∷ []) at l
unfolding raised
raised_last c at l last raises = raises

pub raised_eight :
    (at : ℕ) (c₀ c₁ c₂ c₃ c₄ c₅ c₆ c₇ : Bool) (l₀ l₁ l₂ l₃ l₄ l₅ l₆ l₇ l₈ : List ℕ)
    → Raises c₀ at l₀ l₁
    → Raises c₁ (at + 1) l₁ l₂
    → Raises c₂ (at + 2) l₂ l₃
    → Raises c₃ (at + 3) l₃ l₄
    → Raises c₄ (at + 4) l₄ l₅
    → Raises c₅ (at + 5) l₅ l₆
    → Raises c₆ (at + 6) l₆ l₇
    → Raises c₇ (at + 7) l₇ l₈
    → l₈ ≡ raised (c₀ ∷ c₁ ∷ c₂ ∷ c₃ ∷ c₄ ∷ c₅ ∷ c₆ ∷ c₇ ∷ []) at l₀
raised_eight at c₀ c₁ c₂ c₃ c₄ c₅ c₆ c₇ l₀ l₁ l₂ l₃ l₄ l₅ l₆ l₇ l₈ r₀ r₁ r₂ r₃ r₄ r₅ r₆ r₇ =
    raised_next c₀ _ at (at + 1) l₀ l₁ l₈ refl r₀
    (raised_next c₁ _ (at + 1) (at + 2) l₁ l₂ l₈ (omega arith) r₁
    (raised_next c₂ _ (at + 2) (at + 3) l₂ l₃ l₈ (omega arith) r₂
    (raised_next c₃ _ (at + 3) (at + 4) l₃ l₄ l₈ (omega arith) r₃
    (raised_next c₄ _ (at + 4) (at + 5) l₄ l₅ l₈ (omega arith) r₄
    (raised_next c₅ _ (at + 5) (at + 6) l₅ l₆ l₈ (omega arith) r₅
    (raised_next c₆ _ (at + 6) (at + 7) l₆ l₇ l₈ (omega arith) r₆
    (raised_last c₇ (at + 7) l₇ l₈ r₇)))))))

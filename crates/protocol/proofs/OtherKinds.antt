-- The kinds of step that the last arm of a match takes: one that has an arm of its own is not among them. Assumes nothing.
use Prim.Native.Nat.{ℕ}
use mathlib.Core.Path.{◌≡◌}
use mathlib.Core.Bool.{Bool, true, not, ◌&&◌}
use mathlib.Core.List.{List, [], ◌∷◌}
use mathlib.Core.Logic.{⊎_elim}
use lib.Dec.{eqb}
use types.Run.{OneOf}
use borrow.Author.Tests.{eqb-false, not-true}
use Rattle.sizes.proofs.Choosing.{and_left, and_right}

abbrev pub absent : List ℕ → ℕ → Bool
absent [] k = true
absent (j ∷ js) k = not (eqb k j) && absent js k

differs : (j : ℕ) (js : List ℕ) (k : ℕ) → absent (j ∷ js) k ≡ true → k ≡ j → ⊥
differs j js k a = eqb-false k j (not-true (eqb k j) (and_left (not (eqb k j)) (absent js k) a))

pub not_among : (js : List ℕ) (k : ℕ) → absent js k ≡ true → OneOf js k → ⊥
not_among [] k a h = h
not_among (j ∷ []) k a h = differs j [] k a h
not_among (j ∷ j' ∷ js) k a h =
    ⊎_elim (differs j (j' ∷ js) k a)
    (λ (rest : OneOf (j' ∷ js) k). not_among (j' ∷ js) k (and_right (not (eqb k j)) (absent (j' ∷ js) k) a) rest)
    h

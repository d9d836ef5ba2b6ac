-- Numbers in bytes, and sections: entries after their count.
use Rattle.std.specs.Prelude.{ℕ, zero, suc, ◌/◌, ◌%◌, Bool, cond, List, [], ◌∷◌, ◌++◌, length}

-- "in four bytes low first": the number n in k bytes, the low byte first
unfoldable pub low : ℕ → ℕ → List ℕ
low zero n = []
low (suc k) n = n % 256 ∷ low k (n / 256)

-- all of x 0, then of x 1, .. and of x (n - 1): in ascending order
unfoldable pub below {ℓ} : {A : Type ℓ} → ℕ → (ℕ → List A) → List A
below zero x = []
below (suc n) x = below n x ++ x n

-- an entry where the test holds; none where it does not
abbrev pub entry_if : Bool → List ℕ → List (List ℕ)
entry_if t e = cond t (e ∷ []) []

-- the bytes of the entries, one after the other
unfoldable pub flat : List (List ℕ) → List ℕ
flat [] = []
flat (e ∷ es) = e ++ flat es

-- "each after its count of two bytes, low byte first"
abbrev pub section : List (List ℕ) → List ℕ
section es = low 2 (length es) ++ flat es

-- Counting, storing and choosing, for any size.
use Rattle.std.specs.Prelude.{ℕ, zero, suc, ◌+◌, Bool, cond, List, [], ◌∷◌, Some, None, ltb, set}
use Rattle.std.specs.declared.option.Option.{Option}

-- how many of the numbers below n have the property p
unfoldable pub count : ℕ → (ℕ → Bool) → ℕ
count zero p = 0
count (suc n) p = count n p + cond (p n) 1 0

-- the first of the numbers below n that has the property p; n where none has
unfoldable pub first_below : ℕ → (ℕ → Bool) → ℕ
first_below zero p = 0
first_below (suc n) p = cond (ltb (first_below n p) n) (first_below n p) (cond (p n) n (suc n))

-- the number k where it is below n, and so was found
abbrev pub found_below : ℕ → ℕ → Option ℕ
found_below n k = cond (ltb k n) (Some k) None

-- the list l with value k stored at place k, for each k below n
unfoldable pub stored {ℓ} : {A : Type ℓ} → ℕ → (ℕ → ℕ) → (ℕ → A) → List A → List A
stored zero at value l = l
stored (suc n) at value l = set (stored n at value l) (at n) (value n)

-- the list l with a in each of its first n places
abbrev pub filled {ℓ} : {A : Type ℓ} → ℕ → A → List A → List A
filled n a l = stored n (λ i. i) (λ i. a) l

-- the number that stands with the first test that holds; 0 where none does
abbrev pub first_of : List (Bool × ℕ) → ℕ
first_of [] = 0
first_of (t ∷ ts) = cond t.0 t.1 (first_of ts)

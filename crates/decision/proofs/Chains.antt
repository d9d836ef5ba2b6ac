-- Counting, by the list functions that chains of iterators over a range are proved with. Assumes nothing.
use Prim.Native.Nat.{ℕ, zero, suc, ◌+◌, ◌≤◌}
use mathlib.Core.Path.{◌≡◌, refl, sym, ap, ◌∙◌}
use mathlib.Core.Bool.{Bool, cond}
use mathlib.Core.List.{List, map-id}
use native.Mathlib.Numerals.{add-one}
use native.Mathlib.Omega.{arith}
use lib.ListN.{length, get_or, take}
use Rattle.std.specs.List.{range_with_len, count_by, sum_by}
use Rattle.std.proofs.lemmas.List.Sums.{sum_by_more}
use Rattle.std.proofs.lemmas.List.FromFn.{sum_by-map-range_with_len_more}
use Rattle.decision.specs.Lists.{count}

-- a sum over the numbers from 0 on, one more of them
pub sum_of_one_more : (n : ℕ) (g : ℕ → ℕ) → sum_by g (range_with_len 0 (suc n)) ≡ sum_by g (range_with_len 0 n) + g n
sum_of_one_more n g =
    sym (ap (λ l. sum_by g l) (map-id (range_with_len 0 (suc n))))
    ∙ rw (add-one n) at (sum_by-map-range_with_len_more g (λ (k : ℕ). k) 0 n n (omega arith))
    ∙ ap (λ l. sum_by g l + g n) (map-id (range_with_len 0 n))

-- how many numbers of a range pass
pub counted_by : (n : ℕ) (p : ℕ → Bool) → count_by p (range_with_len 0 n) ≡ count n p
unfolding count
counted_by zero p = refl
counted_by (suc n) p = sum_of_one_more n (λ k. cond (p k) 1 0) ∙ ap (λ (k : ℕ). k + cond (p n) 1 0) (counted_by n p)

-- how many of the first n of a list pass
pub counted_in : {X : Type 0} (n : ℕ) (d : X) (p : X → Bool) (xs : List X)
    → n ≤ length xs → count_by p (take n xs) ≡ count n (λ k. p (get_or xs k d))
unfolding count
counted_in zero d p xs fits = refl
counted_in (suc n) d p xs fits =
    rw (add-one n) at (sum_by_more (λ x. cond (p x) 1 0) xs n d (omega arith))
    ∙ ap (λ (k : ℕ). k + cond (p (get_or xs n d)) 1 0) (counted_in n d p xs (omega arith))

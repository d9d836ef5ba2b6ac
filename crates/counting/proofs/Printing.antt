-- The texts and the sums of the totals, as the functions put them together. Assumes nothing.
use Prim.Native.Nat.{ℕ, ◌+◌, ◌≤◌, ◌<◌}
use mathlib.Core.Path.{◌≡◌, refl, sym, ◌∙◌, ap}
use mathlib.Core.List.{[], ◌∷◌, ◌++◌}
use native.Mathlib.Numerals.{add-one}
use native.Mathlib.Omega.{arith}
use lib.Dec.{ltb}
use borrow.Author.Tests.{le-ltb, ltb-false}
use Rattle.sizes.specs.Sizes.{max_clients}
use Rattle.sizes.proofs.Choosing.{when, unless, split}
use Rattle.stepfile.specs.Text.{decimal, argument_text}
use Rattle.stepfile.proofs.Decimals.{decimal_small}
use Rattle.trace.specs.Counted.{last_total}
use Rattle.trace.specs.Number.{at_most}
use Rattle.counting.specs.Printed.{columns_text, row_text, stations_text, sum_of}

-- a number up to the last total stays, and one from there on is the last total
pub at_most_small : (n : ℕ) → n ≤ last_total → at_most n ≡ n
at_most_small n h =
    split (ltb n last_total)
    (λ e. when _ _ e)
    (λ e. let low = ltb-false n last_total e in unless _ _ e ∙ omega (arith, low, h))

pub at_most_large : (n : ℕ) → last_total ≤ n → at_most n ≡ last_total
at_most_large n h = unless _ _ (le-ltb n last_total h)

-- a sum whose first part is cut off is cut off alike
pub at_most_again : (a b : ℕ) → at_most (at_most a + b) ≡ at_most (a + b)
at_most_again a b =
    split (ltb a last_total)
    (λ e. ap (λ k. at_most (k + b)) (when _ _ e))
    (λ e.
    let low = ltb-false a last_total e in
    ap (λ k. at_most (k + b)) (unless _ _ e)
    ∙ at_most_large (last_total + b) (omega arith)
    ∙ sym (at_most_large (a + b) (omega (arith, low))))

-- the sum over no station, and over one more
pub sum_none : (number : ℕ → ℕ) → 0 ≡ at_most (sum_of 0 number)
unfolding sum_of
sum_none number = refl

pub sum_next :
    (number : ℕ → ℕ) (i sum next : ℕ)
    → sum ≡ at_most (sum_of i number) → next ≡ at_most (sum + number i) → next ≡ at_most (sum_of (i + 1) number)
unfolding sum_of
sum_next number i sum next known added =
    added
    ∙ ap (λ k. at_most (k + number i)) known
    ∙ at_most_again (sum_of i number) (number i)
    ∙ ap (λ k. at_most (sum_of k number)) (sym (add-one i))

-- a station has one digit
pub digit_of : (i : ℕ) → i < max_clients → (48 + i) ∷ [] ≡ decimal i
digit_of i h = sym (decimal_small i (omega arith))

-- one column more, and one station more
pub columns_next : (c : ℕ) (number : ℕ → ℕ) → columns_text c number ++ argument_text (number c) ≡ columns_text (c + 1) number
unfolding columns_text
columns_next c number = rw (add-one c)

pub stations_next :
    (i : ℕ) (number : ℕ → ℕ → ℕ)
    → stations_text i number ++ row_text (decimal i) (number i) ≡ stations_text (i + 1) number
unfolding stations_text
stations_next i number = rw (add-one i)

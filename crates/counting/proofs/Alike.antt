-- What is printed looks at the numbers of the stations in force and the eight columns alone. Assumes nothing.
use Prim.Native.Nat.{ℕ, zero, suc, ◌+◌, ◌<◌}
use mathlib.Core.Path.{◌≡◌, refl, ap, ◌∙◌}
use mathlib.Core.List.{List, ◌∷◌, [], ◌++◌}
use native.Mathlib.Omega.{arith}
use Rattle.stepfile.specs.Text.{bytes, decimal, argument_text}
use Rattle.trace.specs.Counted.{columns}
use Rattle.trace.specs.Number.{at_most}
use Rattle.counting.specs.Printed.{columns_text, row_text, stations_text, sum_of, all_text, traffic_text}

columns_alike : (n : ℕ) (f g : ℕ → ℕ) → ((c : ℕ) → c < n → f c ≡ g c) → columns_text n f ≡ columns_text n g
unfolding columns_text
columns_alike zero f g same = refl
columns_alike (suc n) f g same =
    ap (λ (x : List ℕ). x ++ argument_text (f n)) (columns_alike n f g (λ c h. same c (omega (arith, h))))
    ∙ ap (λ (x : ℕ). columns_text n g ++ argument_text x) (same n (omega arith))

row_alike : (name : List ℕ) (f g : ℕ → ℕ) → ((c : ℕ) → c < columns → f c ≡ g c) → row_text name f ≡ row_text name g
row_alike name f g same = ap (λ (x : List ℕ). name ++ (x ++ (10 ∷ []))) (columns_alike columns f g same)

stations_alike : (n : ℕ) (f g : ℕ → ℕ → ℕ) → ((i c : ℕ) → i < n → c < columns → f i c ≡ g i c) → stations_text n f ≡ stations_text n g
unfolding stations_text
stations_alike zero f g same = refl
stations_alike (suc n) f g same =
    ap (λ (x : List ℕ). x ++ row_text (decimal n) (f n)) (stations_alike n f g (λ i c h. same i c (omega (arith, h))))
    ∙ ap (λ (x : List ℕ). stations_text n g ++ x) (row_alike (decimal n) (f n) (g n) (λ c. same n c (omega arith)))

sum_alike : (n : ℕ) (f g : ℕ → ℕ) → ((i : ℕ) → i < n → f i ≡ g i) → sum_of n f ≡ sum_of n g
unfolding sum_of
sum_alike zero f g same = refl
sum_alike (suc n) f g same =
    ap (λ (x : ℕ). x + f n) (sum_alike n f g (λ i h. same i (omega (arith, h)))) ∙ ap (λ (x : ℕ). sum_of n g + x) (same n (omega arith))

pub traffic_alike : (n : ℕ) (f g : ℕ → ℕ → ℕ) → ((i c : ℕ) → i < n → c < columns → f i c ≡ g i c) → traffic_text n f ≡ traffic_text n g
traffic_alike n f g same =
    ap (λ (x : List ℕ). x ++ all_text n f) (stations_alike n f g same)
    ∙ ap (λ (x : List ℕ). stations_text n g ++ x)
    (row_alike (bytes "all") _ _
    (λ c h. ap at_most (sum_alike n (λ i. f i c) (λ i. g i c) (λ i below. same i c below h))))

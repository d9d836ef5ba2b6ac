-- A test of the first elements of a list, one after the other, and how many of them it holds of. Assumes nothing.
use Prim.Native.Nat.{ℕ, zero, suc, ◌+◌, ◌≤◌}
use mathlib.Core.Path.{◌≡◌, refl, sym, ◌∙◌, ap}
use mathlib.Core.Bool.{Bool, true, false, cond, ◌||◌}
use mathlib.Core.List.{List}
use native.Mathlib.Numerals.{add-one}
use native.Mathlib.Omega.{arith}
use lib.Dec.{ltb}
use lib.ListN.{length, get_or, take}
use borrow.Author.Tests.{ltb-true, ltb-false, lt-ltb, le-ltb}
use Rattle.std.specs.List.{list_any}
use Rattle.std.proofs.lemmas.List.Folds.{list_any_more}
use Rattle.sizes.proofs.Choosing.{split}
use Rattle.decision.specs.Lists.{count}

alone : (n : ℕ) (b : Bool) → n ≤ 0 → b ≡ ltb 0 (n + cond b 1 0)
alone n true none = sym (lt-ltb 0 (n + 1) (omega arith))
alone n false none = sym (le-ltb 0 (n + 0) (omega arith))

one_more : (n : ℕ) (b : Bool) → (ltb 0 n || b) ≡ ltb 0 (n + cond b 1 0)
one_more n b =
    split (ltb 0 n)
    (λ e. ap (λ t. t || b) e ∙ sym (lt-ltb 0 (n + cond b 1 0) (omega (arith, ltb-true 0 n e))))
    (λ e. ap (λ t. t || b) e ∙ alone n b (ltb-false 0 n e))

pub any_counted : {X : Type 0} (p : X → Bool) (xs : List X) (d : X) (n : ℕ)
    → n ≤ length xs
    → list_any p (take n xs) ≡ ltb 0 (count n (λ i. p (get_or xs i d)))
unfolding count
any_counted p xs d zero h = refl
any_counted p xs d (suc n) h =
    ap (λ k. list_any p (take k xs)) (sym (add-one n))
    ∙ list_any_more p xs n d (omega arith)
    ∙ ap (λ b. b || p (get_or xs n d)) (any_counted p xs d n (omega arith))
    ∙ one_more (count n (λ i. p (get_or xs i d))) (p (get_or xs n d))

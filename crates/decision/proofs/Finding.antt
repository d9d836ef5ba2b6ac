-- Finding: `first_below n p` is the first of the numbers below n that has the property p. Assumes nothing.
use Prim.Native.Nat.{ℕ, zero, suc, ◌<◌}
use mathlib.Core.Path.{◌≡◌, refl, sym}
use mathlib.Core.Bool.{Bool, true, false}
use mathlib.Core.Logic.{⊎_elim}
use native.Mathlib.Nat.{eq-or-lt_of_le, le_of_suc-le-suc}
use native.Mathlib.Omega.{arith}
use lib.Dec.{ltb}
use borrow.Author.Tests.{ltb-true, ltb-false, lt-ltb, le-ltb}
use Rattle.sizes.proofs.Choosing.{split}
use Rattle.std.specs.Prelude.{Some, None}
use Rattle.std.specs.Option.{is_some}
use Rattle.decision.specs.Lists.{first_below, found_below}

-- the numbers below k do not have it
abbrev pub NoneBelow : ℕ → (ℕ → Bool) → Type 0
NoneBelow k p = (i : ℕ) → i < k → p i ≡ false

pub none_below : (p : ℕ → Bool) → NoneBelow 0 p
none_below p i h = absurd (omega arith)

pub none_next : (k : ℕ) (p : ℕ → Bool) → NoneBelow k p → p k ≡ false → NoneBelow (suc k) p
none_next k p none here i h =
    ⊎_elim
    (λ (e : i ≡ k). rw e here)
    (λ (less : i < k). none i less)
    (eq-or-lt_of_le (le_of_suc-le-suc h))

pub first_none : (n : ℕ) (p : ℕ → Bool) → NoneBelow n p → first_below n p ≡ n
unfolding first_below
first_none zero p none = refl
first_none (suc n) p none =
    let before : first_below n p ≡ n = first_none n p (λ i h. none i (omega arith)) in
    rw (before, le-ltb n n (omega arith), none n (omega arith))

pub first_is : (n : ℕ) (p : ℕ → Bool) (k : ℕ) → k < n → p k ≡ true → NoneBelow k p → first_below n p ≡ k
unfolding first_below
first_is zero p k below has none = absurd (omega arith)
first_is (suc n) p k below has none =
    ⊎_elim
    (λ (e : k ≡ n).
    let before : first_below n p ≡ n = first_none n p (λ i h. none i (omega arith)) in
    let here : p n ≡ true = rw (← e) has in
    rw (before, le-ltb n n (omega arith), here) (sym e))
    (λ (less : k < n).
    let before : first_below n p ≡ k = first_is n p k less has none in
    rw (before, lt-ltb k n less))
    (eq-or-lt_of_le (le_of_suc-le-suc below))

-- the numbers before the first do not have it
pub first_before : (n : ℕ) (p : ℕ → Bool) → NoneBelow (first_below n p) p
unfolding first_below
first_before zero p = none_below p
first_before (suc n) p =
    split (ltb (first_below n p) n)
    (λ e. rw e (first_before n p))
    (λ e.
    let none : NoneBelow n p = λ i h. first_before n p i (omega (arith, h, ltb-false (first_below n p) n e)) in
    split (p n) (λ has. rw (e, has) none) (λ lacks. rw (e, lacks) (none_next n p none lacks)))

pub none_found : (n : ℕ) (p : ℕ → Bool) → ltb (first_below n p) n ≡ false → NoneBelow n p
none_found n p e i h = first_before n p i (omega (arith, h, ltb-false (first_below n p) n e))

pub first_has : (n : ℕ) (p : ℕ → Bool) → first_below n p < n → p (first_below n p) ≡ true
unfolding first_below
first_has zero p = λ below. absurd (omega arith)
first_has (suc n) p =
    split (ltb (first_below n p) n)
    (λ e. rw e (λ below. first_has n p (ltb-true (first_below n p) n e)))
    (λ e. split (p n) (λ has. rw (e, has) (λ below. has)) (λ lacks. rw (e, lacks) (λ below. absurd (omega arith))))

-- two properties that agree below n
pub first_agree : (n : ℕ) (p q : ℕ → Bool) → ((i : ℕ) → i < n → p i ≡ q i) → first_below n p ≡ first_below n q
unfolding first_below
first_agree zero p q same = refl
first_agree (suc n) p q same = rw (first_agree n p q (λ i h. same i (omega arith)), same n (omega arith))

-- ---- the number that was found, or none

pub found_is : (n k m : ℕ) → k < n → m ≡ k → found_below n m ≡ Some k
found_is n k m below is = rw (is, lt-ltb k n below)

pub found_none : (n m : ℕ) → m ≡ n → found_below n m ≡ None
found_none n m is = rw (is, le-ltb n n (omega arith))

pub found_some : (n m : ℕ) → is_some (found_below n m) ≡ ltb m n
found_some n m = split (ltb m n) (λ e. rw e) (λ e. rw e)

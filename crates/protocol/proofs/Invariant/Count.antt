-- Counting: none, one or more of the numbers below n have a property. It leads to the states and the permission, which
-- go by counts. Assumes nothing.
use Prim.Native.Nat.{ℕ, zero, suc, ◌+◌, ◌<◌, ◌≤◌}
use mathlib.Core.Path.{◌≡◌, refl, subst}
use mathlib.Core.Bool.{Bool, true, false, cond}
use native.Mathlib.Omega.{arith}
use lib.Dec.{eqb}
use borrow.Author.Tests.{eqb-true, eqb-false, ne_eqb}
use Rattle.decision.specs.Lists.{count}
use Rattle.protocol.proofs.Invariant.Flags.{split, is_false}

-- one more number is counted or not
count_suc : (n : ℕ) (p : ℕ → Bool) → count (suc n) p ≡ count n p + cond (p n) 1 0
unfolding count
count_suc n p = refl

count_hit : (n : ℕ) (p : ℕ → Bool) → p n ≡ true → count (suc n) p ≡ suc (count n p)
count_hit n p e = rw (count_suc, e) (omega arith)

count_miss : (n : ℕ) (p : ℕ → Bool) → p n ≡ false → count (suc n) p ≡ count n p
count_miss n p e = rw (count_suc, e) (omega arith)

grows : (n : ℕ) (p : ℕ → Bool) → count n p ≤ count (suc n) p
grows n p = rw count_suc (omega arith)

-- none has it: the count is 0
pub none : (n : ℕ) (p : ℕ → Bool) → ((i : ℕ) → i < n → p i ≡ true → ⊥) → count n p ≡ 0
unfolding count
none zero p h = refl
none (suc n) p h =
    let rest = none n p (λ i below. h i (omega arith)) in
    let miss = count_miss n p (is_false (p n) (h n (omega arith))) in
    omega arith

-- one has it: the count is not 0
pub some : (n : ℕ) (p : ℕ → Bool) (i : ℕ) → i < n → p i ≡ true → 0 < count n p
some zero p i below e = absurd (omega arith)
some (suc n) p i below e =
    split (eqb i n)
    (λ q. let hit = count_hit n p (subst (λ j. p j ≡ true) (eqb-true i n q) e) in omega arith)
    (λ q. let away = eqb-false i n q in
    let more = some n p i (omega arith) e in
    let up = grows n p in
    omega arith)

-- just one has it: the count is 1
pub one :
    (n : ℕ) (p : ℕ → Bool) (i : ℕ)
    → i < n
    → p i ≡ true
    → ((j : ℕ) → eqb j i ≡ false → p j ≡ true → ⊥)
    → count n p ≡ 1
one zero p i below e only = absurd (omega arith)
one (suc n) p i below e only =
    split (eqb i n)
    (λ q. let here = eqb-true i n q in
    let hit = count_hit n p (subst (λ j. p j ≡ true) here e) in
    let rest = none n p (λ j less. only j (ne_eqb j i (λ same. omega arith))) in
    omega arith)
    (λ q. let away = eqb-false i n q in
    let more = one n p i (omega arith) e only in
    let miss = count_miss n p (is_false (p n) (only n (ne_eqb n i (λ same. omega arith)))) in
    omega arith)

-- two have it: the count is above 1
two : (n : ℕ) (p : ℕ → Bool) (i j : ℕ) → i < n → j < n → eqb i j ≡ false → p i ≡ true → p j ≡ true → 1 < count n p
two zero p i j below less far e f = absurd (omega arith)
two (suc n) p i j below less far e f =
    let apart = eqb-false i j far in
    split (eqb i n)
    (λ q. let here = eqb-true i n q in
    let hit = count_hit n p (subst (λ m. p m ≡ true) here e) in
    let more = some n p j (omega arith) f in
    omega arith)
    (λ q. let away = eqb-false i n q in
    split (eqb j n)
    (λ q. let here = eqb-true j n q in
    let hit = count_hit n p (subst (λ m. p m ≡ true) here f) in
    let more = some n p i (omega arith) e in
    omega arith)
    (λ q. let off = eqb-false j n q in
    let more = two n p i j (omega arith) (omega arith) far e f in
    let up = grows n p in
    omega arith))

-- so where the count is 1, two that have it are the same
pub only : (n : ℕ) (p : ℕ → Bool) (i j : ℕ) → count n p ≡ 1 → i < n → j < n → p i ≡ true → p j ≡ true → eqb i j ≡ true
only n p i j single below less e f =
    split (eqb i j) (λ q. q) (λ q. let more = two n p i j below less q e f in absurd (omega arith))

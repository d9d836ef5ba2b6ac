-- Counting: `count n p` is how many of the numbers below n have the property p. Its laws, and a loop that counts one by
-- one. Assumes nothing.
use Prim.Native.Nat.{ℕ, zero, suc, ◌+◌, ◌≤◌, ◌<◌}
use mathlib.Core.Path.{◌≡◌, refl, ap, ◌∙◌}
use mathlib.Core.Bool.{Bool, true, false, cond, not, ◌&&◌}
use native.Mathlib.Nat.{le_refl}
use native.Mathlib.Numerals.{add-one}
use native.Mathlib.Omega.{arith}
use lib.Dec.{eqb, ltb, lit≤}
use borrow.Author.Tests.{eqb-true, eqb-false, ltb-true, ltb-false, lt-ltb, le-ltb}
use Rattle.sizes.proofs.Choosing.{split}
use Rattle.decision.specs.Lists.{count}

-- what one number adds
pub one_at_most : (b : Bool) → cond b 1 0 ≤ 1
one_at_most true = lit≤ tt
one_at_most false = lit≤ tt

pub count_next : (n : ℕ) (p : ℕ → Bool) → count (n + 1) p ≡ count n p + cond (p n) 1 0
unfolding count
count_next n p = rw add-one

pub count_at_most : (n : ℕ) (p : ℕ → Bool) → count n p ≤ n
unfolding count
count_at_most zero p = le_refl 0
count_at_most (suc n) p = omega (arith, count_at_most n p, one_at_most (p n))

-- two properties that agree below n
pub count_agree : (n : ℕ) (p q : ℕ → Bool) → ((i : ℕ) → i < n → p i ≡ q i) → count n p ≡ count n q
unfolding count
count_agree zero p q same = refl
count_agree (suc n) p q same = rw (count_agree n p q (λ i h. same i (omega arith)), same n (omega arith))

-- a property that none has
pub count_none : (n : ℕ) → count n (λ i. false) ≡ 0
unfolding count
count_none zero = refl
count_none (suc n) = rw (count_none n)

-- how many others than i have the property, and whether i does, as a count
abbrev others : ℕ → (ℕ → Bool) → ℕ → ℕ
others n p i = count n (λ j. not (eqb j i) && p j)

abbrev alone : ℕ → (ℕ → Bool) → ℕ → ℕ
alone n p i = cond (ltb i n && p i) 1 0

alone_next : (n : ℕ) (p : ℕ → Bool) (i : ℕ)
    → alone (suc n) p i + cond (not (eqb n i) && p n) 1 0 ≡ alone n p i + cond (p n) 1 0
alone_next n p i =
    split (eqb n i)
    (λ e. rw (e, ← eqb-true n i e, lt-ltb n (suc n) (omega arith), le-ltb n n (omega arith)) (omega arith))
    (λ e.
    split (ltb i n)
    (λ l. rw (e, l, lt-ltb i (suc n) (omega (arith, ltb-true i n l))))
    (λ l. rw (e, l, le-ltb i (suc n) (omega (arith, ltb-false i n l, eqb-false n i e)))))

-- those that have the property are the others that do, and i, where it does
pub count_others : (n : ℕ) (p : ℕ → Bool) (i : ℕ) → count n p ≡ others n p i + alone n p i
unfolding count
count_others zero p i = rw (le-ltb i 0 (omega arith))
count_others (suc n) p i = omega (arith, count_others n p i, alone_next n p i)

above_none : (a b : ℕ) → ltb 0 a ≡ ltb b (a + b)
above_none a b =
    split (ltb 0 a)
    (λ e. rw (e, lt-ltb b (a + b) (omega (arith, ltb-true 0 a e))))
    (λ e. rw (e, le-ltb b (a + b) (omega (arith, ltb-false 0 a e))))

-- some other has the property where more have it than i alone
pub some_other : (n : ℕ) (p : ℕ → Bool) (i : ℕ) → ltb 0 (others n p i) ≡ ltb (alone n p i) (count n p)
some_other n p i = rw (count_others n p i) (above_none (others n p i) (alone n p i))

-- The invariant of a loop that counts up to n: i numbers are passed, and x of them have the property.
pub record Counted (n : ℕ) (p : ℕ → Bool) (x i : ℕ) : Type 0 where
  pub passed : i ≤ n
  pub counts : x ≡ count i p

pub counted_none : {n : ℕ} {p : ℕ → Bool} → Counted n p 0 0
unfolding count
counted_none = record { passed = omega arith; counts = refl }

-- a turn: b is the test of i, and k what it adds
module _ {n : ℕ} {p : ℕ → Bool} {x i k : ℕ} {b : Bool}
    (h : Counted n p x i) (more : i < n) (test : b ≡ p i) (adds : k ≡ cond b 1 0) where
  pub counted_next : Counted n p (x + k) (i + 1)
  counted_next = record { passed = omega arith; counts = cc (count_next i p) }

  pub counted_fits : x + k ≤ n
  counted_fits = omega (arith, count_at_most i p, one_at_most b)

pub counted_all_lem : {n : ℕ} {p : ℕ → Bool} {x i : ℕ} → Counted n p x i → n ≤ i → x ≡ count n p
counted_all_lem {p} h past = h.counts ∙ ap (λ (k : ℕ). count k p) (omega arith)

-- Reading a list after a store or a run of stores, and what a count of none says. A test t says whether the place that
-- is read is the one that was stored. It leads to the places of the service. Assumes nothing.
use Prim.Native.Nat.{ℕ, zero, suc, ◌+◌, ◌≤◌, ◌<◌, zero-le}
use native.Mathlib.Nat.{not-suc-le-zero, le_refl}
use native.Mathlib.Omega.{arith}
use mathlib.Core.Path.{◌≡◌, refl, sym, ap, ◌∙◌, subst}
use mathlib.Core.Bool.{Bool, true, false, cond, ◌&&◌}
use mathlib.Core.List.{List}
use lib.Dec.{eqb, ltb}
use lib.ListN.{length, get_or, set, length-set}
use lib.Seq.{get_or-set_same, get_or-set_other}
use borrow.Author.Tests.{eqb-true, eqb-false, ltb-true, ltb-false, lt-ltb, le-ltb}
use Rattle.decision.specs.Lists.{count, stored}
use Rattle.decision.proofs.Storing.{length_stored}
use Rattle.service.proofs.Tests.{split, and_true}

module _ {ℓ} {A : Type ℓ} where
  -- q is the place p, or it is not
  pub get_d_same :
      (l : List A) (p q : ℕ) (d : A) (t : Bool) → eqb q p ≡ t → get_or l q d ≡ cond t (get_or l p d) (get_or l q d)
  get_d_same l p q d true e = ap (λ k. get_or l k d) (eqb-true q p e)
  get_d_same l p q d false e = refl

  pub get_d_set :
      (l : List A) (p q : ℕ) (a d : A) (t : Bool)
      → p < length l
      → eqb q p ≡ t
      → get_or (set l p a) q d ≡ cond t a (get_or l q d)
  get_d_set l p q a d true h e = rw (eqb-true q p e) (get_or-set_same l p a d h)
  get_d_set l p q a d false h e = get_or-set_other l p q a d (eqb-false q p e)

  -- a store that is made only where a test holds
  pub get_d_put :
      (l : List A) (p q : ℕ) (a d : A) (t put : Bool)
      → p < length l
      → eqb q p ≡ t
      → get_or (cond put (set l p a) l) q d ≡ cond t (cond put a (get_or l p d)) (get_or l q d)
  get_d_put l p q a d t true h e = get_d_set l p q a d t h e
  get_d_put l p q a d t false h e = get_d_same l p q d t e

  pub length_put : (l : List A) (p : ℕ) (a : A) (put : Bool) → length (cond put (set l p a) l) ≡ length l
  length_put l p a true = length-set l p a
  length_put l p a false = refl

  -- one store more: at k itself, or not
  stored_next :
      (value : ℕ → A) (x : A) (n k : ℕ) (hit : Bool)
      → cond (hit && eqb k n) (value n) (cond (hit && ltb k n) (value k) x) ≡ cond (hit && ltb k (suc n)) (value k) x
  stored_next value x n k false = refl
  stored_next value x n k true =
      split (eqb k n)
      (λ e.
      let q : k ≡ n = eqb-true k n e in
      rw (e, lt-ltb k (suc n) (omega arith)) (ap value (sym q)))
      (λ e.
      let q : k ≡ n → ⊥ = eqb-false k n e in
      split (ltb k n)
      (λ below. let h : k < n = ltb-true k n below in rw (e, below, lt-ltb k (suc n) (omega arith)))
      (λ above. let h : n ≤ k = ltb-false k n above in rw (e, above, le-ltb k (suc n) (omega arith))))

  stored_below :
      (n : ℕ) (place : ℕ → ℕ) (value : ℕ → A) (l : List A) (q : ℕ) (d : A) (hit : Bool) (k : ℕ)
      → ((j : ℕ) → j < n → place j < length l)
      → ((j : ℕ) → j < n → eqb q (place j) ≡ (hit && eqb k j))
      → get_or (stored n place value l) q d ≡ cond (hit && ltb k n) (value k) (get_or l q d)
  unfolding stored
  stored_below zero place value l q d hit k inside same = ap (λ t. cond t (value k) (get_or l q d)) (sym (none hit))
    where
      none : (t : Bool) → (t && ltb k 0) ≡ false
      none false = refl
      none true = le-ltb k 0 zero-le
  stored_below (suc n) place value l q d hit k inside same =
      get_d_set (stored n place value l) (place n) q (value n) d (hit && eqb k n)
      (subst (λ m. place n < m) (sym (length_stored n place value l)) (inside n (le_refl (suc n))))
      (same n (le_refl (suc n)))
      ∙ ap (λ x. cond (hit && eqb k n) (value n) x)
      (stored_below n place value l q d hit k (λ j h. inside j (omega arith)) (λ j h. same j (omega arith)))
      ∙ stored_next value (get_or l q d) n k hit

  -- The place q that is read is the one of k, if it is hit, and of no other; or it is none of the places.
  pub get_d_stored :
      (n : ℕ) (place : ℕ → ℕ) (value : ℕ → A) (l : List A) (q : ℕ) (d : A) (hit : Bool) (k : ℕ)
      → k < n
      → ((j : ℕ) → j < n → place j < length l)
      → ((j : ℕ) → j < n → eqb q (place j) ≡ (hit && eqb k j))
      → get_or (stored n place value l) q d ≡ cond hit (value k) (get_or l q d)
  get_d_stored n place value l q d hit k h inside same =
      stored_below n place value l q d hit k inside same
      ∙ ap (λ t. cond t (value k) (get_or l q d)) (ap (λ t. hit && t) (lt-ltb k n h) ∙ and_true hit)

-- one of the numbers below n has the property; and then the count finds one
pub count_some : (n : ℕ) (p : ℕ → Bool) (k : ℕ) → k < n → p k ≡ true → ltb 0 (count n p) ≡ true
unfolding count
count_some zero p k h e = absurd (not-suc-le-zero h)
count_some (suc n) p k h e =
    split (eqb k n)
    (λ same.
    let last : p n ≡ true = rw (← eqb-true k n same) e in
    rw last (lt-ltb 0 (count n p + 1) (omega arith)))
    (λ other.
    let q : k ≡ n → ⊥ = eqb-false k n other in
    let some = ltb-true 0 (count n p) (count_some n p k (omega arith) e) in
    lt-ltb 0 (count n p + cond (p n) 1 0) (omega arith))

pub some_counted : (n : ℕ) (p : ℕ → Bool) → ltb 0 (count n p) ≡ true → (k : ℕ) × (k < n) × (p k ≡ true)
unfolding count
some_counted zero p e = absurd (omega (arith, ltb-true 0 0 e))
some_counted (suc n) p e =
    split (p n)
    (λ last. (n, le_refl (suc n), last))
    (λ last.
    let some : 0 < count n p + 0 = ltb-true 0 (count n p + 0) (rw last at e) in
    let (k, below, has) = some_counted n p (lt-ltb 0 (count n p) (omega arith)) in
    (k, omega arith, has))

-- where none of the numbers below n has the property, each of them lacks it
pub count_none : (n : ℕ) (p : ℕ → Bool) → ltb 0 (count n p) ≡ false → (k : ℕ) → k < n → p k ≡ false
unfolding count
count_none zero p e k h = absurd (not-suc-le-zero h)
count_none (suc n) p e k h =
    let z : count n p + cond (p n) 1 0 ≤ 0 = ltb-false 0 (count n p + cond (p n) 1 0) e in
    let last : p n ≡ false =
    split (p n) (λ t. let w : count n p + 1 ≤ 0 = rw t at z in absurd (omega arith)) (λ f. f) in
    split (eqb k n)
    (λ same. rw (eqb-true k n same) last)
    (λ other.
    let q : k ≡ n → ⊥ = eqb-false k n other in
    count_none n p (le-ltb 0 (count n p) (omega arith)) k (omega arith))

-- Laws of the tests and the counts by which the store is defined: `any_below`, `sum_below` and `count`. Then how many
-- places there are at most, and the loops that count. Assumes nothing.
use Prim.Native.Nat.{ℕ, zero, suc, ◌+◌, ◌-◌, ◌*◌, ◌≤◌, ◌<◌}
use mathlib.Core.Path.{◌≡◌, refl, sym, ap, ap₂, ◌∙◌}
use mathlib.Core.Bool.{Bool, true, false, cond, not, ◌&&◌, ◌||◌}
use mathlib.Core.List.{List}
use native.Mathlib.Nat.{le_refl, not-suc-le-zero}
use native.Mathlib.Numerals.{add-one}
use native.Mathlib.Omega.{arith}
use lib.Dec.{eqb, lit≤}
use borrow.Author.Tests.{eqb-true, eqb-false, eq-eqb, ne_eqb}
use Rattle.sizes.specs.declared.sizes.Sizes.{Sizes}
use Rattle.sizes.specs.Sizes.{Permitted, max_blocks, max_places, at_most}
use Rattle.sizes.proofs.Choosing.{split}
use Rattle.decision.specs.Lists.{count}
use Rattle.decision.proofs.Counting.{count_at_most, count_agree}
use Rattle.service.specs.Space.{any_below, sum_below, is_counted, counted_on, counted_in, recounted}

-- ---- some number below n

-- properties that agree below n
pub any_cong : (n : ℕ) (p q : ℕ → Bool) → ((i : ℕ) → i < n → p i ≡ q i) → any_below n p ≡ any_below n q
unfolding any_below
any_cong zero p q same = refl
any_cong (suc n) p q same = rw (any_cong n p q (λ i h. same i (omega arith)), same n (omega arith))

-- none has the property
pub any_false : (n : ℕ) (p : ℕ → Bool) → ((i : ℕ) → i < n → p i ≡ false) → any_below n p ≡ false
unfolding any_below
any_false zero p none = refl
any_false (suc n) p none = rw (any_false n p (λ i h. none i (omega arith)), none n (omega arith))

or_true : (a : Bool) → (a || true) ≡ true
or_true true = refl
or_true false = refl

-- i has it
pub any_at : (n : ℕ) (p : ℕ → Bool) (i : ℕ) → i < n → p i ≡ true → any_below n p ≡ true
unfolding any_below
any_at zero p i h e = absurd (not-suc-le-zero h)
any_at (suc n) p i h e =
    split (eqb i n)
    (λ same. ap (λ t. any_below n p || t) (ap p (sym (eqb-true i n same)) ∙ e) ∙ or_true (any_below n p))
    (λ other.
    let q : i ≡ n → ⊥ = eqb-false i n other in
    rw (any_at n p i (omega arith) e))

or_four : (a b c d : Bool) → ((a || b) || (c || d)) ≡ ((a || c) || (b || d))
or_four true b c d = refl
or_four false true true d = refl
or_four false true false d = refl
or_four false false true d = refl
or_four false false false d = refl

-- some number has one of two properties
pub any_or : (n : ℕ) (p q : ℕ → Bool) → any_below n (λ i. p i || q i) ≡ (any_below n p || any_below n q)
unfolding any_below
any_or zero p q = refl
any_or (suc n) p q =
    ap (λ t. t || (p n || q n)) (any_or n p q) ∙ or_four (any_below n p) (any_below n q) (p n) (q n)

-- ---- sums

-- numbers that agree below n
pub sum_cong : (n : ℕ) (g h : ℕ → ℕ) → ((f : ℕ) → f < n → g f ≡ h f) → sum_below n g ≡ sum_below n h
unfolding sum_below
sum_cong zero g h same = refl
sum_cong (suc n) g h same = rw (sum_cong n g h (λ f l. same f (omega arith)), same n (omega arith))

-- numbers that are at most others
pub sum_le : (n : ℕ) (g h : ℕ → ℕ) → ((f : ℕ) → f < n → g f ≤ h f) → sum_below n g ≤ sum_below n h
unfolding sum_below
sum_le zero g h below = le_refl 0
sum_le (suc n) g h below = omega (arith, sum_le n g h (λ f l. below f (omega arith)), below n (le_refl (suc n)))

-- the sum of sums
pub sum_add : (n : ℕ) (g h : ℕ → ℕ) → sum_below n (λ f. g f + h f) ≡ sum_below n g + sum_below n h
unfolding sum_below
sum_add zero g h = refl
sum_add (suc n) g h = omega (arith, sum_add n g h)

-- numbers that differ at f alone
pub sum_one :
    (n : ℕ) (g h : ℕ → ℕ) (f : ℕ)
    → f < n
    → ((k : ℕ) → k < n → eqb k f ≡ false → g k ≡ h k)
    → sum_below n g + h f ≡ sum_below n h + g f
unfolding sum_below
sum_one zero g h f l same = absurd (not-suc-le-zero l)
sum_one (suc n) g h f l same =
    split (eqb f n)
    (λ e.
    let last : f ≡ n = eqb-true f n e in
    let below : sum_below n g ≡ sum_below n h =
    sum_cong n g h (λ k m. same k (omega arith) (ne_eqb k f (λ q. omega arith))) in
    rw (last, below) (omega arith))
    (λ e.
    let other : f ≡ n → ⊥ = eqb-false f n e in
    let top : g n ≡ h n = same n (le_refl (suc n)) (ne_eqb n f (λ q. other (sym q))) in
    omega (arith, sum_one n g h f (omega arith) (λ k m. same k (omega arith)), top))

-- none adds anything
pub sum_zero : (n : ℕ) (g : ℕ → ℕ) → ((f : ℕ) → f < n → g f ≡ 0) → sum_below n g ≡ 0
unfolding sum_below
sum_zero zero g none = refl
sum_zero (suc n) g none = omega (arith, sum_zero n g (λ f l. none f (omega arith)), none n (le_refl (suc n)))

-- each adds as many as a file has blocks, at most
pub sum_most : (n : ℕ) (g : ℕ → ℕ) → ((f : ℕ) → f < n → g f ≤ max_blocks) → sum_below n g ≤ n * max_blocks
unfolding sum_below
sum_most zero g below = omega arith
sum_most (suc n) g below = omega (arith, sum_most n g (λ f l. below f (omega arith)), below n (le_refl (suc n)))

-- ---- counts

-- properties that agree below n
pub count_cong : (n : ℕ) (p q : ℕ → Bool) → ((i : ℕ) → i < n → p i ≡ q i) → count n p ≡ count n q
count_cong = count_agree

-- at most all have the property
pub count_most : (n : ℕ) (p : ℕ → Bool) → count n p ≤ n
count_most = count_at_most

-- none has the property
pub count_false : (n : ℕ) (p : ℕ → Bool) → ((i : ℕ) → i < n → p i ≡ false) → count n p ≡ 0
unfolding count
count_false zero p none = refl
count_false (suc n) p none = rw (count_false n p (λ i h. none i (omega arith)), none n (omega arith))

one_le : (a b : Bool) → (a ≡ true → b ≡ true) → cond a 1 0 ≤ cond b 1 0
one_le true b then = rw (then refl) (lit≤ tt)
one_le false true then = lit≤ tt
one_le false false then = lit≤ tt

-- each that has the first property has the second
pub count_le : (n : ℕ) (p q : ℕ → Bool) → ((i : ℕ) → i < n → p i ≡ true → q i ≡ true) → count n p ≤ count n q
unfolding count
count_le zero p q then = le_refl 0
count_le (suc n) p q then =
    omega (arith, count_le n p q (λ i h. then i (omega arith)), one_le (p n) (q n) (then n (le_refl (suc n))))

one_or : (a b : Bool) → cond (a || b) 1 0 ≡ cond a 1 0 + cond (b && not a) 1 0
one_or true true = refl
one_or true false = refl
one_or false true = refl
one_or false false = refl

-- those with one of two properties: those with the first, and those with the second alone
pub count_or :
    (n : ℕ) (p q : ℕ → Bool) → count n (λ b. p b || q b) ≡ count n p + count n (λ b. q b && not (p b))
unfolding count
count_or zero p q = refl
count_or (suc n) p q = omega (arith, count_or n p q, one_or (p n) (q n))

-- properties that differ at b alone, which has the second
pub count_one :
    (n : ℕ) (p q : ℕ → Bool) (b : ℕ)
    → b < n
    → p b ≡ false
    → q b ≡ true
    → ((c : ℕ) → c < n → eqb c b ≡ false → p c ≡ q c)
    → count n q ≡ count n p + 1
unfolding count
count_one zero p q b l off on same = absurd (not-suc-le-zero l)
count_one (suc n) p q b l off on same =
    split (eqb b n)
    (λ e.
    let last : b ≡ n = eqb-true b n e in
    let below : count n p ≡ count n q =
    count_cong n p q (λ k m. same k (omega arith) (ne_eqb k b (λ r. omega arith))) in
    let was : p n ≡ false = ap p (sym last) ∙ off in
    let is : q n ≡ true = ap q (sym last) ∙ on in
    rw (was, is, below) (omega arith))
    (λ e.
    let other : b ≡ n → ⊥ = eqb-false b n e in
    let top : p n ≡ q n = same n (le_refl (suc n)) (ne_eqb n b (λ r. other (sym r))) in
    rw top (omega (arith, count_one n p q b (omega arith) off on (λ k m. same k (omega arith)))))

-- ---- the places

-- a file has at most its blocks counted
pub counted_few :
    (z : Sizes) (who : ℕ → Bool) (used dirty : List Bool) (f : ℕ)
    → Permitted z
    → counted_on z who used dirty f ≤ max_blocks
counted_few z who used dirty f p =
    omega (arith, count_most z.blocks (is_counted z.clients who used dirty f), p.blocks)

-- where each file adds at most its blocks, the sum is at most the places
pub places_most :
    (z : Sizes) (g : ℕ → ℕ)
    → Permitted z
    → ((f : ℕ) → f < z.files → g f ≤ max_blocks)
    → sum_below z.files g ≤ max_places
places_most z g p below = omega (arith, sum_most z.files g below, p.files)

-- all files together have at most the places counted
pub counted_most :
    (z : Sizes) (who : ℕ → Bool) (used dirty : List Bool) → Permitted z → counted_in z who used dirty ≤ max_places
counted_most z who used dirty p =
    places_most z (counted_on z who used dirty) p (λ f l. counted_few z who used dirty f p)

-- a recount goes by the difference of the two numbers
pub recounted_near :
    (store free c c' t t' : ℕ) → t + c' ≡ t' + c → recounted store free c c' ≡ recounted store free t t'
recounted_near store free c c' t t' e =
    split (eqb c c')
    (λ s.
    let same : c ≡ c' = eqb-true c c' s in
    let alike : eqb t t' ≡ true = eq-eqb t t' (omega arith) in
    rw (s, alike))
    (λ s.
    let off : c ≡ c' → ⊥ = eqb-false c c' s in
    let unlike : eqb t t' ≡ false = ne_eqb t t' (λ r. off (omega arith)) in
    let left : (at_most store free + c) - c' ≡ (at_most store free + t) - t' = omega arith in
    rw (s, unlike, left))

-- ---- loops

-- the invariant of a loop that asks for some number below n: i numbers are passed, and x says whether one of them has
-- the property
pub record Asked (n : ℕ) (p : ℕ → Bool) (x : Bool) (i : ℕ) : Type 0 where
  pub passed : i ≤ n
  pub finds : x ≡ any_below i p

-- none is passed
pub asked_none : {n : ℕ} {p : ℕ → Bool} → Asked n p false 0
unfolding any_below
asked_none = record { passed = omega arith; finds = refl }

-- a turn: b is the test of number i
pub asked_next :
    {n : ℕ} {p : ℕ → Bool} {x b : Bool} {i : ℕ} → Asked n p x i → i < n → b ≡ p i → Asked n p (x || b) (i + 1)
unfolding any_below
asked_next {n} {p} {x} {b} {i} h more e =
    record { passed = omega arith; finds = rw add-one (ap₂ ◌||◌ h.finds e) }

-- all are passed
pub asked_all : {n : ℕ} {p : ℕ → Bool} {x : Bool} {i : ℕ} → Asked n p x i → n ≤ i → x ≡ any_below n p
asked_all {p = p} h past = h.finds ∙ ap (λ (k : ℕ). any_below k p) (omega arith)

-- the invariant of a loop that sums up to n: i numbers are passed, and x is the sum of theirs
pub record Summed (n : ℕ) (g : ℕ → ℕ) (x i : ℕ) : Type 0 where
  pub passed : i ≤ n
  pub sums : x ≡ sum_below i g

-- none is passed
pub summed_none : {n : ℕ} {g : ℕ → ℕ} → Summed n g 0 0
unfolding sum_below
summed_none = record { passed = omega arith; sums = refl }

-- a turn: k is what number i adds
pub summed_next :
    {n : ℕ} {g : ℕ → ℕ} {x k i : ℕ} → Summed n g x i → i < n → k ≡ g i → Summed n g (x + k) (i + 1)
unfolding sum_below
summed_next h more e = record { passed = omega arith; sums = rw add-one (ap₂ ◌+◌ h.sums e) }

-- all are passed
pub summed_all : {n : ℕ} {g : ℕ → ℕ} {x i : ℕ} → Summed n g x i → n ≤ i → x ≡ sum_below n g
summed_all {g = g} h past = h.sums ∙ ap (λ (k : ℕ). sum_below k g) (omega arith)

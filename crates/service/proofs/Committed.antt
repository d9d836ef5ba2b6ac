-- The blocks that are counted, used or dirty at one of some clients: how their number goes where some are no longer
-- counted, where one more is, and where only one file changes; and the number of free places that goes with it. Assumes
-- nothing.
use Prim.Native.Nat.{ℕ, zero, suc, ◌+◌, ◌-◌, ◌≤◌, ◌<◌}
use native.Mathlib.Nat.{le_refl}
use native.Mathlib.Omega.{arith}
use mathlib.Core.Path.{◌≡◌, refl, sym, ap, ap₂, ◌∙◌}
use mathlib.Core.Bool.{Bool, true, false, cond, not, ◌&&◌, ◌||◌}
use mathlib.Core.List.{List}
use lib.Dec.{eqb, lit≤}
use lib.ListN.{get_or}
use borrow.Author.Tests.{eqb-true, ne_eqb, le-leb}
use Rattle.sizes.specs.declared.sizes.Sizes.{Sizes}
use Rattle.sizes.specs.Sizes.{at_most, place, cell}
use Rattle.decision.specs.Lists.{count}
use Rattle.decision.proofs.Counting.{one_at_most}
use Rattle.service.specs.Space.{any_below, sum_below, dirty_among, is_counted, counted_on, counted_in, used_in}
use Rattle.service.specs.Space.{reserved_in, recounted}
use Rattle.service.proofs.Tests.{split, conflict, both, when, and_false}
use Rattle.service.proofs.Counting.{any_at, any_cong, any_false, sum_cong, sum_le, sum_add, sum_one}
use Rattle.service.proofs.Counting.{count_cong, count_le, count_or}

-- ---- a block that is counted

-- some number below n has the property: which
pub any_some : (n : ℕ) (p : ℕ → Bool) → any_below n p ≡ true → (i : ℕ) × (i < n) × (p i ≡ true)
unfolding any_below
any_some zero p e = conflict e refl
any_some (suc n) p e =
    split (p n)
    (λ last. (n, le_refl (suc n), last))
    (λ last.
    let (i, below, has) = any_some n p (earlier (any_below n p) (p n) last e) in
    (i, omega arith, has))
  where
    earlier : (a b : Bool) → b ≡ false → (a || b) ≡ true → a ≡ true
    earlier true b off on = refl
    earlier false b off on = conflict on off

-- one of two tests
pub or_true : (a : Bool) → (a || true) ≡ true
or_true true = refl
or_true false = refl

pub neither : (a b : Bool) → (a || b) ≡ false → (a ≡ false) × (b ≡ false)
neither true b e = conflict refl e
neither false b e = (refl, e)

module _ (n : ℕ) (who : ℕ → Bool) (used dirty : List Bool) (f b : ℕ) where
  pub used_counted : get_or used (place f b) false ≡ true → is_counted n who used dirty f b ≡ true
  used_counted e = rw e

  pub dirty_counted :
      (i : ℕ) → i < n → who i ≡ true → get_or dirty (cell i f b) false ≡ true → is_counted n who used dirty f b ≡ true
  dirty_counted i h w d =
      ap (λ t. get_or used (place f b) false || t)
      (any_at n (λ i. who i && get_or dirty (cell i f b) false) i h (rw (w, d)))
      ∙ or_true (get_or used (place f b) false)

  -- what holds where it is used, and where it is dirty at one of the clients
  pub counted_cases {ℓ} :
      {A : Type ℓ}
      → is_counted n who used dirty f b ≡ true
      → (get_or used (place f b) false ≡ true → A)
      → ((i : ℕ) → i < n → who i ≡ true → get_or dirty (cell i f b) false ≡ true → A)
      → A
  counted_cases e is has =
      split (get_or used (place f b) false)
      is
      (λ off.
      let some : dirty_among n who dirty f b ≡ true = rw off at e in
      let (i, below, on) = any_some n (λ i. who i && get_or dirty (cell i f b) false) some in
      let (w, d) = both (who i) (get_or dirty (cell i f b) false) on in
      has i below w d)

-- ---- how many

-- each block that is counted in the second state is counted in the first
abbrev pub Shrinks :
    Sizes → (ℕ → Bool) → List Bool → List Bool → (ℕ → Bool) → List Bool → List Bool → Type 0
Shrinks z who used dirty who' used' dirty' =
    (f b : ℕ)
    → f < z.files
    → b < z.blocks
    → is_counted z.clients who' used' dirty' f b ≡ true
    → is_counted z.clients who used dirty f b ≡ true

module _ (z : Sizes) (who : ℕ → Bool) (used dirty : List Bool) (who' : ℕ → Bool) (used' dirty' : List Bool) where
  pub shrinks_counted :
      Shrinks z who used dirty who' used' dirty' → counted_in z who' used' dirty' ≤ counted_in z who used dirty
  shrinks_counted less =
      sum_le z.files (counted_on z who' used' dirty') (counted_on z who used dirty)
      (λ f hf.
      count_le z.blocks (is_counted z.clients who' used' dirty' f) (is_counted z.clients who used dirty f)
      (λ b hb. less f b hf hb))

-- at most one more has the first property than the second
count_more :
    (n : ℕ) (p q : ℕ → Bool) (b : ℕ)
    → ((c : ℕ) → c < n → eqb c b ≡ false → p c ≡ true → q c ≡ true)
    → count n p ≤ count n q + 1
unfolding count
count_more zero p q b then = lit≤ tt
count_more (suc n) p q b then =
    split (eqb n b)
    (λ e.
    let last : n ≡ b = eqb-true n b e in
    let below : count n p ≤ count n q =
    count_le n p q (λ c h. then c (omega arith) (ne_eqb c b (λ r. omega arith))) in
    omega (arith, below, one_at_most (p n)))
    (λ e.
    let below : count n p ≤ count n q + 1 = count_more n p q b (λ c h. then c (omega arith)) in
    omega (arith, below, one_le (p n) (q n) (then n (le_refl (suc n)) e)))
  where
    one_le : (a b : Bool) → (a ≡ true → b ≡ true) → cond a 1 0 ≤ cond b 1 0
    one_le true b then = rw (then refl) (lit≤ tt)
    one_le false true then = lit≤ tt
    one_le false false then = lit≤ tt

-- at most others, and one more at f
sum_more :
    (n : ℕ) (g h : ℕ → ℕ) (f : ℕ)
    → ((k : ℕ) → k < n → eqb k f ≡ false → g k ≤ h k)
    → g f ≤ h f + 1
    → sum_below n g ≤ sum_below n h + 1
unfolding sum_below
sum_more zero g h f below at = lit≤ tt
sum_more (suc n) g h f below at =
    split (eqb n f)
    (λ e.
    let last : n ≡ f = eqb-true n f e in
    let rest : sum_below n g ≤ sum_below n h =
    sum_le n g h (λ k l. below k (omega arith) (ne_eqb k f (λ r. omega arith))) in
    let top : g n ≤ h n + 1 = rw last at in
    omega arith)
    (λ e.
    let rest : sum_below n g ≤ sum_below n h + 1 = sum_more n g h f (λ k l. below k (omega arith)) at in
    let top : g n ≤ h n = below n (le_refl (suc n)) e in
    omega arith)

-- all that are counted afterwards were counted before but for block b of file f
module _ (z : Sizes) (who : ℕ → Bool) (used dirty used' dirty' : List Bool) (f b : ℕ) where
  pub one_counted :
      ((g c : ℕ)
      → g < z.files
      → c < z.blocks
      → (eqb g f && eqb c b) ≡ false
      → is_counted z.clients who used' dirty' g c ≡ true
      → is_counted z.clients who used dirty g c ≡ true)
      → f < z.files
      → counted_in z who used' dirty' ≤ counted_in z who used dirty + 1
  one_counted less hf =
      sum_more z.files (counted_on z who used' dirty') (counted_on z who used dirty) f
      (λ g hg other.
      count_le z.blocks (is_counted z.clients who used' dirty' g) (is_counted z.clients who used dirty g)
      (λ c hc. less g c hg hc (ap (λ t. t && eqb c b) other)))
      (count_more z.blocks (is_counted z.clients who used' dirty' f) (is_counted z.clients who used dirty f) b
      (λ c hc other. less f c hf hc (rw other (and_false (eqb f f)))))

-- ---- where only file f changes

module _ (z : Sizes) (used dirty used' dirty' : List Bool) (f : ℕ) where
  -- the flags of the other files are as they were
  pub record Elsewhere : Type 0 where
    pub places : (g c : ℕ)
        → c < z.blocks
        → eqb g f ≡ false
        → get_or used' (place g c) false ≡ get_or used (place g c) false
    pub cells : (j g c : ℕ)
        → j < z.clients
        → c < z.blocks
        → eqb g f ≡ false
        → get_or dirty' (cell j g c) false ≡ get_or dirty (cell j g c) false

  -- the numbers of all go by those of file f
  pub elsewhere_counted :
      (who : ℕ → Bool)
      → Elsewhere
      → f < z.files
      → counted_in z who used dirty + counted_on z who used' dirty' f
      ≡ counted_in z who used' dirty' + counted_on z who used dirty f
  elsewhere_counted who same hf =
      sum_one z.files (counted_on z who used dirty) (counted_on z who used' dirty') f hf
      (λ g hg other.
      count_cong z.blocks (is_counted z.clients who used dirty g) (is_counted z.clients who used' dirty' g)
      (λ c hc.
      ap₂ ◌||◌ (sym (same.places g c hc other))
      (any_cong z.clients
      (λ i. who i && get_or dirty (cell i g c) false)
      (λ i. who i && get_or dirty' (cell i g c) false)
      (λ i hi. ap (λ t. who i && t) (sym (same.cells i g c hi hc other))))))

-- ---- used and reserved

and_swapped : (a b : Bool) → (a && not b) ≡ (not b && a)
and_swapped true true = refl
and_swapped true false = refl
and_swapped false true = refl
and_swapped false false = refl

-- those that are counted are those that are used and those that are reserved
pub used_and_reserved :
    (z : Sizes) (who : ℕ → Bool) (used dirty : List Bool)
    → counted_in z who used dirty ≡ used_in z used + reserved_in z who used dirty
used_and_reserved z who used dirty =
    sum_cong z.files (counted_on z who used dirty)
    (λ f.
    count z.blocks (λ b. get_or used (place f b) false)
    + count z.blocks (λ b. not (get_or used (place f b) false) && dirty_among z.clients who dirty f b))
    (λ f hf.
    count_or z.blocks (λ b. get_or used (place f b) false) (λ b. dirty_among z.clients who dirty f b)
    ∙ ap (λ k. count z.blocks (λ b. get_or used (place f b) false) + k)
    (count_cong z.blocks
    (λ b. dirty_among z.clients who dirty f b && not (get_or used (place f b) false))
    (λ b. not (get_or used (place f b) false) && dirty_among z.clients who dirty f b)
    (λ b hb. and_swapped (dirty_among z.clients who dirty f b) (get_or used (place f b) false))))
    ∙ sum_add z.files (λ f. count z.blocks (λ b. get_or used (place f b) false))
    (λ f. count z.blocks (λ b. not (get_or used (place f b) false) && dirty_among z.clients who dirty f b))

-- where nobody is asked, those that are used
pub none_counted :
    (z : Sizes) (who : ℕ → Bool) (used dirty : List Bool)
    → ((i : ℕ) → i < z.clients → who i ≡ false)
    → counted_in z who used dirty ≡ used_in z used
none_counted z who used dirty nobody =
    sum_cong z.files (counted_on z who used dirty) (λ f. count z.blocks (λ b. get_or used (place f b) false))
    (λ f hf.
    count_cong z.blocks (is_counted z.clients who used dirty f) (λ b. get_or used (place f b) false)
    (λ b hb.
    ap (λ t. get_or used (place f b) false || t)
    (any_false z.clients (λ i. who i && get_or dirty (cell i f b) false)
    (λ i hi. ap (λ t. t && get_or dirty (cell i f b) false) (nobody i hi)))
    ∙ or-false (get_or used (place f b) false)))
  where
    or-false : (a : Bool) → (a || false) ≡ a
    or-false true = refl
    or-false false = refl

-- ---- the number of free places

-- a number that is at most the store reads as it is
pub reads_own_lem : (store n : ℕ) → n ≤ store → at_most store n ≡ n
reads_own_lem store n fits = when n store (le-leb n store fits)

-- free and counted places make the store, where c and c' are all that are counted and t and t' those that are compared
pub recount_makes :
    (store free c c' t t' : ℕ)
    → at_most store free + c ≡ store
    → c + t' ≡ c' + t
    → c' ≤ store
    → at_most store (recounted store free t t') + c' ≡ store
recount_makes store free c c' t t' makes differ fits =
    split (eqb t t')
    (λ e.
    let same : t ≡ t' = eqb-true t t' e in
    let all : c ≡ c' = omega arith in
    rw (e, ← all) makes)
    (λ e.
    let left : (at_most store free + t) - t' ≡ store - c' = omega arith in
    rw (e, left, reads_own_lem store (store - c') (omega arith), reads_own_lem store (store - c') (omega arith)) (omega arith))

-- Lists that agree where a test R holds: what a store, and a run of stores, leaves of that; and which places belong to
-- one file. It leads to the steps on one file. Assumes nothing.
use Prim.Native.Nat.{ℕ, zero, suc, ◌+◌, ◌*◌, ◌≤◌, ◌<◌}
use mathlib.Core.Path.{◌≡◌, refl, sym, ap, ◌∙◌, subst}
use mathlib.Core.Bool.{Bool, true, false, not, ◌&&◌}
use mathlib.Core.List.{List}
use native.Mathlib.Omega.{arith}
use lib.Dec.{eqb, leb, ltb}
use lib.ListN.{length, get_or, set, length-set}
use lib.Seq.{get_or-set_same, get_or-set_other, set_out, ext_get_or}
use borrow.Author.Tests.{eqb-true, eqb-false, ltb-true, ltb-false, lt-ltb, leb-true, le-leb}
use Rattle.sizes.proofs.Choosing.{split, conflict, and_left, and_right}
use Rattle.sizes.specs.Sizes.{place, cell, first_place, first_cell, max_clients, max_blocks}
use Rattle.decision.specs.Lists.{stored}
use Rattle.apart.specs.Agree.{AgreeOn, blocks_of, copies_of}

-- ---- lists that agree

module _ {A : Type 0} {R : ℕ → Bool} {d : A} where
  pub agree_refl : {l : List A} → AgreeOn R d l l
  agree_refl = record { long = refl; same = λ k e. refl }

  pub agree_sym : {l m : List A} → AgreeOn R d l m → AgreeOn R d m l
  agree_sym h = record { long = sym h.long; same = λ k e. sym (h.same k e) }

  pub agree_trans : {l m n : List A} → AgreeOn R d l m → AgreeOn R d m n → AgreeOn R d l n
  agree_trans g h = record { long = g.long ∙ h.long; same = λ k e. g.same k e ∙ h.same k e }

  -- the same store into both: what stands at j then
  set_same :
      {l m : List A} (k : ℕ) (v : A) (j : ℕ)
      → AgreeOn R d l m
      → R j ≡ true
      → get_or (set l k v) j d ≡ get_or (set m k v) j d
  set_same {l} {m} k v j h e =
      split (ltb k (length l))
      (λ inside.
      let low : k < length l = ltb-true k (length l) inside in
      let high : k < length m = subst (λ (n : ℕ). k < n) h.long low in
      split (eqb j k)
      (λ here.
      let q : j ≡ k = eqb-true j k here in
      ap (λ (i : ℕ). get_or (set l k v) i d) q
      ∙ get_or-set_same l k v d low
      ∙ sym (get_or-set_same m k v d high)
      ∙ sym (ap (λ (i : ℕ). get_or (set m k v) i d) q))
      (λ other.
      get_or-set_other l k j v d (eqb-false j k other)
      ∙ h.same j e
      ∙ sym (get_or-set_other m k j v d (eqb-false j k other))))
      (λ past.
      let low : length l ≤ k = ltb-false k (length l) past in
      let high : length m ≤ k = subst (λ (n : ℕ). n ≤ k) h.long low in
      ap (λ (x : List A). get_or x j d) (set_out l k v low)
      ∙ h.same j e
      ∙ sym (ap (λ (x : List A). get_or x j d) (set_out m k v high)))

  pub set_both : {l m : List A} (k : ℕ) (v : A) → AgreeOn R d l m → AgreeOn R d (set l k v) (set m k v)
  set_both {l} {m} k v h =
      record {
        long = length-set l k v ∙ h.long ∙ sym (length-set m k v);
        same = λ j e. set_same k v j h e;
      }

  -- a store where R fails
  pub set_off : (l : List A) (k : ℕ) (v : A) → R k ≡ false → AgreeOn R d l (set l k v)
  set_off l k v off =
      record {
        long = sym (length-set l k v);
        same = λ j e. sym (get_or-set_other l k j v d (λ q. conflict e (ap R q ∙ off)));
      }

  -- a run of stores of the same values into both
  pub stored_both :
      (n : ℕ) (to : ℕ → ℕ) (v w : ℕ → A) {l m : List A}
      → AgreeOn R d l m
      → ((k : ℕ) → k < n → v k ≡ w k)
      → AgreeOn R d (stored n to v l) (stored n to w m)
  unfolding stored
  stored_both zero to v w h same = h
  stored_both (suc n) to v w {l} {m} h same =
      subst (λ (x : A). AgreeOn R d (set (stored n to v l) (to n) (v n)) (set (stored n to w m) (to n) x))
      (same n (omega arith))
      (set_both (to n) (v n) (stored_both n to v w h (λ k below. same k (omega arith))))

  -- a run of stores where R fails
  pub stored_off :
      (n : ℕ) (to : ℕ → ℕ) (v : ℕ → A) (l : List A)
      → ((k : ℕ) → k < n → R (to k) ≡ false)
      → AgreeOn R d l (stored n to v l)
  unfolding stored
  stored_off zero to v l off = agree_refl
  stored_off (suc n) to v l off =
      agree_trans (stored_off n to v l (λ k below. off k (omega arith)))
      (set_off (stored n to v l) (to n) (v n) (off n (omega arith)))

  -- lists that agree where R holds and where it fails are the same
  pub whole : {l m : List A} → AgreeOn R d l m → AgreeOn (λ k. not (R k)) d l m → l ≡ m
  whole {l} {m} on off =
      ext_get_or d l m on.long (λ k below. split (R k) (on.same k) (λ e. off.same k (ap not e)))

-- ---- the places of one file

-- a place is among the n from `base` on
among : (base n k : ℕ) → base ≤ k → k < base + n → (leb base k && ltb k (base + n)) ≡ true
among base n k low high = λ j. le-leb base k low j && lt-ltb k (base + n) high j

bounds : (base n k : ℕ) → (leb base k && ltb k (base + n)) ≡ true → (base ≤ k) × (k < base + n)
bounds base n k e = (
  leb-true base k (and_left (leb base k) (ltb k (base + n)) e),
  ltb-true k (base + n) (and_right (leb base k) (ltb k (base + n)) e),
)

pub place_in : (f : ℕ) {b : ℕ} → b < max_blocks → blocks_of f (place f b) ≡ true
place_in f {b} below = among (first_place f) max_blocks (place f b) (omega arith) (omega arith)

pub cell_in : {i : ℕ} (f : ℕ) {b : ℕ} → i < max_clients → b < max_blocks → copies_of f (cell i f b) ≡ true
cell_in {i} f {b} client block =
    among (first_cell 0 f) (max_clients * max_blocks) (cell i f b) (omega arith) (omega arith)

-- a place belongs to one file only
pub apart_places : (f g k : ℕ) → eqb f g ≡ false → blocks_of f k ≡ true → blocks_of g k ≡ false
apart_places f g k other mine =
    split (blocks_of g k)
    (λ also.
    let (low, high) = bounds (first_place f) max_blocks k mine in
    let (from, to) = bounds (first_place g) max_blocks k also in
    absurd (eqb-false f g other (omega arith)))
    (λ e. e)

pub apart_cells : (f g k : ℕ) → eqb f g ≡ false → copies_of f k ≡ true → copies_of g k ≡ false
apart_cells f g k other mine =
    split (copies_of g k)
    (λ also.
    let (low, high) = bounds (first_cell 0 f) (max_clients * max_blocks) k mine in
    let (from, to) = bounds (first_cell 0 g) (max_clients * max_blocks) k also in
    absurd (eqb-false f g other (omega arith)))
    (λ e. e)

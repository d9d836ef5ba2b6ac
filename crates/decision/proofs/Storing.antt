-- Storing: `stored n place v l` is the list l with v k stored at place k for each k below n. Its laws, and a loop that
-- stores one by one. Assumes nothing.
use Prim.Native.Nat.{ℕ, zero, suc, ◌+◌, ◌-◌, ◌≤◌, ◌<◌}
use mathlib.Core.Path.{◌≡◌, refl, sym, ap, ◌∙◌}
use mathlib.Core.List.{List, ◌++◌}
use mathlib.Core.Logic.{◌≢◌, ⊎_elim}
use native.Mathlib.Nat.{eq-or-lt_of_le, le_of_suc-le-suc}
use native.Mathlib.Numerals.{add-one}
use native.Mathlib.Omega.{arith}
use lib.Dec.{ltb}
use lib.ListN.{length, get_or, set, length-set, get_or-append, drop}
use lib.Seq.{get_or-set_same, get_or-set_other, set-get_or, ext_get_or, get_or-append_right}
use borrow.Author.Tests.{ltb-true, ltb-false}
use Rattle.std.proofs.lemmas.List.{get_or-drop, length-append, length-drop}
use Rattle.sizes.proofs.Choosing.{split}
use Rattle.decision.specs.Lists.{stored}

module _ {ℓ} {A : Type ℓ} where
  pub stored_next : (n : ℕ) (place : ℕ → ℕ) (v : ℕ → A) (l : List A)
      → stored (n + 1) place v l ≡ set (stored n place v l) (place n) (v n)
  unfolding stored
  stored_next n place v l = rw add-one

  pub length_stored : (n : ℕ) (place : ℕ → ℕ) (v : ℕ → A) (l : List A) → length (stored n place v l) ≡ length l
  unfolding stored
  length_stored zero place v l = refl
  length_stored (suc n) place v l = rw (length-set, length_stored n place v l)

  -- values that agree below n
  pub stored_agree : (n : ℕ) (place : ℕ → ℕ) (v w : ℕ → A) (l : List A)
      → ((k : ℕ) → k < n → v k ≡ w k) → stored n place v l ≡ stored n place w l
  unfolding stored
  stored_agree zero place v w l same = refl
  stored_agree (suc n) place v w l same =
      rw (stored_agree n place v w l (λ k h. same k (omega arith)), same n (omega arith))

  -- storing what stands there already
  pub stored_same : (n : ℕ) (place : ℕ → ℕ) (v : ℕ → A) (l : List A) (d : A)
      → ((k : ℕ) → k < n → v k ≡ get_or l (place k) d) → stored n place v l ≡ l
  unfolding stored
  stored_same zero place v l d same = refl
  stored_same (suc n) place v l d same =
      rw (stored_same n place v l d (λ k h. same k (omega arith)), same n (omega arith), set-get_or)

  -- what stands at j, where nothing was stored
  pub get_d_stored_other : (n : ℕ) (place : ℕ → ℕ) (v : ℕ → A) (l : List A) (d : A) (j : ℕ)
      → ((k : ℕ) → k < n → j ≢ place k) → get_or (stored n place v l) j d ≡ get_or l j d
  unfolding stored
  get_d_stored_other zero place v l d j off = refl
  get_d_stored_other (suc n) place v l d j off =
      get_or-set_other (stored n place v l) (place n) j (v n) d (off n (omega arith))
      ∙ get_d_stored_other n place v l d j (λ k h. off k (omega arith))

  -- what stands at place i, where nothing was stored later
  pub get_d_stored : (n : ℕ) (place : ℕ → ℕ) (v : ℕ → A) (l : List A) (d : A) (i : ℕ)
      → i < n → place i < length l → ((k : ℕ) → i < k → k < n → place i ≢ place k)
      → get_or (stored n place v l) (place i) d ≡ v i
  unfolding stored
  get_d_stored zero place v l d i h r off = absurd (omega arith)
  get_d_stored (suc n) place v l d i h r off =
      ⊎_elim
      (λ (e : i ≡ n). rw e (get_or-set_same (stored n place v l) (place n) (v n) d (rw length_stored (rw e at r))))
      (λ (less : i < n).
      get_or-set_other (stored n place v l) (place n) (place i) (v n) d (off n less (omega arith))
      ∙ get_d_stored n place v l d i less r (λ k a b. off k a (omega arith)))
      (eq-or-lt_of_le (le_of_suc-le-suc h))

-- all that a list has, stored in its place
pub stored_whole {ℓ} : {A : Type ℓ} (n : ℕ) (d : A) (l l₀ : List A) → length l ≡ n → length l₀ ≡ n
    → stored n (λ k. k) (λ k. get_or l k d) l₀ ≡ l
stored_whole n d l l₀ long long₀ =
    let size : length (stored n (λ k. k) (λ k. get_or l k d) l₀) ≡ n = length_stored n (λ k. k) (λ k. get_or l k d) l₀ ∙ long₀ in
    ext_get_or d (stored n (λ k. k) (λ k. get_or l k d) l₀) l (size ∙ sym long)
    (λ i h.
    let below : i < n = omega (arith, h, size) in
    get_d_stored n (λ k. k) (λ k. get_or l k d) l₀ d i below (omega (arith, below, long₀)) (λ k a b e. omega (arith, a, e)))

-- a list of n values in front of what lies past the first n
pub stored_first {ℓ} : {A : Type ℓ} (n : ℕ) (d : A) (v : ℕ → A) (ys l : List A) → length ys ≡ n → n ≤ length l
    → ((k : ℕ) → k < n → get_or ys k d ≡ v k) → ys ++ drop n l ≡ stored n (λ k. k) v l
stored_first n d v ys l long fits same =
    let size : length (stored n (λ k. k) v l) ≡ length l = length_stored n (λ k. k) v l in
    let at-place : (i : ℕ) → n ≤ i → n + (i - n) ≡ i = λ i past. omega arith in
    let sized : length (ys ++ drop n l) ≡ length l = rw (length-append, long, length-drop) (omega arith) in
    ext_get_or d (ys ++ drop n l) (stored n (λ k. k) v l) (sized ∙ sym size)
    (λ i h.
    let below : i < length l = omega (arith, h, sized) in
    split (ltb i n)
    (λ e.
    let less : i < n = ltb-true i n e in
    get_or-append ys (drop n l) d i (omega (arith, long))
    ∙ same i less
    ∙ sym (get_d_stored n (λ k. k) v l d i less below (λ k a b e. omega (arith, a, e))))
    (λ e.
    let past : n ≤ i = ltb-false i n e in
    get_or-append_right ys (drop n l) i d (omega (arith, long))
    ∙ ap (λ (j : ℕ). get_or (drop n l) (i - j) d) long
    ∙ get_or-drop n l (i - n) d
    ∙ ap (λ (j : ℕ). get_or l j d) (at-place i past)
    ∙ sym (get_d_stored_other n (λ k. k) v l d i (λ k below e. omega (arith, below, e)))))

-- The invariant of a loop that stores up to n: i values are stored into l₀, which gives l.
pub record Stored {ℓ} {A : Type ℓ} (n : ℕ) (place : ℕ → ℕ) (v : ℕ → A) (l₀ l : List A) (i : ℕ) : Type ℓ where
  pub passed : i ≤ n
  pub stores : l ≡ stored i place v l₀

module _ {ℓ} {A : Type ℓ} {n : ℕ} {place : ℕ → ℕ} {v : ℕ → A} {l₀ : List A} where
  pub stored_none : Stored n place v l₀ l₀ 0
  unfolding stored
  stored_none = record { passed = omega arith; stores = refl }

  pub stored_more : {l : List A} {i : ℕ} {w : A}
      → Stored n place v l₀ l i → i < n → w ≡ v i → Stored n place v l₀ (set l (place i) w) (i + 1)
  stored_more {i = i} h more e = record { passed = omega arith; stores = cc (stored_next i place v l₀) }

  pub stored_all : {l : List A} {i : ℕ} → Stored n place v l₀ l i → n ≤ i → l ≡ stored n place v l₀
  stored_all h past = h.stores ∙ ap (λ (k : ℕ). stored k place v l₀) (omega arith)

-- what the loop has not reached is as it was
pub not_yet {ℓ} :
    {A : Type ℓ} {n : ℕ} {v : ℕ → A} {l₀ l : List A} {i : ℕ} (d : A)
    → Stored n (λ k. k) v l₀ l i
    → get_or l i d ≡ get_or l₀ i d
not_yet {A = A} {v = v} {l₀ = l₀} {i = i} d h =
    ap (λ (x : List A). get_or x i d) h.stores ∙ get_d_stored_other i (λ k. k) v l₀ d i (λ k lt. omega arith)

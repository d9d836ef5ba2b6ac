-- The lent flags: those of the state first, and those of the used blocks after them. Assumes nothing.
use Prim.Native.Nat.{ℕ, zero, suc, ◌+◌, ◌-◌, ◌≤◌, ◌<◌}
use mathlib.Core.Path.{◌≡◌, refl, sym, ap, ap₂, ◌∙◌}
use mathlib.Core.Bool.{Bool, true, false, ◌||◌}
use mathlib.Core.List.{List, ◌++◌}
use native.Mathlib.Omega.{arith}
use lib.Dec.{eqb, ltb}
use lib.ListN.{length, get_or, set, take, drop, length-set, length-append, length-drop, take-append-drop}
use lib.Seq.{ext_get_or, get_or-take, get_or-drop, get_or-set_same, get_or-set_other, take-set-lt, take-set-le}
use lib.Seq.{take_all, take_at, drop-set-lt, drop-set-add, take-take, length-take-le}
use borrow.Rule.Slice.PartMut.{put_mid, same_len_mid}
use Rattle.std.proofs.lemmas.Slice.{take-put_mid_below, drop-put_mid, between-put_mid, drop-append-drop}
use borrow.Author.Tests.{eqb-true, eqb-false, ltb-true, ltb-false}
use Rattle.sizes.proofs.Choosing.{split}
use Rattle.sizes.specs.Sizes.{max_clients, max_places, place}
use Rattle.decision.specs.Lists.{stored}
use Rattle.decision.proofs.Storing.{length_stored, stored_agree}
use Rattle.words.proofs.Listing.{get_d_listed, listed_agree}
use Rattle.service.specs.Lent.{state_flags, lent_flags, recovering_held, reported_held, embargoed_held, used_held}
use Rattle.service.specs.Served.{marked}
use Rattle.service.proofs.Copying.{listed_get_d}

-- ---- stores before and after a place m

module _ {ℓ} {A : Type ℓ} where
  pub take_stored :
      (n m : ℕ) (at : ℕ → ℕ) (v : ℕ → A) (l : List A)
      → ((k : ℕ) → k < n → m ≤ at k)
      → take m (stored n at v l) ≡ take m l
  unfolding stored
  take_stored zero m at v l past = refl
  take_stored (suc n) m at v l past =
      take-set-le m (stored n at v l) (at n) (v n) (past n (omega arith))
      ∙ take_stored n m at v l (λ k h. past k (omega arith))

  pub drop_stored :
      (n m : ℕ) (at : ℕ → ℕ) (v : ℕ → A) (l : List A)
      → ((k : ℕ) → k < n → at k < m)
      → drop m (stored n at v l) ≡ drop m l
  unfolding stored
  drop_stored zero m at v l below = refl
  drop_stored (suc n) m at v l below =
      drop-set-lt m (stored n at v l) (at n) (v n) (below n (omega arith))
      ∙ drop_stored n m at v l (λ k h. below k (omega arith))

  -- what is stored past m, in the list from m on
  pub drop_stored_past :
      (n m : ℕ) (at to : ℕ → ℕ) (v : ℕ → A) (l : List A)
      → ((k : ℕ) → k < n → at k ≡ m + to k)
      → drop m (stored n at v l) ≡ stored n to v (drop m l)
  unfolding stored
  drop_stored_past zero m at to v l same = refl
  drop_stored_past (suc n) m at to v l same =
      ap (λ p. drop m (set (stored n at v l) p (v n))) (same n (omega arith))
      ∙ drop-set-add m (stored n at v l) (to n) (v n)
      ∙ ap (λ x. set x (to n) (v n)) (drop_stored_past n m at to v l (λ k h. same k (omega arith)))

-- ---- reading them

pub embargoes_read :
    (l : List Bool) → length l ≡ lent_flags → embargoed_held l ≡ take max_clients (drop (max_clients + 1) l)
embargoes_read l long =
    let part = take max_clients (drop (max_clients + 1) l) in
    listed_agree max_clients (λ i. get_or l (max_clients + 1 + i) false) (λ i. get_or part i false)
    (λ i h.
    sym
    (get_or-take max_clients (drop (max_clients + 1) l) i false h ∙ get_or-drop (max_clients + 1) l i false))
    ∙ listed_get_d max_clients false part
    (length-take-le max_clients (drop (max_clients + 1) l) (omega (arith, long, length-drop (max_clients + 1) l)))

-- whether a client is under embargo, by its flag
pub flag_embargoed :
    (l : List Bool) (i : ℕ) → i < max_clients → get_or (embargoed_held l) i false ≡ get_or l (max_clients + 1 + i) false
flag_embargoed l i h = get_d_listed max_clients (λ i. get_or l (max_clients + 1 + i) false) false i h

-- whether a block is used, by its flag at p
pub flag_used :
    (l : List Bool) (p f b : ℕ) → p ≡ place f b → get_or l (state_flags + p) false ≡ get_or (used_held l) (place f b) false
flag_used l p f b e = ap (λ q. get_or l (state_flags + q) false) e ∙ sym (get_or-drop state_flags l (place f b) false)

pub length_used : (l : List Bool) → length l ≡ lent_flags → length (used_held l) ≡ max_places
length_used l long = length-drop state_flags l ∙ omega (arith, long)

-- ---- storing them

-- the flags l, once the reports r are stored, v after them, and the embargoes e last
module _ (l r : List Bool) (v : Bool) (e : List Bool)
    (long : length l ≡ lent_flags) (size : length r ≡ max_clients) (many : length e ≡ max_clients) where
  abbrev reports_put : List Bool
  reports_put = r ++ drop max_clients l

  abbrev state_put : List Bool
  state_put = set reports_put max_clients v

  abbrev pub flags_put : List Bool
  flags_put = put_mid (max_clients + 1) max_clients state_put e

  state_long : length state_put ≡ lent_flags
  state_long = length-set reports_put max_clients v ∙ length-append r (drop max_clients l) ∙ omega (arith, long, size, length-drop max_clients l)

  all_long : length flags_put ≡ lent_flags
  all_long =
      same_len_mid (max_clients + 1) max_clients state_put e
      (many
      ∙ sym (length-take-le max_clients (drop (max_clients + 1) state_put)
      (omega (arith, state_long, length-drop (max_clients + 1) state_put))))
      ∙ state_long

  before : (n : ℕ) → n ≤ max_clients + 1 → take n flags_put ≡ take n state_put
  before n h = take-put_mid_below (max_clients + 1) max_clients state_put e n h (omega (arith, state_long))

  recovering_put : recovering_held flags_put ≡ v
  recovering_put =
      sym (get_or-take (max_clients + 1) flags_put max_clients false (omega arith))
      ∙ ap (λ (x : List Bool). get_or x max_clients false) (before (max_clients + 1) (omega arith))
      ∙ get_or-take (max_clients + 1) state_put max_clients false (omega arith)
      ∙ get_or-set_same reports_put max_clients v false (omega (arith, state_long, length-set reports_put max_clients v))

  reports_are : reported_held flags_put ≡ r
  reports_are =
      before max_clients (omega arith)
      ∙ take-set-le max_clients reports_put max_clients v (omega arith)
      ∙ take_at r (drop max_clients l) max_clients size

  embargoes_are : embargoed_held flags_put ≡ e
  embargoes_are =
      embargoes_read flags_put all_long
      ∙ between-put_mid (max_clients + 1) max_clients state_put e state_flags (omega (arith, state_long)) many

  used_put : used_held flags_put ≡ used_held l
  used_put =
      drop-put_mid (max_clients + 1) max_clients state_put e state_flags (omega arith) (omega (arith, state_long)) many
      ∙ drop-set-lt state_flags reports_put max_clients v (omega arith)
      ∙ drop-append-drop max_clients l r state_flags (omega arith) size

  pub flags_put_lem :
      (recovering_held flags_put ≡ v)
      × (reported_held flags_put ≡ r)
      × (embargoed_held flags_put ≡ e)
      × (used_held flags_put ≡ used_held l)
      × (length flags_put ≡ lent_flags)
  flags_put_lem = (recovering_put, reports_are, embargoes_are, used_put, all_long)

-- the flags, once client i has reported
pub flag_reported :
    (l : List Bool) (i : ℕ)
    → length l ≡ lent_flags
    → i < max_clients
    → (recovering_held (set l i true) ≡ recovering_held l)
    × (reported_held (set l i true) ≡ set (reported_held l) i true)
    × (embargoed_held (set l i true) ≡ embargoed_held l)
flag_reported l i long below = (
  get_or-set_other l i max_clients true false (λ e. omega (arith, below, e)),
  take-set-lt max_clients l i true below,
  listed_agree max_clients (λ j. get_or (set l i true) (max_clients + 1 + j) false) (λ j. get_or l (max_clients + 1 + j) false)
      (λ j h. get_or-set_other l i (max_clients + 1 + j) true false (λ e. omega (arith, below, e))),
)

-- a store into the flags of the state leaves the used blocks, and one into theirs the state
pub used_kept : (l : List Bool) (i : ℕ) (v : Bool) → i < state_flags → used_held (set l i v) ≡ used_held l
used_kept l i v h = drop-set-lt state_flags l i v h

pub state_kept : (l : List Bool) (p : ℕ) (v : Bool) → take state_flags (set l (state_flags + p) v) ≡ take state_flags l
state_kept l p v = take-set-le state_flags l (state_flags + p) v (omega arith)

-- the used blocks, once one is stored
pub used_set : (l : List Bool) (p : ℕ) (v : Bool) → used_held (set l (state_flags + p) v) ≡ set (used_held l) p v
used_set l p v = drop-set-add state_flags l p v

-- all of them stored
module _ (l used : List Bool) (long : length l ≡ lent_flags) (size : length used ≡ max_places) where
  abbrev pub blocks_put : List Bool
  blocks_put = put_mid state_flags max_places l used

  pub used_put_lem :
      (used_held blocks_put ≡ used) × (take state_flags blocks_put ≡ take state_flags l) × (length blocks_put ≡ lent_flags)
  used_put_lem =
      let all : length blocks_put ≡ lent_flags =
      same_len_mid state_flags max_places l used
      (size ∙ sym (length-take-le max_places (drop state_flags l) (omega (arith, long, length-drop state_flags l))))
      ∙ long in (
        sym (take_all max_places (drop state_flags blocks_put) (omega (arith, all, length-drop state_flags blocks_put)))
            ∙ between-put_mid state_flags max_places l used lent_flags (omega (arith, long)) size,
        take-put_mid_below state_flags max_places l used state_flags (omega arith) (omega (arith, long)),
        all,
      )

-- and all of them read
pub used_read : (l : List Bool) → length l ≡ lent_flags → take max_places (drop state_flags l) ≡ used_held l
used_read l long = take_all max_places (drop state_flags l) (omega (arith, long, length-drop state_flags l))

-- the blocks of a file marked as used: the used blocks, the state, and how many flags there are
pub used_marked :
    (n to : ℕ) (sent l : List Bool)
    → used_held (marked n to sent l)
    ≡ stored n (λ b. to + b) (λ b. get_or (used_held l) (to + b) false || get_or sent b false) (used_held l)
used_marked n to sent l =
    drop_stored_past n state_flags (λ b. state_flags + to + b) (λ b. to + b)
    (λ b. get_or l (state_flags + to + b) false || get_or sent b false) l (λ k h. omega arith)
    ∙ stored_agree n (λ b. to + b) (λ b. get_or l (state_flags + to + b) false || get_or sent b false)
    (λ b. get_or (used_held l) (to + b) false || get_or sent b false) (used_held l)
    (λ k h.
    ap (λ t. t || get_or sent k false)
    (ap (λ q. get_or l q false) (omega arith) ∙ sym (get_or-drop state_flags l (to + k) false)))

pub state_marked :
    (n to : ℕ) (sent l : List Bool) → take state_flags (marked n to sent l) ≡ take state_flags l
state_marked n to sent l =
    take_stored n state_flags (λ b. state_flags + to + b) (λ b. get_or l (state_flags + to + b) false || get_or sent b false) l
    (λ k h. omega arith)

pub length_marked : (n to : ℕ) (sent l : List Bool) → length (marked n to sent l) ≡ length l
length_marked n to sent l =
    length_stored n (λ b. state_flags + to + b) (λ b. get_or l (state_flags + to + b) false || get_or sent b false) l

-- ---- flags that are the same

-- those of the state are where they hold the same recovery
pub same_state :
    (l m : List Bool)
    → length l ≡ lent_flags
    → length m ≡ lent_flags
    → recovering_held l ≡ recovering_held m
    → reported_held l ≡ reported_held m
    → embargoed_held l ≡ embargoed_held m
    → take state_flags l ≡ take state_flags m
same_state l m long long' recovering reported embargoed =
    let few : length (take state_flags l) ≡ state_flags = length-take-le state_flags l (omega (arith, long)) in
    let few' : length (take state_flags m) ≡ state_flags = length-take-le state_flags m (omega (arith, long')) in
    ext_get_or false (take state_flags l) (take state_flags m) (few ∙ sym few')
    (λ i h.
    let inside : i < state_flags = omega (arith, h, few) in
    get_or-take state_flags l i false inside
    ∙ split (ltb i max_clients)
    (λ below.
    let less : i < max_clients = ltb-true i max_clients below in
    sym (get_or-take max_clients l i false less)
    ∙ ap (λ (x : List Bool). get_or x i false) reported
    ∙ get_or-take max_clients m i false less)
    (λ past.
    split (eqb i max_clients)
    (λ last. rw (eqb-true i max_clients last) recovering)
    (λ off.
    let beyond = ltb-false i max_clients past in
    let other = eqb-false i max_clients off in
    let client : ℕ = i - (max_clients + 1) in
    let there : client < max_clients = omega (arith, inside) in
    let spot : i ≡ max_clients + 1 + client = omega (arith, beyond, other) in
    rw spot
    (sym (flag_embargoed l client there)
    ∙ ap (λ (x : List Bool). get_or x client false) embargoed
    ∙ flag_embargoed m client there)))
    ∙ sym (get_or-take state_flags m i false inside))

-- all are where they hold the same used blocks too
pub same_flags :
    (l m : List Bool)
    → length l ≡ lent_flags
    → length m ≡ lent_flags
    → recovering_held l ≡ recovering_held m
    → reported_held l ≡ reported_held m
    → embargoed_held l ≡ embargoed_held m
    → used_held l ≡ used_held m
    → l ≡ m
same_flags l m long long' recovering reported embargoed used =
    sym (take-append-drop state_flags l)
    ∙ ap₂ ◌++◌ (same_state l m long long' recovering reported embargoed) used
    ∙ take-append-drop state_flags m

-- flags of the state that are the same hold the same recovery
pub state_held_lem :
    (l m : List Bool)
    → take state_flags l ≡ take state_flags m
    → (recovering_held l ≡ recovering_held m) × (reported_held l ≡ reported_held m) × (embargoed_held l ≡ embargoed_held m)
state_held_lem l m same = (
  at max_clients (omega arith),
  sym (take-take max_clients state_flags l (omega arith))
      ∙ ap (λ (x : List Bool). take max_clients x) same
      ∙ take-take max_clients state_flags m (omega arith),
  listed_agree max_clients (λ i. get_or l (max_clients + 1 + i) false) (λ i. get_or m (max_clients + 1 + i) false)
      (λ i h. at (max_clients + 1 + i) (omega arith)),
)
  where
    at : (i : ℕ) → i < state_flags → get_or l i false ≡ get_or m i false
    at i h =
        sym (get_or-take state_flags l i false h)
        ∙ ap (λ (x : List Bool). get_or x i false) same
        ∙ get_or-take state_flags m i false h

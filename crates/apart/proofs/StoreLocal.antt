-- What a step on one file does to the store goes by that file alone: which blocks it uses, how many of them are counted,
-- and whether a write takes a place. Assumes nothing.
use Prim.Native.Nat.{ℕ, ◌<◌}
use mathlib.Core.Path.{◌≡◌, refl, sym, ap, ◌∙◌, subst}
use mathlib.Core.Bool.{Bool, true, false, cond, not, ◌&&◌, ◌||◌, true≢false}
use mathlib.Core.List.{List}
use native.Mathlib.Omega.{arith}
use lib.Dec.{eqb}
use lib.ListN.{get_or, set}
use borrow.Author.Tests.{eq-eqb}
use Rattle.sizes.specs.declared.sizes.Sizes.{Sizes}
use Rattle.sizes.specs.Sizes.{in_force, Permitted, place, cell, max_clients, max_blocks}
use Rattle.sizes.proofs.InForce.{in_force_permitted, client_fits, block_fits}
use Rattle.decision.specs.Callback.{writes_back}
use Rattle.decision.specs.Lists.{stored}
use Rattle.protocol.specs.declared.client.ClientFile.{ClientFile}
use Rattle.protocol.specs.declared.client.Sides.{Sides}
use Rattle.protocol.specs.declared.entry.Entry.{Entry}
use Rattle.protocol.specs.declared.step.Step.TheVariants.{Write}
use Rattle.protocol.specs.Client.{side_of}
use Rattle.protocol.specs.Step.{OnFile}
use Rattle.protocol.specs.Entry.{call_to}
use Rattle.table.specs.TableStep.{is_reported, is_embargoed}
use Rattle.service.specs.declared.service.Service.{Service}
use Rattle.service.specs.Contents.{sizes_of, table_in, entry_at, client_at, embargoed_at, reported_at, dirty_at, used_at}
use Rattle.service.specs.Space.{any_below, dirty_among, is_counted, counted_on, is_within, is_known, takes_place, taken_in, recounted}
use Rattle.service.proofs.Counting.{any_cong, count_cong}
use Rattle.apart.specs.Agree.{AgreeOn, blocks_of, On}
use Rattle.apart.proofs.Agreeing.{agree_refl, set_both, set_off, stored_both, stored_off, cell_in, place_in}

-- what an answer of client i on file f leaves of the flags
abbrev pub answered : ℕ → Service → ℕ → List Bool
answered f r i =
    let sends = writes_back (call_to (sizes_of r).clients (entry_at r f) i) in
    stored (sizes_of r).blocks (λ b. place f b) (λ b. used_at r f b || (sends && dirty_at r i f b)) r.server.used

-- ---- two services that agree on file f

module _ (f : ℕ) (s t : Service) (h : On f s t) where
  pub used_same : (b : ℕ) → b < max_blocks → used_at s f b ≡ used_at t f b
  used_same b hb = h.used.same (place f b) (place_in f hb)

  pub dirty_same : (i b : ℕ) → i < max_clients → b < max_blocks → dirty_at s i f b ≡ dirty_at t i f b
  dirty_same i b hi hb = h.stores.dirty.same (cell i f b) (cell_in f hi hb)

  within_same : (i : ℕ) → is_within s i ≡ is_within t i
  within_same i = ap (λ (l : List Bool). not (is_embargoed l i)) h.embargoed

  known_same : (i : ℕ) → is_known s i ≡ is_known t i
  known_same i =
      ap (λ (e : Bool). e && (not (table_in s).recovering || reported_at s i)) (within_same i)
      ∙ ap (λ (r : Bool). is_within t i && (not r || reported_at s i)) h.recovering
      ∙ ap (λ (l : List Bool). is_within t i && (not (table_in t).recovering || is_reported l i)) h.reported

  -- dirty at one of these clients
  among_same :
      {n : ℕ}
      → ((i : ℕ) → i < n → i < max_clients)
      → (p q : ℕ → Bool)
      → ((i : ℕ) → p i ≡ q i)
      → (b : ℕ)
      → b < max_blocks
      → dirty_among n p s.dirty f b ≡ dirty_among n q t.dirty f b
  among_same {n} fits p q same b hb =
      any_cong n _ _ (λ i hi. λ k. same i k && dirty_same i b (fits i hi) hb k)

  pub same_sizes : sizes_of s ≡ sizes_of t
  same_sizes = ap in_force h.sizes

  -- so many blocks are counted
  pub counted_same :
      counted_on (sizes_of s) (is_known s) s.server.used s.dirty f
      ≡ counted_on (sizes_of t) (is_known t) t.server.used t.dirty f
  counted_same =
      ap (λ (z : Sizes). counted_on z (is_known s) s.server.used s.dirty f) same_sizes
      ∙ count_cong (sizes_of t).blocks _ _
      (λ b hb.
      let block : b < max_blocks = block_fits (in_force_permitted t.sizes) hb in
      λ k.
      used_same b block k
      || among_same (λ i hi. client_fits (in_force_permitted t.sizes) hi) (is_known s) (is_known t) known_same b block k)

  -- a write takes a place in both or in neither
  pub place_same :
      (i b v : ℕ) → i < max_clients → b < max_blocks → takes_place s (Write i f b v) ≡ takes_place t (Write i f b v)
  place_same i b v hi hb =
      let n : ℕ = (sizes_of t).clients in
      let fits : (j : ℕ) → j < n → j < max_clients = λ j hj. client_fits (in_force_permitted t.sizes) hj in
      ap
      (λ (z : Sizes).
      not (used_at s f b || (not (used_at s f b) && dirty_among z.clients (is_within s) s.dirty f b) || dirty_at s i f b))
      same_sizes
      ∙ (λ k.
      not
      (used_same b hb k
      || (not (used_same b hb k) && among_same fits (is_within s) (is_within t) within_same b hb k)
      || dirty_same i b hi hb k))

  same_side : (i : ℕ) → client_at s i f ≡ client_at t i f
  same_side i = ap (λ (d : Sides). side_of d i) (h.clients.same f (eq-eqb f f refl))

  -- ---- the blocks that a write and an answer use

  pub write_uses :
      (i b : ℕ)
      → AgreeOn (blocks_of f) false
      (cond (client_at s i f).opens.caching s.server.used (set s.server.used (place f b) true))
      (cond (client_at t i f).opens.caching t.server.used (set t.server.used (place f b) true))
  write_uses i b =
      by-caching (client_at s i f).opens.caching (client_at t i f).opens.caching
      (ap (λ (c : ClientFile). c.opens.caching) (same_side i))
    where
      by-caching :
          (c d : Bool)
          → c ≡ d
          → AgreeOn (blocks_of f) false
          (cond c s.server.used (set s.server.used (place f b) true))
          (cond d t.server.used (set t.server.used (place f b) true))
      by-caching true true e = h.used
      by-caching false false e = set_both (place f b) true h.used
      by-caching true false e = absurd (true≢false e)
      by-caching false true e = absurd (true≢false (sym e))

  pub answer_uses : (i : ℕ) → i < max_clients → AgreeOn (blocks_of f) false (answered f s i) (answered f t i)
  answer_uses i hi =
      let sends-s : Bool = writes_back (call_to (sizes_of s).clients (entry_at s f) i) in
      let sends-t : Bool = writes_back (call_to (sizes_of t).clients (entry_at t f) i) in
      let sends : sends-s ≡ sends-t =
      ap (λ (z : Sizes). writes_back (call_to z.clients (entry_at s f) i)) same_sizes
      ∙ ap (λ (e : Entry). writes_back (call_to (sizes_of t).clients e i)) (h.files.same f (eq-eqb f f refl)) in
      subst
      (λ (n : ℕ).
      AgreeOn (blocks_of f) false
      (stored n (λ b. place f b) (λ b. used_at s f b || (sends-s && dirty_at s i f b)) s.server.used)
      (answered f t i))
      (sym (ap (λ (z : Sizes). z.blocks) same_sizes))
      (stored_both (sizes_of t).blocks (λ b. place f b) _ _ h.used
      (λ b hb.
      let block : b < max_blocks = block_fits (in_force_permitted t.sizes) hb in
      λ k. used_same b block k || (sends k && dirty_same i b hi block k)))

-- ---- the number of free places

pub recounted_same :
    (f : ℕ) (s t s' t' : Service)
    → On f s t
    → On f s' t'
    → recounted (sizes_of s).store s.server.free (taken_in s (OnFile f)) (taken_in s' (OnFile f))
    ≡ recounted (sizes_of t).store t.server.free (taken_in t (OnFile f)) (taken_in t' (OnFile f))
recounted_same f s t s' t' h h' =
    λ k. recounted (same_sizes f s t h k).store (h.free k) (counted_same f s t h k) (counted_same f s' t' h' k)

-- ---- other files

-- a block of file f is stored
pub one_off :
    (f b : ℕ) (l : List Bool) → b < max_blocks → AgreeOn (λ k. not (blocks_of f k)) false l (set l (place f b) true)
one_off f b l hb = set_off l (place f b) true (ap not (place_in f hb))

pub answer_off :
    (f i : ℕ) (s : Service)
    → AgreeOn (λ k. not (blocks_of f k)) false s.server.used (answered f s i)
answer_off f i s =
    stored_off (sizes_of s).blocks (λ b. place f b) _ s.server.used
    (λ b hb. ap not (place_in f (block_fits (in_force_permitted s.sizes) hb)))

-- What the parts of a step on file f do to the blocks and copies: they look only at those of file f, and leave those of
-- all others. It leads to the steps on one file. Assumes nothing.
use Prim.Native.Nat.{ℕ, ◌+◌, ◌≤◌, ◌<◌}
use mathlib.Core.Path.{◌≡◌, refl, ap, subst}
use mathlib.Core.Bool.{Bool, true, false, cond, not}
use mathlib.Core.List.{List}
use native.Mathlib.Omega.{arith}
use lib.Dec.{ltb}
use lib.ListN.{set}
use Rattle.sizes.specs.Sizes.{max_clients, max_blocks, place, cell, first_place, first_cell}
use Rattle.decision.specs.Callback.{writes_back, invalidates}
use Rattle.decision.proofs.Counting.{count_agree}
use Rattle.protocol.specs.Client.{kept, sent}
use Rattle.blocks.specs.declared.stores.Stores.{Stores}
use Rattle.blocks.specs.Stores.{copy_in, dirty_in, dirty_blocks, any_dirty, dropped_unless, answered_stores}
use Rattle.blocks.specs.Stores.{sent_blocks, flushed_stores}
use Rattle.apart.specs.Agree.{AgreeOn, blocks_of, copies_of, StoresAgree, StoresOn, StoresOff}
use Rattle.apart.proofs.Agreeing.{agree_refl, agree_trans, set_both, set_off, stored_both, stored_off}
use Rattle.apart.proofs.Agreeing.{place_in, cell_in}

-- ---- stores that agree

module _ {P Q : ℕ → Bool} where
  pub stores_refl : {a : Stores} → StoresAgree P Q a a
  stores_refl = record { blocks = agree_refl; copies = agree_refl; held = agree_refl; dirty = agree_refl }

  pub stores_trans : {a b c : Stores} → StoresAgree P Q a b → StoresAgree P Q b c → StoresAgree P Q a c
  stores_trans g h =
      record {
        blocks = agree_trans g.blocks h.blocks;
        copies = agree_trans g.copies h.copies;
        held = agree_trans g.held h.held;
        dirty = agree_trans g.dirty h.dirty;
      }

-- ---- a copy that is kept or dropped

kept_both :
    {A : Type 0} {R : ℕ → Bool} {d : A} (n : ℕ) (keep : Bool) (none : A) (base : ℕ) {l m : List A}
    → AgreeOn R d l m
    → AgreeOn R d (kept n keep none base l) (kept n keep none base m)
kept_both n true none base h = h
kept_both n false none base h = stored_both n (λ b. base + b) (λ b. none) (λ b. none) h (λ k below. refl)

kept_off :
    {A : Type 0} {d : A} (n : ℕ) (keep : Bool) (none : A) {i : ℕ} (f : ℕ) (l : List A)
    → n ≤ max_blocks
    → i < max_clients
    → AgreeOn (λ k. not (copies_of f k)) d l (kept n keep none (first_cell i f) l)
kept_off n true none f l most client = agree_refl
kept_off n false none {i} f l most client =
    stored_off n (λ b. first_cell i f + b) (λ b. none) l (λ k below. ap not (cell_in f client (omega arith)))

-- any client's copy is dropped in both
pub dropped_both :
    {P Q : ℕ → Bool} (n : ℕ) (keep : Bool) (i f : ℕ) {a b : Stores}
    → StoresAgree P Q a b
    → StoresAgree P Q (dropped_unless n keep i f a) (dropped_unless n keep i f b)
dropped_both n keep i f h =
    record {
      blocks = h.blocks;
      copies = kept_both n keep 0 (first_cell i f) h.copies;
      held = kept_both n keep false (first_cell i f) h.held;
      dirty = kept_both n keep false (first_cell i f) h.dirty;
    }

pub dropped_off :
    (n : ℕ) (keep : Bool) {i : ℕ} (f : ℕ) (a : Stores)
    → n ≤ max_blocks
    → i < max_clients
    → StoresOff f a (dropped_unless n keep i f a)
dropped_off n keep f a most client =
    record {
      blocks = agree_refl;
      copies = kept_off n keep 0 f a.copies most client;
      held = kept_off n keep false f a.held most client;
      dirty = kept_off n keep false f a.dirty most client;
    }

-- ---- what stands at one block of file f, and how many are dirty

module _ (f : ℕ) {a b : Stores} (h : StoresOn f a b) {i : ℕ} (client : i < max_clients) where
  pub copy_same : (c : ℕ) → c < max_blocks → copy_in a i f c ≡ copy_in b i f c
  copy_same c block = h.copies.same (cell i f c) (cell_in f client block)

  pub dirty_same : (c : ℕ) → c < max_blocks → dirty_in a i f c ≡ dirty_in b i f c
  dirty_same c block = h.dirty.same (cell i f c) (cell_in f client block)

  module _ (n : ℕ) (most : n ≤ max_blocks) where
    count_same : dirty_blocks n i f a ≡ dirty_blocks n i f b
    count_same = count_agree n _ _ (λ c below. dirty_same c (omega arith))

    pub any_same : any_dirty n i f a ≡ any_dirty n i f b
    any_same = ap (ltb 0) count_same

    pub sent-same : (kind : ℕ) → sent_blocks n kind i f a ≡ sent_blocks n kind i f b
    sent-same kind = ap (λ k. cond (writes_back kind) k 0) count_same

    -- ---- the dirty blocks of a file are sent

    sent-both :
        (send : Bool)
        → AgreeOn (blocks_of f) 0
        (sent n send a.dirty a.copies (first_cell i f) (first_place f) a.blocks)
        (sent n send b.dirty b.copies (first_cell i f) (first_place f) b.blocks)
    sent-both false = h.blocks
    sent-both true =
        stored_both n (λ c. first_place f + c) _ _ h.blocks
        (λ c below.
        let block : c < max_blocks = omega arith in
        λ k.
        cond (dirty_same c block k) (copy_same c block k) (h.blocks.same (place f c) (place_in f block) k))

    -- client i answers in both
    pub answered-both :
        (kind : ℕ) → StoresOn f (answered_stores n kind i f a) (answered_stores n kind i f b)
    answered-both kind =
        record {
          blocks = sent-both (writes_back kind);
          copies = kept_both n (not (invalidates kind)) 0 (first_cell i f) h.copies;
          held = kept_both n (not (invalidates kind)) false (first_cell i f) h.held;
          dirty = kept_both n false false (first_cell i f) h.dirty;
        }

  -- client i flushes block c in both
  pub flushed_both : (c : ℕ) → c < max_blocks → StoresOn f (flushed_stores i f c a) (flushed_stores i f c b)
  flushed_both c block =
      record {
        blocks =
            subst
            (λ (v : ℕ).
            AgreeOn (blocks_of f) 0 (set a.blocks (place f c) (copy_in a i f c)) (set b.blocks (place f c) v))
            (copy_same c block)
            (set_both (place f c) (copy_in a i f c) h.blocks);
        copies = h.copies;
        held = h.held;
        dirty = set_both (cell i f c) false h.dirty;
      }

-- ---- the other files stay

sent_off :
    (n : ℕ) (send : Bool) (dirty : List Bool) (copies : List ℕ) (base f : ℕ) (l : List ℕ)
    → n ≤ max_blocks
    → AgreeOn (λ k. not (blocks_of f k)) 0 l (sent n send dirty copies base (first_place f) l)
sent_off n false dirty copies base f l most = agree_refl
sent_off n true dirty copies base f l most =
    stored_off n (λ c. first_place f + c) _ l (λ k below. ap not (place_in f (omega arith)))

module _ {i : ℕ} (f : ℕ) (a : Stores) (client : i < max_clients) where
  pub answered_off : (n kind : ℕ) → n ≤ max_blocks → StoresOff f a (answered_stores n kind i f a)
  answered_off n kind most =
      record {
        blocks = sent_off n (writes_back kind) a.dirty a.copies (first_cell i f) f a.blocks most;
        copies = kept_off n (not (invalidates kind)) 0 f a.copies most client;
        held = kept_off n (not (invalidates kind)) false f a.held most client;
        dirty = kept_off n false false f a.dirty most client;
      }

  pub flushed_off : (c : ℕ) → c < max_blocks → StoresOff f a (flushed_stores i f c a)
  flushed_off c block =
      record {
        blocks = set_off a.blocks (place f c) (copy_in a i f c) (ap not (place_in f block));
        copies = agree_refl;
        held = agree_refl;
        dirty = set_off a.dirty (cell i f c) false (ap not (cell_in f client block));
      }

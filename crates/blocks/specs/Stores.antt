-- The server's blocks and the clients' copies of them, and what the steps do to those of one file. The copies and their
-- flags stand in the same places.
use Rattle.std.specs.Prelude.{ℕ, Bool, true, false, cond, not, ◌&&◌, List, ltb, get_or, set}
use Rattle.decision.specs.Lists.{count}
use Rattle.sizes.specs.Sizes.{place, cell, first_place, first_cell}
use Rattle.decision.specs.Callback.{writes_back, invalidates}
use Rattle.protocol.specs.Client.{kept, sent}
use Rattle.blocks.specs.declared.stores.Stores.{Stores}

-- the four lists, together
abbrev pub lent : List ℕ → List ℕ → List Bool → List Bool → Stores
lent blocks copies held dirty = record { blocks = blocks; copies = copies; held = held; dirty = dirty }

-- what stands in them
abbrev pub block_in : Stores → ℕ → ℕ → ℕ
block_in a f b = get_or a.blocks (place f b) 0

abbrev pub copy_in : Stores → ℕ → ℕ → ℕ → ℕ
copy_in a i f b = get_or a.copies (cell i f b) 0

abbrev pub held_in : Stores → ℕ → ℕ → ℕ → Bool
held_in a i f b = get_or a.held (cell i f b) false

abbrev pub dirty_in : Stores → ℕ → ℕ → ℕ → Bool
dirty_in a i f b = get_or a.dirty (cell i f b) false

-- how many blocks of file f, which has n, are dirty at client i; and whether one is
abbrev pub dirty_blocks : ℕ → ℕ → ℕ → Stores → ℕ
dirty_blocks n i f a = count n (λ b. dirty_in a i f b)

abbrev pub any_dirty : ℕ → ℕ → ℕ → Stores → Bool
any_dirty n i f a = ltb 0 (dirty_blocks n i f a)

-- Client i's copy of file f, of n blocks, is dropped unless it is kept: "A dropped block is not held, not dirty and
-- zero".
abbrev pub dropped_unless : ℕ → Bool → ℕ → ℕ → Stores → Stores
dropped_unless n keep i f a =
    record {
      blocks = a.blocks;
      copies = kept n keep 0 (first_cell i f) a.copies;
      held = kept n keep false (first_cell i f) a.held;
      dirty = kept n keep false (first_cell i f) a.dirty;
    }

-- Client i answers a callback of the kind: "1 sends every dirty block, each then clean and still held ..; 2 drops the
-- copy ..; 3 is 1, then 2."
abbrev pub answered_stores : ℕ → ℕ → ℕ → ℕ → Stores → Stores
answered_stores n kind i f a =
    record {
      blocks = sent n (writes_back kind) a.dirty a.copies (first_cell i f) (first_place f) a.blocks;
      copies = kept n (not (invalidates kind)) 0 (first_cell i f) a.copies;
      held = kept n (not (invalidates kind)) false (first_cell i f) a.held;
      dirty = kept n false false (first_cell i f) a.dirty;
    }

-- "Writing back now tells how many blocks it sent" (document 02, Wish 5): "For kinds 1 and 3 it equals the dirty
-- blocks of that file there just before the reply; an invalidation alone gives 0."
abbrev pub sent_blocks : ℕ → ℕ → ℕ → ℕ → Stores → ℕ
sent_blocks n kind i f a = cond (writes_back kind) (dirty_blocks n i f a) 0

-- "one dirty block goes to the server and is clean"
abbrev pub flushed_stores : ℕ → ℕ → ℕ → Stores → Stores
flushed_stores i f b a =
    record {
      blocks = set a.blocks (place f b) (copy_in a i f b);
      copies = a.copies;
      held = a.held;
      dirty = set a.dirty (cell i f b) false;
    }

-- "a station that may cache gives the held block, or fetches and holds it. Without permission the server's block is
-- given and not held."
abbrev pub value_read : Bool → ℕ → ℕ → ℕ → Stores → ℕ
value_read caching i f b a = cond (caching && held_in a i f b) (copy_in a i f b) (block_in a f b)

abbrev pub read_stores : Bool → ℕ → ℕ → ℕ → Stores → Stores
read_stores caching i f b a =
    let fetches = caching && not (held_in a i f b) in
    record {
      blocks = a.blocks;
      copies = cond fetches (set a.copies (cell i f b) (block_in a f b)) a.copies;
      held = cond fetches (set a.held (cell i f b) true) a.held;
      dirty = a.dirty;
    }

-- "with permission the copy is written, held and dirty; without, the server's block"
abbrev pub written_stores : Bool → ℕ → ℕ → ℕ → ℕ → Stores → Stores
written_stores caching i f b v a =
    record {
      blocks = cond caching a.blocks (set a.blocks (place f b) v);
      copies = cond caching (set a.copies (cell i f b) v) a.copies;
      held = cond caching (set a.held (cell i f b) true) a.held;
      dirty = cond caching (set a.dirty (cell i f b) true) a.dirty;
    }

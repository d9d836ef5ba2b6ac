-- What the parts find and leave in the blocks and copies, as the definitions of the steps have it. Assumes nothing.
use Prim.Native.Nat.{ℕ, ◌+◌}
use mathlib.Core.Path.{◌≡◌}
use mathlib.Core.Bool.{Bool, false, cond, not}
use lib.Dec.{ltb}
use lib.ListN.{get_or, set}
use Rattle.sizes.specs.Sizes.{first_place, place, first_cell, cell}
use Rattle.decision.specs.Lists.{count}
use Rattle.decision.specs.Callback.{writes_back, invalidates}
use Rattle.protocol.specs.Client.{kept, sent}
use Rattle.blocks.specs.declared.stores.Stores.{Stores}
use Rattle.blocks.specs.Stores.{lent, any_dirty, sent_blocks, dropped_unless, answered_stores, flushed_stores}

module _ (n i f : ℕ) (a : Stores) where
  pub dropped :
      (keep : Bool) (base : ℕ) (after : Stores)
      → base ≡ first_cell i f
      → after.blocks ≡ a.blocks
      → after.copies ≡ kept n keep 0 base a.copies
      → after.held ≡ kept n keep false base a.held
      → after.dirty ≡ kept n keep false base a.dirty
      → after ≡ dropped_unless n keep i f a
  dropped keep base after at b c h d =
      let same : lent after.blocks after.copies after.held after.dirty ≡ dropped_unless n keep i f a =
      rw (b, c, h, d, at) in
      same

  pub sent_blocks_lem :
      (kind base told : ℕ)
      → base ≡ first_cell i f
      → told ≡ cond (writes_back kind) (count n (λ b. get_or a.dirty (base + b) false)) 0
      → told ≡ sent_blocks n kind i f a
  sent_blocks_lem kind base told at counts = rw (counts, at)

  pub answered :
      (kind base to : ℕ) (after : Stores)
      → base ≡ first_cell i f
      → to ≡ first_place f
      → after.blocks ≡ sent n (writes_back kind) a.dirty a.copies base to a.blocks
      → after.copies ≡ kept n (not (invalidates kind)) 0 base a.copies
      → after.held ≡ kept n (not (invalidates kind)) false base a.held
      → after.dirty ≡ kept n false false base a.dirty
      → after ≡ answered_stores n kind i f a
  answered kind base to after at at' b c h d =
      let same : lent after.blocks after.copies after.held after.dirty ≡ answered_stores n kind i f a =
      rw (b, c, h, d, at, at') in
      same

-- whether a block is dirty is told by how many were found from the place on where the client's copies begin
pub any_found :
    (n i f : ℕ) (a : Stores) (base found : ℕ)
    → base ≡ first_cell i f
    → found ≡ count n (λ b. get_or a.dirty (base + b) false)
    → ltb 0 found ≡ any_dirty n i f a
any_found n i f a base found at counted = rw (counted, at)

-- the block is stored and clean where the numbers say
pub flushed :
    (i f b : ℕ) (a : Stores) (at to : ℕ)
    → at ≡ cell i f b
    → to ≡ place f b
    → lent (set a.blocks to (get_or a.copies at 0)) a.copies a.held (set a.dirty at false) ≡ flushed_stores i f b a
flushed i f b a at to there here = rw (there, here)

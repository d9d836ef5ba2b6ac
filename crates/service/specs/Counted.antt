-- The store as the code looks at it, in the lent flags. Derived: no contract of a public function mentions it.
use Rattle.std.specs.Prelude.{ℕ, ◌+◌, Bool, false, not, ◌&&◌, ◌||◌, List, get_or}
use Rattle.sizes.specs.declared.sizes.Sizes.{Sizes}
use Rattle.sizes.specs.Sizes.{max_clients, place, cell}
use Rattle.decision.specs.Lists.{count}
use Rattle.service.specs.Lent.{recovering_held, used_held}
use Rattle.service.specs.Space.{sum_below, dirty_among, is_counted}

-- a client without embargo; in a recovery, one that has reported
abbrev pub known_held : Bool → List Bool → ℕ → Bool
known_held recovering flags i =
    not (get_or flags (max_clients + 1 + i) false) && (not recovering || get_or flags i false)

-- a write of the block takes a place
abbrev pub takes_held : ℕ → ℕ → ℕ → ℕ → List Bool → List Bool → Bool
takes_held n i f b flags dirty =
    let used = get_or (used_held flags) (place f b) false in
    not (used || (not used && dirty_among n (known_held false flags) dirty f b) || get_or dirty (cell i f b) false)

-- a block is counted
abbrev pub counted_held : ℕ → List Bool → List Bool → ℕ → ℕ → Bool
counted_held n flags dirty f b = is_counted n (known_held (recovering_held flags) flags) (used_held flags) dirty f b

-- how many blocks of file f are used
abbrev pub used_on : Sizes → List Bool → ℕ → ℕ
used_on z used f = count z.blocks (λ b. get_or used (place f b) false)

-- a block is dirty at client i, and not counted; how many there are
abbrev pub is_anew : ℕ → ℕ → List Bool → List Bool → ℕ → ℕ → Bool
is_anew n i flags dirty f b = get_or dirty (cell i f b) false && not (counted_held n flags dirty f b)

abbrev pub anew_on : Sizes → ℕ → List Bool → List Bool → ℕ → ℕ
anew_on z i flags dirty f = count z.blocks (is_anew z.clients i flags dirty f)

abbrev pub anew_in : Sizes → ℕ → List Bool → List Bool → ℕ
anew_in z i flags dirty = sum_below z.files (anew_on z i flags dirty)

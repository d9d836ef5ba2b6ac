-- Places are wrapped into the arrays; where the numbers are there, a wrapped place is the place. Assumes nothing.
use Prim.Native.Nat.{ℕ, ◌%◌, ◌<◌}
use mathlib.Core.Path.{◌≡◌}
use native.Mathlib.Nat.{mod-eq_of_lt}
use Rattle.sizes.specs.Sizes.{max_clients, max_files, max_blocks, first_place, place, first_cell, cell}

pub wrapped_cell :
    (i f : ℕ) → i < max_clients → f < max_files → first_cell (i % max_clients) (f % max_files) ≡ first_cell i f
wrapped_cell i f hi hf = rw (mod-eq_of_lt hi, mod-eq_of_lt hf)

pub wrapped :
    (i f b : ℕ)
    → i < max_clients
    → f < max_files
    → b < max_blocks
    → cell (i % max_clients) (f % max_files) (b % max_blocks) ≡ cell i f b
wrapped i f b hi hf hb = rw (mod-eq_of_lt hi, mod-eq_of_lt hf, mod-eq_of_lt hb)

pub wrapped_block :
    (f b : ℕ) → f < max_files → b < max_blocks → place (f % max_files) (b % max_blocks) ≡ place f b
wrapped_block f b hf hb = rw (mod-eq_of_lt hf, mod-eq_of_lt hb)

pub wrapped_place : (f : ℕ) → f < max_files → first_place (f % max_files) ≡ first_place f
wrapped_place f hf = rw (mod-eq_of_lt hf)

-- The sizes of the service, named once. A station is called a client.
use Rattle.std.specs.Prelude.{ℕ, ◌+◌, ◌*◌, ◌≤◌, ◌<◌, Bool, cond, ◌&&◌, leb}
use Rattle.sizes.specs.declared.sizes.Sizes.{Sizes}

-- "Stations 1 to 8, files 1 to 64 and blocks 1 to 8" (document 02, Wish 7): the largest sizes, which the arrays have
abbrev pub max_clients : ℕ
max_clients = 8

abbrev pub max_files : ℕ
max_files = 64

abbrev pub max_blocks : ℕ
max_blocks = 8

-- how many blocks and copies there are room for
abbrev pub max_places : ℕ
max_places = max_files * max_blocks

abbrev pub max_cells : ℕ
max_cells = max_files * max_clients * max_blocks

-- "without it 8, 32 and 4 hold"; "The store has a size of 0 to 512 blocks, a fourth setting, 512 if not given" (Wish 13)
abbrev pub default_sizes : Sizes
default_sizes = record { clients = 8; files = 32; blocks = 4; store = max_places }

-- a size lies inside its range
abbrev pub is_permitted : ℕ → ℕ → Bool
is_permitted most size = leb 1 size && leb size most

abbrev pub are_permitted : Sizes → Bool
are_permitted z =
    is_permitted max_clients z.clients
    && (is_permitted max_files z.files && (is_permitted max_blocks z.blocks && leb z.store max_places))

-- a number, or the most that it may be
abbrev pub at_most : ℕ → ℕ → ℕ
at_most most n = cond (leb n most) n most

-- The sizes that hold: "hand-made ones out of range: each as not given".
abbrev pub in_force : Sizes → Sizes
in_force z =
    record {
      clients = cond (is_permitted max_clients z.clients) z.clients default_sizes.clients;
      files = cond (is_permitted max_files z.files) z.files default_sizes.files;
      blocks = cond (is_permitted max_blocks z.blocks) z.blocks default_sizes.blocks;
      store = at_most default_sizes.store z.store;
    }

-- each size lies inside its range, as those in force do
pub record Permitted (z : Sizes) : Type 0 where
  pub clients : z.clients ≤ max_clients
  pub files : z.files ≤ max_files
  pub blocks : z.blocks ≤ max_blocks
  pub store : z.store ≤ max_places
  pub some_client : 0 < z.clients
  pub some_file : 0 < z.files
  pub some_block : 0 < z.blocks

-- where the blocks of file f begin among the server's blocks, and where its block b stands
abbrev pub first_place : ℕ → ℕ
first_place f = f * max_blocks

abbrev pub place : ℕ → ℕ → ℕ
place f b = first_place f + b

-- where client i's copies of file f begin among the copies, and where that of block b stands; all that belongs to one
-- file stands together
abbrev pub first_cell : ℕ → ℕ → ℕ
first_cell i f = (f * max_clients + i) * max_blocks

abbrev pub cell : ℕ → ℕ → ℕ → ℕ
cell i f b = first_cell i f + b

-- "a station field of 8 or more reads as none": what stands for none
abbrev pub nobody : ℕ
nobody = 255

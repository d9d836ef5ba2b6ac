-- Services that agree on one file, or on all others. Derived: it only helps to follow the proof.
use Rattle.std.specs.Prelude.{ℕ, ◌+◌, ◌*◌, ◌≡◌, Bool, true, false, not, ◌&&◌, List, eqb, leb, ltb, length, get_or}
use Rattle.sizes.specs.Sizes.{first_place, first_cell, max_clients, max_blocks}
use Rattle.blocks.specs.declared.stores.Stores.{Stores}
use Rattle.service.specs.declared.service.Service.{Service}
use Rattle.table.specs.TableStep.{no_entry, no_sides}
use Rattle.service.specs.Contents.{table_in, stores_of}

-- two lists of one length that agree where R holds
pub record AgreeOn {A : Type 0} (R : ℕ → Bool) (d : A) (l m : List A) : Type 0 where
  pub long : length l ≡ length m
  pub same : (k : ℕ) → R k ≡ true → get_or l k d ≡ get_or m k d

-- where the blocks of file f stand, and the copies of them
abbrev pub blocks_of : ℕ → ℕ → Bool
blocks_of f k = leb (first_place f) k && ltb k (first_place f + max_blocks)

abbrev pub copies_of : ℕ → ℕ → Bool
copies_of f k = leb (first_cell 0 f) k && ltb k (first_cell 0 f + max_clients * max_blocks)

-- stores that agree where P holds of the places and Q of the cells
pub record StoresAgree (P Q : ℕ → Bool) (a b : Stores) : Type 0 where
  pub blocks : AgreeOn P 0 a.blocks b.blocks
  pub copies : AgreeOn Q 0 a.copies b.copies
  pub held : AgreeOn Q false a.held b.held
  pub dirty : AgreeOn Q false a.dirty b.dirty

-- on file f, and on all others
abbrev pub StoresOn : ℕ → Stores → Stores → Type 0
StoresOn f a b = StoresAgree (blocks_of f) (copies_of f) a b

abbrev pub StoresOff : ℕ → Stores → Stores → Type 0
StoresOff f a b = StoresAgree (λ k. not (blocks_of f k)) (λ k. not (copies_of f k)) a b

-- services that agree on their sizes, on what the server has of the clients, on the free places, and on the files,
-- places and cells where R, P and Q hold
pub record Agrees (R P Q : ℕ → Bool) (s t : Service) : Type 0 where
  pub sizes : s.sizes ≡ t.sizes
  pub recovering : (table_in s).recovering ≡ (table_in t).recovering
  pub reported : (table_in s).reported ≡ (table_in t).reported
  pub embargoed : (table_in s).embargoed ≡ (table_in t).embargoed
  pub files : AgreeOn R no_entry (table_in s).files (table_in t).files
  pub clients : AgreeOn R no_sides s.clients t.clients
  pub stores : StoresAgree P Q (stores_of s) (stores_of t)
  pub used : AgreeOn P false s.server.used t.server.used
  pub free : s.server.free ≡ t.server.free

-- on file f, and on all others
abbrev pub On : ℕ → Service → Service → Type 0
On f s t = Agrees (λ k. eqb k f) (blocks_of f) (copies_of f) s t

abbrev pub Off : ℕ → Service → Service → Type 0
Off f s t = Agrees (λ k. not (eqb k f)) (λ k. not (blocks_of f k)) (λ k. not (copies_of f k)) s t

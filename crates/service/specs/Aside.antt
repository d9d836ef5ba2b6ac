-- What an embargo is worth (document 02, Wish 9), over whole lists of steps: the server has nothing of a client under
-- embargo, nobody else sees what it does, and once it is told its reads are under Demand 3 again.
use Rattle.std.specs.Prelude.{ℕ, ◌<◌, ◌≡◌, true, false, List, ◌⊎◌, eqb}
use Rattle.records.specs.Record.{not_open}
use Rattle.sizes.specs.declared.sizes.Sizes.{Sizes}
use Rattle.protocol.specs.declared.entry.Entry.{Entry}
use Rattle.protocol.specs.declared.step.Step.{Step}
use Rattle.protocol.specs.declared.step.Step.TheVariants.{Read, Write, Restart, Lift}
use Rattle.protocol.specs.Entry.{record_at, call_to}
use Rattle.service.specs.declared.service.Service.{Service}
use Rattle.service.specs.Contents.{sizes_of, table_in, entry_at, reported_at, embargoed_at, copy_at, held_at, dirty_at}
use Rattle.service.specs.Fresh.{fresh}
use Rattle.service.specs.Demand3.{refused, after, Memory, remembered, promises_nothing}
use Rattle.service.specs.NothingBehind.{after_steps}

-- ---- "The server forgets it"

-- of client i an entry has no record, it is not last writer, no open of it waits, and it is not called
pub record Unknown (n : ℕ) (e : Entry) (i : ℕ) : Type 0 where
  pub no_record : record_at e i ≡ not_open
  pub not_last : eqb e.last i ≡ false
  pub not_waiting : eqb e.waiter i ≡ false
  pub not_called : call_to n e i ≡ 0

-- so with every client under embargo, in every file; none of them has reported, and while the server runs nobody has
pub record Forgotten (s : Service) : Type 0 where
  pub unknown :
      (i f : ℕ)
      → i < (sizes_of s).clients
      → f < (sizes_of s).files
      → embargoed_at s i ≡ true
      → Unknown (sizes_of s).clients (entry_at s f) i
  pub unreported : (i : ℕ) → i < (sizes_of s).clients → embargoed_at s i ≡ true → reported_at s i ≡ false
  pub quiet : (table_in s).recovering ≡ false → (i : ℕ) → i < (sizes_of s).clients → reported_at s i ≡ false

-- ---- "the station doesn't know"

-- an accepted read or write of a client under embargo changes nothing but that client's own copies
pub record Alone (s s' : Service) (i : ℕ) : Type 0 where
  pub server : s'.server ≡ s.server
  pub sides : s'.clients ≡ s.clients
  pub copies :
      (j f b : ℕ)
      → j < (sizes_of s).clients
      → b < (sizes_of s).blocks
      → eqb j i ≡ false
      → (copy_at s' j f b ≡ copy_at s j f b) × (held_at s' j f b ≡ held_at s j f b) × (dirty_at s' j f b ≡ dirty_at s j f b)

-- and the reference memory, which everybody else reads, has none of its writes
abbrev pub Unseen : Service → Step → Type 0
Unseen s x =
    (i f b v : ℕ)
    → (x ≡ Read i f b) ⊎ (x ≡ Write i f b v)
    → embargoed_at s i ≡ true
    → refused s x ≡ false
    → Alone s (after s x) i × ((m : Memory) → remembered s m x ≡ m)

-- ---- "Until it is told"

abbrev pub Told : Service → Step → Type 0
Told s x =
    (i : ℕ) → (x ≡ Lift i) ⊎ (x ≡ Restart i) → refused s x ≡ false → promises_nothing (after s x) i ≡ false

-- ---- over whole lists

pub record SetsAside (s : Service) : Type 0 where
  pub forgotten : (steps : List Step) → Forgotten (after_steps s steps)
  pub unseen : (steps : List Step) (x : Step) → Unseen (after_steps s steps) x
  pub told : (steps : List Step) (x : Step) → Told (after_steps s steps) x

-- from the fresh service of any sizes
abbrev pub Embargoes : Type 0
Embargoes = (z : Sizes) → SetsAside (fresh z)

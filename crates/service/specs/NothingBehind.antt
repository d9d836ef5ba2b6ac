-- Nothing is left behind (document 02, Wish 4), over whole lists of steps: "a station is last writer only while it
-- has a dirty block of that file and no writers".
use Rattle.std.specs.Prelude.{ℕ, ◌<◌, ◌≡◌, true, false, List, [], ◌∷◌, ◌⊎◌}
use Rattle.protocol.specs.declared.step.Step.{Step}
use Rattle.sizes.specs.declared.sizes.Sizes.{Sizes}
use Rattle.blocks.specs.Stores.{any_dirty}
use Rattle.service.specs.declared.service.Service.{Service}
use Rattle.service.specs.Contents.{sizes_of, entry_at, embargoed_at, client_at, stores_of}
use Rattle.service.specs.Fresh.{fresh}
use Rattle.service.specs.Demand3.{after}

-- client i has something of file f to write back, and does not write it any more
pub record Owes (s : Service) (i f : ℕ) : Type 0 where
  pub dirty : any_dirty (sizes_of s).blocks i f (stores_of s) ≡ true
  pub no_writers : (client_at s i f).opens.writers ≡ 0

-- so does every client that is last writer, or has its flag set and is not under embargo
abbrev pub NothingBehind : Service → Type 0
NothingBehind s =
    (i f : ℕ)
    → i < (sizes_of s).clients
    → f < (sizes_of s).files
    → ((entry_at s f).last ≡ i) ⊎ ((embargoed_at s i ≡ false) × ((client_at s i f).marked ≡ true))
    → Owes s i f

-- the service after a list of steps
abbrev pub after_steps : Service → List Step → Service
after_steps s [] = s
after_steps s (x ∷ xs) = after_steps (after s x) xs

-- after every list of steps, from the service s on
pub record LeavesNothing (s : Service) : Type 0 where
  pub always : (steps : List Step) → NothingBehind (after_steps s steps)

-- from the fresh service of any sizes
abbrev pub NothingLeft : Type 0
NothingLeft = (z : Sizes) → LeavesNothing (fresh z)

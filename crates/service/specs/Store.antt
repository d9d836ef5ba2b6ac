-- Space that can't run out later (document 02, Wish 13), over whole lists of steps.
use Rattle.std.specs.Prelude.{ℕ, ◌+◌, ◌<◌, ◌≡◌, true, false, List}
use Rattle.sizes.specs.declared.sizes.Sizes.{Sizes}
use Rattle.protocol.specs.declared.reply.Reply.TheVariants.{Refused}
use Rattle.protocol.specs.declared.step.Step.{Step}
use Rattle.service.specs.declared.service.Service.{Service}
use Rattle.service.specs.Contents.{sizes_of, table_in, block_at, used_at, free_of}
use Rattle.service.specs.Space.{reserved_in, is_within, is_known, takes_place, used_blocks}
use Rattle.service.specs.Step.{step_of}
use Rattle.service.specs.Fresh.{fresh}
use Rattle.service.specs.NothingBehind.{after_steps}

-- how many blocks are reserved, and how many by clients that the server knows of
abbrev pub reserved_blocks : Service → ℕ
reserved_blocks s = reserved_in (sizes_of s) (is_within s) s.server.used s.dirty

abbrev pub known_blocks : Service → ℕ
known_blocks s = reserved_in (sizes_of s) (is_known s) s.server.used s.dirty

-- "free, used and reserved make the size after every step outside recovery"; in a recovery, "reports take their
-- reservations again". A block that is not used is zero.
pub record Accounted (s : Service) : Type 0 where
  pub running : (table_in s).recovering ≡ false → free_of s + (used_blocks s + reserved_blocks s) ≡ (sizes_of s).store
  pub known : free_of s + (used_blocks s + known_blocks s) ≡ (sizes_of s).store
  pub unused : (f b : ℕ) → f < (sizes_of s).files → b < (sizes_of s).blocks → used_at s f b ≡ false → block_at s f b ≡ 0

-- "23 when such a write finds nothing free, and only then": so no flush, no answer and no write to a reserved block does
abbrev pub Crowded : Service → Step → Type 0
Crowded s x = (step_of s x).reply ≡ Refused 23 → (takes_place s x ≡ true) × (free_of s ≡ 0)

pub record StoreHolds (s : Service) : Type 0 where
  pub accounted : (steps : List Step) → Accounted (after_steps s steps)
  pub crowded : (steps : List Step) (x : Step) → Crowded (after_steps s steps) x

-- from the fresh service of any sizes
abbrev pub SpaceKept : Type 0
SpaceKept = (z : Sizes) → StoreHolds (fresh z)

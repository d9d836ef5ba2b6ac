-- Reports that can't both be true (document 02, Wish 10): stations that follow the rules never make one, and no recovery
-- accepts two.
use Rattle.std.specs.Prelude.{ℕ, ◌<◌, ◌≡◌, true, List, [], ◌∷◌}
use Rattle.sizes.specs.declared.sizes.Sizes.{Sizes}
use Rattle.protocol.specs.declared.reply.Reply.TheVariants.{Refused}
use Rattle.protocol.specs.declared.step.Step.{Step}
use Rattle.protocol.specs.Clash.{Agree}
use Rattle.service.specs.declared.service.Service.{Service}
use Rattle.service.specs.Contents.{sizes_of, table_in, entry_at, reported_at}
use Rattle.service.specs.Step.{step_of}
use Rattle.service.specs.Demand3.{after}
use Rattle.service.specs.Fresh.{fresh}
use Rattle.service.specs.NothingBehind.{after_steps}

-- ---- "Reports of stations that follow the rules always pass"

abbrev pub Passes : Service → Step → Type 0
Passes s x = (step_of s x).reply ≡ Refused 22 → ⊥

-- no step of any list is refused with 22
pub record ReportsPass (s : Service) : Type 0 where
  pub passes : (steps : List Step) (x : Step) → Passes (after_steps s steps) x

-- from the fresh service of any sizes
abbrev pub RulesKept : Type 0
RulesKept = (z : Sizes) → ReportsPass (fresh z)

-- ---- "Recovery shall test that, with those already accepted, no file has" one of the four

-- on every file of the table
abbrev pub AcceptedAgree : Service → Type 0
AcceptedAgree s = (f : ℕ) → f < (sizes_of s).files → Agree (sizes_of s).clients (reported_at s) (entry_at s f)

-- now, and after every step as long as the recovery lasts
abbrev pub AgreeAlong : Service → List Step → Type 0
AgreeAlong s [] = AcceptedAgree s
AgreeAlong s (x ∷ xs) = AcceptedAgree s × ((table_in (after s x)).recovering ≡ true → AgreeAlong (after s x) xs)

-- whatever comes
pub record RecoveryAgrees (s : Service) : Type 0 where
  pub always : (steps : List Step) → AgreeAlong s steps

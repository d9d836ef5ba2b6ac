-- The whole run of the explainer: from the fresh service or a given one on, what the program writes until the session is
-- done is the explained file of what it read, however the input was cut into pieces, and whether its last line has its LF
-- or not; and the arrays then hold the state after all lines. Assumes nothing.
use Prim.Native.Nat.{ℕ}
use mathlib.Core.Path.{◌≡◌, ap}
use mathlib.Core.Bool.{Bool, true}
use mathlib.Core.List.{List}
use Rattle.sizes.specs.Sizes.{default_sizes}
use Rattle.blocks.specs.declared.stores.Stores.{Stores}
use Rattle.service.specs.declared.service.Service.{Service}
use Rattle.service.specs.Fresh.{fresh as fresh_service}
use Rattle.service.specs.Lent.{service_held}
use Rattle.ledger.specs.Ledger.{empty_ledger}
use Rattle.ledger.specs.Refusals.{no_refusals}
use Rattle.ledger.specs.Annotated.{unannotated}
use Rattle.telling.specs.Lines.{state_after}
use Rattle.telling.specs.Session.{standing_at}
use Rattle.telling.specs.Run.{Leg, input}
use Rattle.telling.proofs.WholeRun.{run-tells, run-comes}
use Rattle.explaining.specs.Lines.{explaining}
use Rattle.playing.specs.Session.{fresh_session, resumed_session}
use Rattle.explaining.specs.Session.{standing}
use Rattle.explaining.specs.Run.{Follows, output, at_end, explained_from, explained_file}
use Rattle.explaining.proofs.Blindness.{explained_blind}

-- from a start
module _
    (fresh : Bool) (s : Service) (buffer : List ℕ) (gs : List Leg)
    (w : Follows fresh s buffer gs) (ended : (at_end fresh s gs).done ≡ true) where
  pub run_explains : output fresh s gs ≡ explained_from fresh s (input gs)
  run_explains = run-tells (explaining fresh) (explained_blind fresh) (unannotated s) buffer gs w ended

  -- the state that stands then is the one after all lines
  pub run_ends : (at_end fresh s gs).state ≡ state_after (explaining fresh) (unannotated s) 1 (input gs)
  run_ends = run-comes (explaining fresh) (explained_blind fresh) (unannotated s) buffer gs w ended

pub whole_run : (buffer : List ℕ) (gs : List Leg)
    → Follows true (fresh_service default_sizes) buffer gs
    → (at_end true (fresh_service default_sizes) gs).done ≡ true
    → output true (fresh_service default_sizes) gs ≡ explained_file (input gs)
unfolding explained_file
whole_run buffer gs w ended = run_explains true (fresh_service default_sizes) buffer gs w ended

-- both starts: what the arrays hold is what stands at the start of the run
module _ (t : List ℕ) (flags : List Bool) (a : Stores) where
  pub starts_fresh : service_held default_sizes t flags a ≡ fresh_service default_sizes
      → standing fresh_session t flags a empty_ledger no_refusals ≡ standing_at (unannotated (fresh_service default_sizes))
  starts_fresh e = ap (λ (s : Service). standing_at (unannotated s)) e

  pub starts_resumed : (s : Service) → service_held s.sizes t flags a ≡ s
      → standing (resumed_session s.sizes) t flags a empty_ledger no_refusals ≡ standing_at (unannotated s)
  starts_resumed s e = ap (λ (k : Service). standing_at (unannotated k)) e

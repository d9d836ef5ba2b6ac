-- The whole run of the player: from the fresh service or a given one on, what the program writes until the session is
-- done is the played file of what it read, however the input was cut into pieces, and whether its last line has its LF or
-- not; and the arrays then hold the service after all lines. Assumes nothing.
use Prim.Native.Nat.{ℕ}
use mathlib.Core.Path.{◌≡◌, ap}
use mathlib.Core.Bool.{Bool, true}
use mathlib.Core.List.{List}
use Rattle.sizes.specs.Sizes.{default_sizes}
use Rattle.blocks.specs.declared.stores.Stores.{Stores}
use Rattle.service.specs.declared.service.Service.{Service}
use Rattle.service.specs.Fresh.{fresh}
use Rattle.service.specs.Lent.{service_held}
use Rattle.stepfile.specs.Played.{end_of, played_from, played}
use Rattle.stepfile.proofs.LongLines.{reply_blind}
use Rattle.telling.specs.Session.{standing_at}
use Rattle.telling.specs.Run.{Leg, input}
use Rattle.telling.proofs.WholeRun.{run-tells, run-comes}
use Rattle.playing.specs.Lines.{playing}
use Rattle.playing.specs.Session.{fresh_session, resumed_session, standing}
use Rattle.playing.specs.Run.{Follows, output, at_end}

-- from a start
module _
    (settable : Bool) (s : Service) (buffer : List ℕ) (gs : List Leg)
    (w : Follows settable s buffer gs) (ended : (at_end settable s gs).done ≡ true) where
  pub run_plays : output settable s gs ≡ played_from settable s (input gs)
  run_plays = run-tells (playing settable) (reply_blind settable) s buffer gs w ended

  -- the service that stands then is the one after all lines
  pub run_ends : (at_end settable s gs).state ≡ end_of settable s (input gs)
  run_ends = run-comes (playing settable) (reply_blind settable) s buffer gs w ended

pub whole_run : (buffer : List ℕ) (gs : List Leg)
    → Follows true (fresh default_sizes) buffer gs
    → (at_end true (fresh default_sizes) gs).done ≡ true
    → output true (fresh default_sizes) gs ≡ played (input gs)
unfolding played
whole_run buffer gs w ended = run_plays true (fresh default_sizes) buffer gs w ended

-- both starts: what the arrays hold is what stands at the start of the run
module _ (t : List ℕ) (flags : List Bool) (a : Stores) where
  pub starts_fresh : service_held default_sizes t flags a ≡ fresh default_sizes
      → standing fresh_session t flags a ≡ standing_at (fresh default_sizes)
  starts_fresh e = ap standing_at e

  pub starts_resumed : (s : Service) → service_held s.sizes t flags a ≡ s
      → standing (resumed_session s.sizes) t flags a ≡ standing_at s
  starts_resumed s e = ap standing_at e

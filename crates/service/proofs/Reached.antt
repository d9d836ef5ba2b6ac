-- What holds of every service that steps lead to from a fresh one, as a proof about lists of other events needs it.
-- Assumes nothing.
use Prim.Native.Nat.{ℕ, ◌≤◌, ◌<◌}
use mathlib.Core.Path.{◌≡◌}
use mathlib.Core.Bool.{false}
use native.Mathlib.Omega.{arith}
use lib.Dec.{eqb}
use Rattle.records.specs.Version.{number_of}
use Rattle.sizes.specs.declared.sizes.Sizes.{Sizes}
use Rattle.sizes.specs.Sizes.{nobody, in_force}
use Rattle.sizes.proofs.InForce.{in_force_permitted}
use Rattle.protocol.specs.declared.step.Step.{Step}
use Rattle.protocol.proofs.Invariant.{Running, Recovering}
use Rattle.protocol.proofs.Promises.{Promises}
use Rattle.protocol.proofs.Kept.{promises}
use Rattle.service.specs.declared.service.Service.{Service}
use Rattle.service.specs.Contents.{entry_at}
use Rattle.service.specs.Fresh.{fresh}
use Rattle.service.specs.Demand3.{refused, after, Memory, blank, remembered, Recovery, none, since, recovery_after}
use Rattle.service.specs.Demand3.{ReadIsLatest, EndRestores}
use Rattle.service.specs.NothingBehind.{NothingBehind}
use Rattle.service.proofs.Views.{Sized}
use Rattle.service.proofs.Invariant.{Sound}
use Rattle.service.proofs.Owing.{Owed}
use Rattle.service.proofs.NothingBehind.{nothing_behind_lem, after_owed}
use Rattle.service.proofs.Consistent.{sized, after_kept, read_latest, end_restores, fresh_sound}

module _ (z : Sizes) where
  -- the invariant, with the reference memory and the recovery under way
  abbrev pub Reached : Service → Memory → Recovery → Type 0
  Reached = Sound (in_force z) (Running (in_force z).clients) (Recovering (in_force z).clients)

  pub kept_promises : Promises (in_force z).clients (Running (in_force z).clients) (Recovering (in_force z).clients)
  kept_promises =
      let most = (in_force_permitted z).clients in
      let bound : (in_force z).clients ≤ nobody = omega arith in
      promises (in_force z).clients bound

  pub reached_fresh : Reached (fresh z) blank none
  reached_fresh = fresh_sound z (Running (in_force z).clients) (Recovering (in_force z).clients) kept_promises

  module _ (s : Service) (m : Memory) (r : Recovery) (h : Reached s m r) where
    pub reached-after :
        (x : Step) → Reached (after s x) (remembered s m x) (recovery_after s r x (refused s x))
    reached-after x =
        after_kept (in_force_permitted z) (Running (in_force z).clients) (Recovering (in_force z).clients) kept_promises
        s m r x h

    pub promised-at : (x : Step) → ReadIsLatest s m x × EndRestores s r x
    promised-at x =
        let most = in_force_permitted z in
        let running = Running (in_force z).clients in
        let recovering = Recovering (in_force z).clients in (
          read_latest most running recovering kept_promises s m r x h,
          end_restores most running recovering kept_promises s m r x h,
        )

    pub reached-sized : Sized (in_force z) s
    reached-sized =
        sized (in_force_permitted z) (Running (in_force z).clients) (Recovering (in_force z).clients) kept_promises
        s m r h

  pub version_not_zero_lem :
      (s : Service) (m : Memory) (r : Recovery)
      → Reached s m r
      → (f : ℕ)
      → f < (in_force z).files
      → eqb (number_of (entry_at s f).version) 0 ≡ false
  version_not_zero_lem s m none h f hf =
      (h.stands.views f 0 hf (in_force_permitted z).some_block).sound.clients.version_not_zero
  version_not_zero_lem s m (since t) h f hf =
      (h.stands.views f 0 hf (in_force_permitted z).some_block).sound.clients.version_not_zero

-- what every client that is last writer, or marked, has to write back
module _ (z : Sizes) (s : Service) (m : Memory) (r : Recovery) (h : Reached z s m r) (owed : Owed (in_force z) s) where
  pub owed_after : (x : Step) → Owed (in_force z) (after s x)
  owed_after x =
      after_owed (in_force_permitted z) (Running (in_force z).clients) (Recovering (in_force z).clients) (kept_promises z) s m r x h owed

  pub behind_at : NothingBehind s
  behind_at =
      nothing_behind_lem (in_force_permitted z) (Running (in_force z).clients) (Recovering (in_force z).clients) (kept_promises z) s m r h owed

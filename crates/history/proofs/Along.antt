-- What holds of the service and its past all along a history, and what is promised follows from it. Assumes nothing.
use Prim.Native.Nat.{ℕ, ◌<◌}
use mathlib.Core.List.{List, [], ◌∷◌}
use Rattle.sizes.specs.declared.sizes.Sizes.{Sizes}
use Rattle.sizes.specs.Sizes.{in_force}
use Rattle.sizes.proofs.InForce.{in_force_permitted}
use Rattle.protocol.specs.declared.step.Step.{Step}
use Rattle.service.specs.declared.service.Service.{Service}
use Rattle.service.specs.Demand3.{after}
use Rattle.service.specs.Fresh.{fresh}
use Rattle.service.specs.NothingBehind.{after_steps}
use Rattle.service.proofs.Owing.{Owed}
use Rattle.service.proofs.NothingBehind.{fresh_owed}
use Rattle.service.proofs.Reached.{Reached, reached_fresh, reached-after, promised-at, owed_after, behind_at}
use Rattle.service.proofs.NeverClash.{passes_at}
use Rattle.service.proofs.SetAside.{unseen, is_told}
use Rattle.service.proofs.Crowding.{crowded}
use Rattle.service.proofs.SpaceKept.{after_kept, fresh_kept, kept_accounted}
use Rattle.ledger.proofs.AllBooked.{all_booked}
use Rattle.ledger.proofs.Provenance.{Agrees, agrees_after, line_told, fresh_agrees}
use Rattle.history.specs.Past.{Past, no_past, past_after, past_all}
use Rattle.history.specs.Promises.{Kept}

module _ (z : Sizes) where
  pub record Sound (s : Service) (p : Past) : Type 0 where
    pub reached : Reached z s p.memory p.recovery
    pub owed : Owed (in_force z) s
    pub stored : Rattle.service.proofs.StoreKept.Kept s
    pub agrees : Agrees (in_force z) s p.memory p.ledger p.steps

  pub sound_fresh : Sound (fresh z) no_past
  sound_fresh =
      record { reached = reached_fresh z; owed = fresh_owed z; stored = fresh_kept z; agrees = fresh_agrees z }

  -- the promises hold wherever a history has come
  pub kept : (s : Service) (p : Past) → Sound s p → Kept s p
  kept s p h =
      record {
        steps = λ x.
            let (read, end) = promised-at z s p.memory p.recovery h.reached x in
            record {
              read = read;
              end = end;
              unseen = unseen s x;
              lifted = is_told s x;
              passes = passes_at z s p.memory p.recovery h.reached x;
              crowded = crowded s x;
              told = line_told (in_force_permitted z) s p.memory p.ledger p.steps x
                  (all_booked z s p.memory p.recovery h.reached) h.agrees read;
            };
        nothing_behind = behind_at z s p.memory p.recovery h.reached h.owed;
        forgotten = h.reached.forgotten;
        accounted = kept_accounted s h.stored;
      }

  -- a step, and steps one after the other, on line n
  module _ (n : ℕ) (some : 0 < n) where
    pub step-sound : (s : Service) (p : Past) (x : Step) → Sound s p → Sound (after s x) (past_after n s x p)
    step-sound s p x h =
        record {
          reached = reached-after z s p.memory p.recovery h.reached x;
          owed = owed_after z s p.memory p.recovery h.reached h.owed x;
          stored = after_kept s x h.stored;
          agrees =
              agrees_after (in_force_permitted z) s p.memory p.ledger p.steps n x some
              (all_booked z s p.memory p.recovery h.reached) h.agrees;
        }

    pub steps-sound : (xs : List Step) (s : Service) (p : Past) → Sound s p → Sound (after_steps s xs) (past_all n s xs p)
    steps-sound [] s p h = h
    steps-sound (x ∷ xs) s p h = steps-sound xs (after s x) (past_after n s x p) (step-sound s p x h)

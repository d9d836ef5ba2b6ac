-- A batch is its opens, which leave the reference memory and the recovery as they are. Assumes nothing.
use Prim.Native.Nat.{ℕ}
use mathlib.Core.Path.{ap, subst}
use mathlib.Core.List.{List, [], ◌∷◌, ◌++◌}
use Rattle.protocol.specs.declared.step.Step.{Step}
use Rattle.service.specs.declared.service.Service.{Service}
use Rattle.service.specs.Demand3.{Memory, Recovery, Holds}
use Rattle.service.proofs.Tests.{split}
use Rattle.batch.specs.declared.batch.BatchOutcome.{BatchOutcome}
use Rattle.batch.specs.Batch.{Opening, opens_of, list_too_long, batch_of}
use Rattle.service.specs.NothingBehind.{after_steps}
use Rattle.batch.specs.Demand3.{GoesOn}
use Rattle.batch.proofs.Trying.{too_long, not_too_long}

-- every list of steps from here on
abbrev All : Service → Memory → Recovery → Type 0
All s m r = (steps : List Step) → Holds s m r steps

past_opens :
    (i : ℕ) (l : List Opening) (s : Service) (m : Memory) (r : Recovery) (xs : List Step)
    → Holds s m r (opens_of i l ++ xs)
    → Holds (after_steps s (opens_of i l)) m r xs
past_opens i [] s m r xs h = h
past_opens i (x ∷ l) s m r xs h = past_opens i l _ m r xs h.2

-- a batch is its opens, or nothing
past_batch :
    (i : ℕ) (l : List Opening) (s : Service) (m : Memory) (r : Recovery)
    → All s m r
    → All (batch_of s i l).service m r
past_batch i l s m r all xs =
    split (list_too_long l).0
    (λ e. subst (λ (t : Service). Holds t m r xs) (ap (λ (o : BatchOutcome). o.service) (too_long s i l e)) (all xs))
    (λ e.
    subst (λ (t : Service). Holds t m r xs) (ap (λ (o : BatchOutcome). o.service) (not_too_long s i l e))
    (past_opens i l s m r xs (all (opens_of i l ++ xs))))

pub goes_on : (s : Service) (i : ℕ) (l : List Opening) → GoesOn s (batch_of s i l).service
goes_on s i l = record { always = λ m r all. past_batch i l s m r all }

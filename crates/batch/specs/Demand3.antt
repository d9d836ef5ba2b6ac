-- A batch anywhere in a history: every list of steps that holds before it holds after it. Crate history promises Demand 3
-- with batches in the list.
use Rattle.std.specs.Prelude.{List}
use Rattle.protocol.specs.declared.step.Step.{Step}
use Rattle.service.specs.declared.service.Service.{Service}
use Rattle.service.specs.Demand3.{Memory, Recovery, Holds}

-- What a batch promises of the service t that it hands back for s: if every list of steps from s holds, with the
-- reference memory and the recovery as they stand, then so does every list from t. A batch has no read, write, crash or
-- end: "Every other step, and every refused one, leaves the book as it is."
pub record GoesOn (s t : Service) : Type 0 where
  pub always :
      (m : Memory) (r : Recovery)
      → ((steps : List Step) → Holds s m r steps)
      → (steps : List Step) → Holds t m r steps

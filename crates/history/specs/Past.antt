-- What is told of the past of a service: the reference memory, the recovery under way, the ledger, and the steps.
use Rattle.std.specs.Prelude.{ℕ, List, [], ◌∷◌}
use Rattle.protocol.specs.declared.step.Step.{Step}
use Rattle.service.specs.declared.service.Service.{Service}
use Rattle.service.specs.Demand3.{refused, after, Memory, blank, remembered, Recovery, none, recovery_after}
use Rattle.ledger.specs.declared.ledger.Ledger.{Ledger}
use Rattle.ledger.specs.Ledger.{empty_ledger, ledger_after}
use Rattle.ledger.specs.Provenance.{Event}

pub record Past : Type 0 where
  pub memory : Memory
  pub recovery : Recovery
  pub ledger : Ledger
  -- the latest first
  pub steps : List Event

abbrev pub no_past : Past
no_past = record { memory = blank; recovery = none; ledger = empty_ledger; steps = [] }

-- line n gave the step x to the service s
abbrev pub past_after : ℕ → Service → Step → Past → Past
past_after n s x p =
    record {
      memory = remembered s p.memory x;
      recovery = recovery_after s p.recovery x (refused s x);
      ledger = ledger_after n s x p.ledger;
      steps = record { line = n; step = x; before = s } ∷ p.steps;
    }

abbrev pub past_all : ℕ → Service → List Step → Past → Past
past_all n s [] p = p
past_all n s (x ∷ xs) p = past_all n (after s x) xs (past_after n s x p)

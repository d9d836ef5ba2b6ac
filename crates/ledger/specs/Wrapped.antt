-- A step with its numbers wrapped into the arrays. Derived: `noted_wrapped` (proofs/Wrapping.antt) shows that
-- wrapping makes no difference to the ledger after a step of the service.
use Rattle.std.specs.Prelude.{◌%◌}
use Rattle.sizes.specs.Sizes.{max_clients, max_files, max_blocks}
use Rattle.protocol.specs.declared.step.Step.{Step}
use Rattle.protocol.specs.Step.{renamed}

abbrev pub wrapped_step : Step → Step
wrapped_step x = renamed (λ i. i % max_clients) (λ f. f % max_files) (λ b. b % max_blocks) x

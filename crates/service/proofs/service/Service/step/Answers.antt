-- `step` meets its contract: what is held at the end, and what was said, is the step's outcome on the service that was
-- held. Assumes nothing.
use mathlib.Core.Path.{ap, ◌∙◌}
use Rattle.service.specs.declared.service.Service.{Service}
use Rattle.service.specs.Step.{step_of}
use Rattle.service.proofs.Speaking.{stepped_outcome}
use Rattle.service.proofs.service.Service.step.Goals as goal

pub returns : goal.returns
returns c =
    let a = c.args in
    rw (c.to_service.ensures, c.reply_of.ensures, c.calls_with.ensures, c.grants_of.ensures)
    (stepped_outcome a.self.sizes a.step _ _ _ _ _ _ _ _ _ c.take_step-said.ensures
    ∙ ap (λ (s : Service). step_of s a.step) c.holding-held.ensures)

-- "They now go out, and are printed, in ascending station number" (document 02, Wish 1): the line of an open that waits
-- prints the callbacks that go out, which are in order (`calls_in_order`, crates/service/proofs/CallOrder.antt).
-- Assumes nothing.
use mathlib.Core.Path.{◌≡◌, ap, ◌∙◌}
use Rattle.decision.specs.Callback.{ordered_calls}
use Rattle.protocol.specs.declared.reply.Reply.{Reply}
use Rattle.protocol.specs.declared.reply.Reply.TheVariants.{Waiting}
use Rattle.protocol.specs.declared.step.Step.{Step}
use Rattle.service.specs.declared.service.Service.{Service}
use Rattle.service.specs.Contents.{sizes_of}
use Rattle.service.specs.Step.{step_of}
use Rattle.service.proofs.CallOrder.{printed_calls}
use Rattle.stepfile.specs.Line.{calls_text, fields_text}

pub prints_calls :
    (s : Service) (x : Step)
    → (step_of s x).reply ≡ Waiting
    → fields_text (step_of s x).reply (step_of s x).calls (step_of s x).grants
    ≡ calls_text (ordered_calls (sizes_of s).clients (step_of s x).calls)
prints_calls s x waits =
    ap (λ (r : Reply). fields_text r (step_of s x).calls (step_of s x).grants) waits ∙ ap calls_text (printed_calls s x)

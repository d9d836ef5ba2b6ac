-- `fresh` meets its contract: it holds the fresh service, whatever its sizes. Assumes nothing.
use Rattle.std.proofs.Common.{ap, ◌∙◌}
use Rattle.service.specs.declared.service.Service.{Service}
use Rattle.service.specs.Fresh.{fresh}
use Rattle.service.proofs.held_service.HeldService.fresh.Goals as goal

pub returns : goal.returns
unfolding fresh
returns c = λ z.
    ap (λ (s : Service). record { sizes = z; server = s.server; clients = s.clients; copies = s.copies; held = s.held; dirty = s.dirty })
    (c.holding.ensures ∙ c.new-service.ensures.value)

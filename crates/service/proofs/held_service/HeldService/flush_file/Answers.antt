-- `flush_file` meets its contract. Assumes nothing.
use Rattle.std.proofs.Common.{false, refl, sym, ◌∙◌, arith}
use Rattle.protocol.specs.declared.step.Step.TheVariants.{Flush}
use Rattle.protocol.specs.Reply.{no_calls}
use Rattle.service.proofs.Serving.{file_moves}
use Rattle.service.proofs.FileStoring.{flush_refused, flush_serves}
use Rattle.service.proofs.held_service.HeldService.flush_file.Goals as goal

pub returns-then-not-is_refused : goal.returns-then-not-is_refused
returns-then-not-is_refused c =
    let a = c.args in
    flush_serves c.requires.permitted (omega arith)
    (file_moves false false a.sizes (Flush a.client a.file a.block) a.file a.self.now.table _ a.self.now.flags
    a.self.now.stores _ _ no_calls refl c.flush-reply.ensures (λ e. refl))
    c.place_of.result
    c.place_of.ensures.value
    (sym c.is_refused.ensures ∙ c.if-not-is_refused.true)

pub returns-else-not-is_refused : goal.returns-else-not-is_refused
returns-else-not-is_refused c =
    let a = c.args in
    flush_refused c.requires.permitted (omega arith)
    (file_moves false false a.sizes (Flush a.client a.file a.block) a.file a.self.now.table _ a.self.now.flags
    a.self.now.stores _ _ no_calls refl c.flush-reply.ensures (λ e. refl))
    (sym c.is_refused.ensures ∙ c.if-not-is_refused.false)

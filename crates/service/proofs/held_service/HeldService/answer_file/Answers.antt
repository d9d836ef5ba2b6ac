-- `answer_file` meets its contract. Assumes nothing.
use Rattle.std.proofs.Common.{refl, false, arith}
use Rattle.protocol.specs.declared.step.Step.TheVariants.{Answer}
use Rattle.protocol.specs.Reply.{no_calls}
use Rattle.service.proofs.Serving.{file_moves}
use Rattle.service.proofs.FileStoring.{answer-serves}
use Rattle.service.proofs.held_service.HeldService.answer_file.Goals as goal

pub returns : goal.returns
returns c =
    let a = c.args in
    answer-serves c.requires.permitted (omega arith)
    (file_moves false false a.sizes (Answer a.client a.file) a.file a.self.now.table _ a.self.now.flags
    a.self.now.stores _ _ no_calls refl c.answer-reply.ensures
    (λ e. refl))
    c.dirty_blocks-own.result
    c.counted_on-before.result
    c.counted_on-after.result
    _
    _
    c.dirty_blocks-own.ensures
    c.mark_sent.ensures
    c.counted_on-before.ensures.counted
    c.counted_on-after.ensures.counted
    c.recount.ensures

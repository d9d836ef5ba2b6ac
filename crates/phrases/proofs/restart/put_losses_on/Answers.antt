-- `put_losses_on` meets its contract: after so many blocks their losses are told. Assumes nothing.
use mathlib.Core.Path.{refl, sym, ◌∙◌, ap}
use native.Mathlib.Omega.{arith}
use Rattle.ledger.specs.declared.lines.Lines.{Lines}
use Rattle.ledger.specs.Ledger.{risks_in}
use Rattle.writer.proofs.Buffers.{wrote_as}
use Rattle.phrases.specs.Accepted.{losses_on}
use Rattle.phrases.proofs.Losses.{at_risk, line_of, on_none, on_more, lines_placed}
use Rattle.phrases.proofs.restart.put_losses_on.Goals as goal

pub loop-block-init : goal.loop-block-init
loop-block-init c = (λ d told before. wrote_as (sym (on_none _ _ _ told)) before, omega arith)

pub loop-block-preserved : goal.loop-block-preserved
loop-block-preserved c =
    let a = c.args in
    let put = c.put_loss_if-next in
    let inv = c.loop-block.invariant in
    let b = c.loop-block.block in
    let here =
    c.lines_in-lines.ensures
    ∙ lines_placed a.ledger.now a.file b (omega arith) (omega arith) in (
      λ d told before.
          wrote_as
          (on_more (at_risk a.ledger.now a.client) (line_of a.ledger.now) a.file b told _ _
          (ap (risks_in a.client) here)
          (ap (λ (y : Lines). y.risk) here))
          (put.ensures.by_index d _ (inv.0 d told before)),
      omega arith,
    )

pub returns-clause-by_index : goal.returns-clause-by_index
returns-clause-by_index c =
    let a = c.args in
    λ d told before.
    wrote_as
    (ap (λ k. losses_on (at_risk a.ledger.now a.client) (line_of a.ledger.now) a.file k told)
    (omega arith))
    (c.loop-block.invariant.0 d told before)

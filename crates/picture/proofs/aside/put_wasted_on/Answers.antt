-- `put_wasted_on` meets its contract: after so many blocks their losses are told. Assumes nothing.
use mathlib.Core.Path.{refl, sym, ◌∙◌, ap}
use mathlib.Core.List.{[]}
use native.Mathlib.Omega.{arith}
use Rattle.blocks.specs.Stores.{lent, dirty_in}
use Rattle.ledger.specs.Ledger.{entered, copied_at}
use Rattle.writer.proofs.Buffers.{wrote_as}
use Rattle.phrases.specs.Accepted.{losses_on}
use Rattle.phrases.proofs.Losses.{on_none, on_more}
use Rattle.picture.proofs.Parts.{flag_there, line_there}
use Rattle.picture.proofs.aside.put_wasted_on.Goals as goal

pub loop-block-init : goal.loop-block-init
loop-block-init c = (λ d told before. wrote_as (sym (on_none _ _ _ told)) before, omega arith)

pub loop-block-preserved : goal.loop-block-preserved
loop-block-preserved c =
    let a = c.args in
    let put = c.put_loss_if-next in
    let inv = c.loop-block.invariant in
    let b = c.loop-block.block in
    let is = c.first_cell-base.ensures.value in (
      λ d told before.
          wrote_as
          (on_more (dirty_in (lent [] [] [] a.dirty.now) a.client) (copied_at (entered [] [] a.copied.now []) a.client) a.file b
          told _ _
          (flag_there a.client a.file _ b a.dirty.now (omega arith) (omega arith) is)
          (line_there a.client a.file _ b a.copied.now (omega arith) (omega arith) is))
          (put.ensures.by_index d _ (inv.0 d told before)),
      omega arith,
    )

pub returns-clause-by_index : goal.returns-clause-by_index
returns-clause-by_index c =
    let a = c.args in
    λ d told before.
    wrote_as
    (ap
    (λ k.
    losses_on (dirty_in (lent [] [] [] a.dirty.now) a.client) (copied_at (entered [] [] a.copied.now []) a.client) a.file k told)
    (omega arith))
    (c.loop-block.invariant.0 d told before)

-- `put_losses` meets its contract: after so many files their losses are told. Assumes nothing.
use mathlib.Core.Path.{refl, sym, ◌∙◌}
use native.Mathlib.Omega.{arith}
use Rattle.writer.proofs.Buffers.{wrote_none, wrote_as}
use Rattle.phrases.proofs.Losses.{at_risk, line_of, below_none, below_more, wrote_no_losses, wrote_losses}
use Rattle.phrases.proofs.restart.put_losses.Goals as goal

pub loop-file-init : goal.loop-file-init
loop-file-init c = (wrote_as (sym (below_none _ _ _)) (wrote_none _ _ (omega arith)), omega arith)

pub loop-file-preserved : goal.loop-file-preserved
loop-file-preserved c =
    let put = c.put_losses_on-next in
    let inv = c.loop-file.invariant in (
      wrote_as (below_more _ _ _ c.loop-file.file) (put.ensures.by_index _ _ inv.0),
      omega arith,
    )

pub returns-then-next-at-clause-wrote : goal.returns-then-next-at-clause-wrote
returns-then-next-at-clause-wrote c =
    wrote_no_losses (at_risk c.args.ledger.now c.args.client) (line_of c.args.ledger.now)
    c.args.blocks c.loop-file.invariant.0 (omega arith) c.if-next-at.true c.put_text.ensures.wrote

pub returns-clause-wrote : goal.returns-clause-wrote
returns-clause-wrote c =
    wrote_losses (at_risk c.args.ledger.now c.args.client) (line_of c.args.ledger.now)
    c.args.blocks c.loop-file.invariant.0 (omega arith) c.if-next-at.false

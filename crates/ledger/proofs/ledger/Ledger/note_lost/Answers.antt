-- `note_lost` meets its contract: after k turns k places are done. Assumes nothing.
use Rattle.std.proofs.Common.{arith, rules}
use Rattle.ledger.specs.Ledger.{lost_lines}
use Rattle.ledger.proofs.Noting.{lost_none, lost_next}
use Rattle.ledger.proofs.ledger.Ledger.note_lost.Goals as goal

pub loop-k-init : goal.loop-k-init
loop-k-init c = (omega arith, lost_none _ _)

pub loop-k-preserved : goal.loop-k-preserved
loop-k-preserved c = (
  omega (arith, c.loop-k-test.true),
  lost_next _ c.args.self.now _ _ _ c.loop-k-test.true c.loop-k.invariant.1
      (c.change_lines.ensures (lost_lines _) (λ x y changed. search rules)),
)

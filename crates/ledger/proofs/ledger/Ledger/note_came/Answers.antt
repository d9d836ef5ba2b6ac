-- `note_came` meets its contract: after k turns k places are done. Assumes nothing.
use Rattle.std.proofs.Common.{arith, rules}
use Rattle.ledger.specs.Ledger.{came_lines}
use Rattle.ledger.proofs.Noting.{came_none, came_next}
use Rattle.ledger.proofs.ledger.Ledger.note_came.Goals as goal

pub loop-k-init : goal.loop-k-init
loop-k-init c = (omega arith, came_none _ _ _)

pub loop-k-preserved : goal.loop-k-preserved
loop-k-preserved c = (
  omega (arith, c.loop-k-test.true),
  came_next _ _ c.args.self.now _ _ _ (omega (arith, c.loop-k-test.true, c.requires)) c.loop-k.invariant.1
      (c.change_lines.ensures (came_lines _) (λ x y changed. search rules)),
)

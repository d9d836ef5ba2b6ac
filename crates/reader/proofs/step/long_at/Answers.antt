-- `long_at` meets its contract: fewer than two bytes are no step. Assumes nothing.
use native.Mathlib.Omega.{arith}
use Rattle.reader.proofs.Words.{step_short}
use Rattle.reader.proofs.step.long_at.Goals as goal

pub returns-then-s-lt2 : goal.returns-then-s-lt2
returns-then-s-lt2 c = step_short c.args.s.now c.args.at (omega arith)

pub returns-then-s-at : goal.returns-then-s-at
returns-then-s-at c = step_short c.args.s.now c.args.at (omega arith)

-- `put_line_if` meets its contract: the line of a dirty block, and else nothing. Assumes nothing.
use native.Mathlib.Omega.{arith}
use Rattle.writer.proofs.Buffers.{wrote_none, wrote_as}
use Rattle.image.proofs.SectionLaws.{flat_one, flat_none}
use Rattle.unsaved.proofs.line.put_line_if.Goals as goal

pub returns-then-dirty-clause-wrote : goal.returns-then-dirty-clause-wrote
returns-then-dirty-clause-wrote c = wrote_as (flat_one _ _ c.if-dirty.true) c.put_line.ensures.wrote

pub returns-else-dirty-clause-wrote : goal.returns-else-dirty-clause-wrote
returns-else-dirty-clause-wrote c = wrote_as (flat_none _ _ c.if-dirty.false) (wrote_none _ _ (omega arith))

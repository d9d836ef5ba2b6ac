-- `put_block` meets its contract, by whether the block is used. Assumes nothing.
use native.Mathlib.Omega.{arith}
use Rattle.writer.proofs.Buffers.{wrote_none, wrote_as}
use Rattle.image.proofs.SectionLaws.{flat_one, flat_none}
use Rattle.image.proofs.entries.put_block.Goals as goal

pub returns-then-used-clause-wrote : goal.returns-then-used-clause-wrote
returns-then-used-clause-wrote c = wrote_as (flat_one _ _ c.if-used.true) c.put_block_fields.ensures.wrote

pub returns-else-used-clause-wrote : goal.returns-else-used-clause-wrote
returns-else-used-clause-wrote c = wrote_as (flat_none _ _ c.if-used.false) (wrote_none _ _ (omega arith))

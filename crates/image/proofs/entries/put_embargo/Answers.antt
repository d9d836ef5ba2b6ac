-- `put_embargo` meets its contract, by whether the client is under embargo. Assumes nothing.
use native.Mathlib.Omega.{arith}
use Rattle.writer.proofs.Buffers.{wrote_none, wrote_as}
use Rattle.image.proofs.SectionLaws.{flat_one, flat_none}
use Rattle.image.proofs.entries.put_embargo.Goals as goal

pub returns-then-embargoed-clause-wrote : goal.returns-then-embargoed-clause-wrote
returns-then-embargoed-clause-wrote c = wrote_as (flat_one _ _ c.if-embargoed.true) c.put_byte.ensures.wrote

pub returns-else-embargoed-clause-wrote : goal.returns-else-embargoed-clause-wrote
returns-else-embargoed-clause-wrote c = wrote_as (flat_none _ _ c.if-embargoed.false) (wrote_none _ _ (omega arith))

-- `put_open` meets its contract, by whether the client is open. Assumes nothing.
use mathlib.Core.Path.{sym, ◌∙◌}
use native.Mathlib.Omega.{arith}
use Rattle.writer.proofs.Buffers.{wrote_none, wrote_as}
use Rattle.image.proofs.SectionLaws.{flat_one, flat_none}
use Rattle.image.proofs.entries.put_open.Goals as goal

pub returns-then-is_open-clause-wrote : goal.returns-then-is_open-clause-wrote
returns-then-is_open-clause-wrote c =
    wrote_as (flat_one _ _ (sym c.is_open.ensures ∙ c.if-is_open.true)) c.put_open_fields.ensures.wrote

pub returns-else-is_open-clause-wrote : goal.returns-else-is_open-clause-wrote
returns-else-is_open-clause-wrote c =
    wrote_as (flat_none _ _ (sym c.is_open.ensures ∙ c.if-is_open.false)) (wrote_none _ _ (omega arith))

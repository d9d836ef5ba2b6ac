-- `put_open_fields` meets its contract: the fields, one after the other. Assumes nothing.
use mathlib.Core.Path.{ap}
use mathlib.Core.List.{[], ◌∷◌}
use Rattle.writer.proofs.Buffers.{wrote_then, wrote_as}
use Rattle.image.proofs.entries.put_open_fields.Goals as goal

pub returns-clause-wrote : goal.returns-clause-wrote
returns-clause-wrote c =
    wrote_then c.put_byte-second.ensures.wrote
    (wrote_then c.put_byte-third.ensures.wrote
    (wrote_then c.put_byte-fourth.ensures.wrote
    (wrote_then c.put_byte-fifth.ensures.wrote
    (wrote_as (ap (λ k. k ∷ []) c.permission_byte.ensures) c.put_byte.ensures.wrote))))

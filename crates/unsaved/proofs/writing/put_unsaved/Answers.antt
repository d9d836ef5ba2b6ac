-- `put_unsaved` meets its contract: by the sizes in force. Assumes nothing.
use mathlib.Core.Path.{ap}
use mathlib.Core.List.{[]}
use Rattle.options.specs.Program.{number_of}
use Rattle.blocks.specs.Stores.{lent, dirty_in}
use Rattle.image.specs.Bytes.{flat}
use Rattle.writer.proofs.Buffers.{wrote_as}
use Rattle.unsaved.specs.Unsaved.{client_lines}
use Rattle.unsaved.proofs.writing.put_unsaved.Goals as goal

pub returns-clause-wrote : goal.returns-clause-wrote
returns-clause-wrote c =
    let a = c.args in
    wrote_as
    (ap (λ z. flat (client_lines (number_of a.program) z (dirty_in (lent [] [] [] a.service.dirty)))) c.in_force-sizes.ensures.value)
    c.put_clients.ensures.wrote

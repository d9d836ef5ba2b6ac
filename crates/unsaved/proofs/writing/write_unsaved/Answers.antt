-- `write_unsaved` meets its contract: by the room, and by the program that the number names. Assumes nothing.
use native.Mathlib.Omega.{arith}
use Rattle.options.specs.Program.{number_of}
use Rattle.writer.proofs.Buffers.{wrote_as, wrote_if_room}
use Rattle.unsaved.proofs.Named.{same_named}
use Rattle.unsaved.proofs.writing.write_unsaved.Goals as goal

pub returns-clause-wrote_if_room : goal.returns-clause-wrote_if_room
returns-clause-wrote_if_room c =
    let a = c.args in
    wrote_if_room _ _ _ _ _ _ (omega arith)
    (wrote_as (same_named (number_of c.numbered.result) a.program a.service c.numbered.ensures) c.put_unsaved.ensures.wrote)

-- `put_program` meets its contract: the name of the program, and a colon. Assumes nothing.
use Rattle.writer.proofs.Buffers.{wrote_as, wrote_then}
use Rattle.unsaved.proofs.line.put_program.Goals as goal

pub returns-clause-wrote : goal.returns-clause-wrote
returns-clause-wrote c =
    wrote_then (wrote_as c.name.ensures c.put_text-colon.ensures.wrote) c.put_text.ensures.wrote

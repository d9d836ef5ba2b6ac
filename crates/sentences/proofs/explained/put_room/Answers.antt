-- `put_room` meets its contract: its two parts. Assumes nothing.
use Rattle.writer.proofs.Buffers.{wrote_then}
use Rattle.sentences.proofs.explained.put_room.Goals as goal

pub returns-clause-wrote : goal.returns-clause-wrote
returns-clause-wrote c = wrote_then c.put_text-told.ensures.wrote c.put_argument.ensures.wrote

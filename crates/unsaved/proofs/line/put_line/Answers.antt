-- `put_line` meets its contract: its parts, one after the other. Assumes nothing.
use Rattle.writer.proofs.Buffers.{wrote_then}
use Rattle.unsaved.proofs.line.put_line.Goals as goal

pub returns-clause-wrote : goal.returns-clause-wrote
returns-clause-wrote c =
    wrote_then c.put_program-station.ensures.wrote
    (wrote_then c.put_client-word.ensures.wrote
    (wrote_then c.put_text-digits.ensures.wrote
    (wrote_then c.put_argument-second.ensures.wrote
    (wrote_then c.put_text-number.ensures.wrote
    (wrote_then c.put_argument-why.ensures.wrote c.put_text.ensures.wrote)))))

-- `put_said` meets its contract: the number, the letter and the fields, one after the other. Assumes nothing.
use Rattle.writer.proofs.Buffers.{wrote_then, wrote_as}
use Rattle.writer.proofs.SaidLines.{said_reply}
use Rattle.writer.proofs.said.put_said.Goals as goal

pub returns-clause-wrote : goal.returns-clause-wrote
returns-clause-wrote c reply calls grants says =
    let a = c.args in
    wrote_as (said_reply a.said a.words.now reply calls grants says a.number)
    (wrote_then c.put_decimal-letter.ensures.wrote
    (wrote_then c.put_letter-fields.ensures.wrote c.put_fields.ensures.wrote))

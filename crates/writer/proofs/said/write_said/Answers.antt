-- `write_said` meets its contract, by the room. Assumes nothing.
use mathlib.Core.Path.{sym, ◌∙◌}
use Rattle.writer.proofs.Buffers.{wrote_in_room, wrote_then, wrote_as}
use Rattle.writer.proofs.SaidLines.{line_text_lem}
use Rattle.writer.proofs.said.write_said.Goals as goal

pub returns-clause-wrote_if_room : goal.returns-clause-wrote_if_room
returns-clause-wrote_if_room c reply calls grants says =
    wrote_in_room _ _ _ _ _ _ (sym c.has_room.ensures ∙ c.if-not-has_room.false)
    (wrote_as (line_text_lem c.args.number reply calls grants)
    (wrote_then (c.put_said-feed.ensures.wrote reply calls grants says) c.put_byte.ensures.wrote))

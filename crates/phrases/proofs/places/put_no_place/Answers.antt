-- `put_no_place` meets its contract: its parts, one after the other. Assumes nothing.
use Rattle.writer.proofs.Buffers.{wrote_then}
use Rattle.phrases.proofs.places.put_no_place.Goals as goal

pub returns-clause-wrote : goal.returns-clause-wrote
returns-clause-wrote c =
    wrote_then c.put_text-named.ensures.wrote
    (wrote_then c.put_block-word.ensures.wrote
    (wrote_then c.put_text-places.ensures.wrote c.put_places.ensures.wrote))

-- `put_places` meets its contract: its parts, one after the other. Assumes nothing.
use Rattle.std.proofs.Common.{rules}
use Rattle.phrases.specs.Places.{reserves}
use Rattle.writer.proofs.Buffers.{wrote_then}
use Rattle.phrases.proofs.places.put_places.Goals as goal

pub returns-clause-wrote : goal.returns-clause-wrote
returns-clause-wrote c =
    let a = c.args in
    wrote_then c.put_counts-word.ensures.wrote
    (wrote_then c.put_text-list.ensures.wrote
    (c.put_numbers.ensures.wrote (reserves a.sizes a.used.now a.embargoed a.dirty.now) (search rules)))

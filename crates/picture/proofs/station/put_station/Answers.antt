-- `put_station` meets its contract: its parts, one after the other. Assumes nothing.
use Rattle.writer.proofs.Buffers.{wrote_then}
use Rattle.picture.proofs.station.put_station.Goals as goal

pub returns-clause-wrote : goal.returns-clause-wrote
returns-clause-wrote c =
    wrote_then c.put_text-name.ensures.wrote
    (wrote_then c.put_client-counts.ensures.wrote
    (wrote_then c.put_opens-copies.ensures.wrote
    (wrote_then c.put_copies-feed.ensures.wrote c.put_byte.ensures.wrote)))

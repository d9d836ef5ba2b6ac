-- `put_lines` meets its contract: its parts, one after the other. Assumes nothing.
use Rattle.writer.proofs.Buffers.{wrote_then}
use Rattle.picture.proofs.files.put_lines.Goals as goal

pub returns-clause-wrote : goal.returns-clause-wrote
returns-clause-wrote c =
    wrote_then c.put_head-stations.ensures.wrote
    (wrote_then c.put_stations-open.ensures.wrote c.put_wait_if.ensures.wrote)

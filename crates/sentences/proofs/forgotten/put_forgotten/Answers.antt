-- `put_forgotten` meets its contract: its parts, one after the other. Assumes nothing.
use Rattle.ledger.specs.Ledger.{lines_at}
use Rattle.writer.proofs.Buffers.{wrote_then}
use Rattle.sentences.proofs.forgotten.put_forgotten.Goals as goal

pub returns-clause-wrote : goal.returns-clause-wrote
returns-clause-wrote c =
    let a = c.args in
    let lines = lines_at a.ledger.now in
    wrote_then (c.put_files_open-lost.ensures.by_index a.table.now lines)
    (wrote_then c.put_text-losses.ensures.wrote
    (wrote_then c.put_losses-granted.ensures.wrote (c.put_grants.ensures.by_index lines)))

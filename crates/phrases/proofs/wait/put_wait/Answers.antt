-- `put_wait` meets its contract: its parts, one after the other. Assumes nothing.
use Rattle.writer.proofs.Buffers.{wrote_then}
use Rattle.phrases.proofs.wait.put_wait.Goals as goal

pub returns-clause-wrote : goal.returns-clause-wrote
returns-clause-wrote c =
    wrote_then c.put_opener-state.ensures.wrote
    (wrote_then c.put_reason-called.ensures.wrote c.put_calls.ensures.wrote)

-- `put_count_full` meets its contract: its parts, one after the other. Assumes nothing.
use Rattle.writer.proofs.Buffers.{wrote_then}
use Rattle.phrases.proofs.refusal.put_count_full.Goals as goal

pub returns-clause-wrote : goal.returns-clause-wrote
returns-clause-wrote c = wrote_then c.put_open-times.ensures.wrote c.put_text.ensures.wrote

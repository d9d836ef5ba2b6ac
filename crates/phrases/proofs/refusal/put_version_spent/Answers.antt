-- `put_version_spent` meets its contract: its parts, one after the other. Assumes nothing.
use Rattle.writer.proofs.Buffers.{wrote_then}
use Rattle.phrases.proofs.refusal.put_version_spent.Goals as goal

pub returns-clause-wrote : goal.returns-clause-wrote
returns-clause-wrote c =
    wrote_then c.put_text-named.ensures.wrote
    (wrote_then c.put_file-word.ensures.wrote c.put_text.ensures.wrote)

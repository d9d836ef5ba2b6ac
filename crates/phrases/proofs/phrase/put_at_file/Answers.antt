-- `put_at_file` meets its contract: its parts, one after the other. Assumes nothing.
use Rattle.writer.proofs.Buffers.{wrote_then}
use Rattle.phrases.proofs.phrase.put_at_file.Goals as goal

pub returns-clause-wrote : goal.returns-clause-wrote
returns-clause-wrote c =
    wrote_then c.put_client-word.ensures.wrote
    (wrote_then c.put_text-named.ensures.wrote
    (wrote_then c.put_file-mode_at.ensures.wrote c.put_for.ensures.wrote))

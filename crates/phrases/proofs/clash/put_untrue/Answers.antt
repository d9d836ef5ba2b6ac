-- `put_untrue` meets its contract: its parts, one after the other. Assumes nothing.
use Rattle.writer.proofs.Buffers.{wrote_then}
use Rattle.phrases.proofs.clash.put_untrue.Goals as goal

pub returns-clause-wrote : goal.returns-clause-wrote
returns-clause-wrote c =
    wrote_then c.put_text-named.ensures.wrote
    (wrote_then c.put_file-word.ensures.wrote
    (wrote_then c.put_text-says.ensures.wrote c.put_says.ensures.wrote))

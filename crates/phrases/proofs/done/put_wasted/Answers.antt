-- `put_wasted` meets its contract, by whether the client is under embargo. Assumes nothing.
use mathlib.Core.Path.{sym}
use Rattle.sizes.proofs.Choosing.{when}
use Rattle.writer.proofs.Buffers.{wrote_as, wrote_then}
use Rattle.phrases.proofs.done.put_wasted.Goals as goal

pub returns-clause-wrote : goal.returns-clause-wrote
returns-clause-wrote c =
    wrote_as (sym (when _ _ c.if-not-aside.false))
    (wrote_then c.put_text-word.ensures.wrote c.put_embargo.ensures.wrote)

-- `put_lost` meets its contract: nothing, or whose write of which line. Assumes nothing.
use mathlib.Core.Path.{sym}
use borrow.Author.Tests.{ne_eqb}
use Rattle.sizes.proofs.Choosing.{unless}
use Rattle.writer.proofs.Buffers.{wrote_as, wrote_then}
use Rattle.phrases.proofs.read.put_lost.Goals as goal

pub returns-clause-wrote : goal.returns-clause-wrote
returns-clause-wrote c =
    wrote_as (sym (unless _ _ (ne_eqb _ 0 c.if-told-eq0.false)))
    (wrote_then c.put_text-loser.ensures.wrote
    (wrote_then c.put_client-word.ensures.wrote
    (wrote_then c.put_numbered-end.ensures.wrote c.put_text.ensures.wrote)))

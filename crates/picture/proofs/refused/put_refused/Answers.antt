-- `put_refused` meets its contract: nothing where the number was not given, and else its line. Assumes nothing.
use mathlib.Core.Path.{sym}
use borrow.Author.Tests.{ne_eqb}
use Rattle.sizes.proofs.Choosing.{unless}
use Rattle.writer.proofs.Buffers.{wrote_as, wrote_then}
use Rattle.picture.proofs.refused.put_refused.Goals as goal

pub returns-clause-wrote : goal.returns-clause-wrote
returns-clause-wrote c =
    wrote_as (sym (unless _ _ (ne_eqb _ 0 c.if-times-eq0.false)))
    (wrote_then c.put_numbered-colon.ensures.wrote
    (wrote_then c.put_byte-often.ensures.wrote
    (wrote_then c.put_argument-feed.ensures.wrote c.put_byte.ensures.wrote)))

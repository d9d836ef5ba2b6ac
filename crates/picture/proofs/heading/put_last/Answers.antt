-- `put_last` meets its contract: the last writer, or none. Assumes nothing.
use mathlib.Core.Path.{sym}
use borrow.Author.Tests.{lt-ltb, le-ltb}
use Rattle.sizes.proofs.Choosing.{when, unless}
use Rattle.writer.proofs.Buffers.{wrote_as, wrote_then}
use Rattle.picture.proofs.heading.put_last.Goals as goal

pub returns-then-last-clients-clause-wrote : goal.returns-then-last-clients-clause-wrote
returns-then-last-clients-clause-wrote c =
    wrote_then c.put_text-name.ensures.wrote
    (wrote_as (sym (when _ _ (lt-ltb _ _ c.if-last-clients.true))) c.put_argument.ensures.wrote)

pub returns-clause-wrote : goal.returns-clause-wrote
returns-clause-wrote c =
    wrote_then c.put_text-name.ensures.wrote
    (wrote_as (sym (unless _ _ (le-ltb _ _ c.if-last-clients.false))) c.put_text.ensures.wrote)

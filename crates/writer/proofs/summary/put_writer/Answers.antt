-- `put_writer` meets its contract, by whether there is a last writer. Assumes nothing.
use mathlib.Core.Path.{sym}
use borrow.Author.Tests.{le-ltb}
use Rattle.sizes.proofs.Choosing.{unless}
use Rattle.writer.proofs.Buffers.{wrote_then, wrote_as}
use Rattle.writer.proofs.summary.put_writer.Goals as goal

pub returns-else-last-clients-clause-wrote : goal.returns-else-last-clients-clause-wrote
returns-else-last-clients-clause-wrote c =
    wrote_as (sym (unless _ _ (le-ltb _ _ c.if-last-clients.false)))
    (wrote_then c.put_byte-dash.ensures.wrote c.put_byte.ensures.wrote)

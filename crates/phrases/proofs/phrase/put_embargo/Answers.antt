-- `put_embargo` meets its contract, by whether there is a line. Assumes nothing.
use mathlib.Core.Path.{sym}
use borrow.Author.Tests.{ne_eqb}
use Rattle.sizes.proofs.Choosing.{unless}
use Rattle.writer.proofs.Buffers.{wrote_as}
use Rattle.phrases.proofs.phrase.put_embargo.Goals as goal

pub returns-clause-wrote : goal.returns-clause-wrote
returns-clause-wrote c =
    wrote_as (sym (unless _ _ (ne_eqb _ 0 c.if-line-eq0.false)))
    c.put_numbered.ensures.wrote

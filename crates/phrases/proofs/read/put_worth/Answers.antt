-- `put_worth` meets its contract, by whether the client is under embargo. Assumes nothing.
use Rattle.std.proofs.Common.{sym}
use Rattle.sizes.proofs.Choosing.{when}
use Rattle.writer.proofs.Buffers.{wrote_as, wrote_then}
use Rattle.phrases.proofs.read.put_worth.Goals as goal

pub returns-then-aside-clause-wrote : goal.returns-then-aside-clause-wrote
returns-then-aside-clause-wrote c =
    wrote_as (sym (when _ _ c.if-aside.true)) (wrote_then c.put_text-word.ensures.wrote c.put_embargo.ensures.wrote)

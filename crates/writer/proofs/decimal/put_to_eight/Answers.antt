-- `put_to_eight` meets its contract: four digits at most, or more and then four. Assumes nothing.
use Rattle.writer.proofs.Buffers.{wrote_then, wrote_as}
use Rattle.writer.proofs.Digits.{last_four}
use Rattle.writer.proofs.decimal.put_to_eight.Goals as goal

pub returns-clause-wrote : goal.returns-clause-wrote
returns-clause-wrote c =
    wrote_as (last_four _ c.if-n-lt10000.false)
    (wrote_then c.put_to_four-second.ensures.wrote c.put_four.ensures.wrote)

-- `put_decimal` meets its contract: the first digits, then eight or sixteen more. Assumes nothing.
use Rattle.writer.proofs.Buffers.{wrote_then, wrote_as}
use Rattle.writer.proofs.Digits.{last_eight, last_sixteen}
use Rattle.writer.proofs.decimal.put_decimal.Goals as goal

pub returns-then-n-lt10000000000000000-clause-wrote : goal.returns-then-n-lt10000000000000000-clause-wrote
returns-then-n-lt10000000000000000-clause-wrote c =
    wrote_as (last_eight _ c.if-n-lt100000000.false)
    (wrote_then c.put_to_eight-second.ensures.wrote c.put_eight.ensures.wrote)

pub returns-clause-wrote : goal.returns-clause-wrote
returns-clause-wrote c =
    wrote_as (last_sixteen _ c.if-n-lt10000000000000000.false)
    (wrote_then c.put_to_four-second.ensures.wrote
    (wrote_then c.put_eight-third.ensures.wrote c.put_eight-2.ensures.wrote))

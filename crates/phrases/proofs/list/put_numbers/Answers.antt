-- `put_numbers` meets its contract: after so many numbers those of them that pass are written. Assumes nothing.
use Rattle.std.proofs.Common.{◌≡◌, ap, arith, cond, []}
use Rattle.stepfile.specs.Text.{argument_text}
use Rattle.phrases.specs.Phrase.{numbers_text}
use Rattle.writer.proofs.Buffers.{wrote_none, wrote_as}
use Rattle.phrases.proofs.Lists.{wrote_number, wrote_empty_list, wrote_some_list}
use Rattle.phrases.proofs.list.put_numbers.Goals as goal

pub loop-i-init : goal.loop-i-init
unfolding numbers_text
loop-i-init g c = record { room = omega arith; wrote = λ p same. wrote_none _ _ (omega arith) }

pub put_number-next-requires : goal.put_number-next-requires
put_number-next-requires g c = omega (arith, c.loop-i.invariant.room)

pub loop-i-preserved : goal.loop-i-preserved
loop-i-preserved g c = record {
  room = omega (arith, c.loop-i.invariant.room);
  wrote = λ p same.
      let i = c.loop-i.i in
      wrote_number p i (c.loop-i.invariant.wrote p same)
      (wrote_as (ap (λ b. cond b (argument_text i) []) (same i c.test.result c.loop-i-test.true c.test.ensures))
      c.put_number-next.ensures.wrote);
}

pub returns-then-next-at-clause-wrote : goal.returns-then-next-at-clause-wrote
returns-then-next-at-clause-wrote g c = λ p same.
    wrote_empty_list p _ (c.loop-i.invariant.wrote p same) (omega arith) c.if-next-at.true c.put_text.ensures.wrote

pub returns-clause-wrote : goal.returns-clause-wrote
returns-clause-wrote g c = λ p same.
    wrote_some_list p _ (c.loop-i.invariant.wrote p same) (omega arith) c.if-next-at.false

pub returns-clause-upper_bound : goal.returns-clause-upper_bound
returns-clause-upper_bound g c = omega (arith, c.loop-i.invariant.room)

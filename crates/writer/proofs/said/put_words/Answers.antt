-- `put_words` meets its contract: after so many turns so many words are written. Assumes nothing.
use Rattle.std.proofs.Common.{◌≡◌, ℕ, length, take, arith, ap, ◌∙◌}
use lib.Seq.{length-take-le, take_all}
use Rattle.stepfile.specs.Text.{values_text}
use Rattle.writer.proofs.Buffers.{wrote_none, wrote_then, wrote_as}
use Rattle.writer.proofs.SaidLines.{values_next}
use Rattle.writer.proofs.said.put_words.Goals as goal

pub loop-word-init : goal.loop-word-init
unfolding values_text
loop-word-init c = (wrote_none _ _ (omega arith), omega arith)

pub put_argument-next-requires : goal.put_argument-next-requires
put_argument-next-requires c =
    let all = length-take-le c.args.count c.args.words.now (omega arith) in
    omega (arith, all, c.loop-word.invariant.1)

pub loop-word-preserved : goal.loop-word-preserved
loop-word-preserved c =
    let turn = c.loop-word in (
      wrote_as (values_next (take c.args.count c.args.words.now) turn.word-index c.loop-word-test.true)
          (wrote_then turn.invariant.0 c.put_argument-next.ensures.wrote),
      omega arith,
    )

pub returns-clause-wrote : goal.returns-clause-wrote
returns-clause-wrote c =
    wrote_as (ap values_text (take_all c.loop-word.word-index (take c.args.count c.args.words.now) c.loop-word-test.false))
    c.loop-word.invariant.0

pub returns-clause-upper_bound : goal.returns-clause-upper_bound
returns-clause-upper_bound c =
    let all = length-take-le c.args.count c.args.words.now (omega arith) in
    omega (arith, all, c.loop-word.invariant.1)

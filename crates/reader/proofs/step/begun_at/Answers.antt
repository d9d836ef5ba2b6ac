-- `begun_at` meets its contract: by its word, which is the two bytes as one number, a step of the numbers after it; or it
-- is none of the words. Assumes nothing.
use Prim.Native.Nat.{◌+◌}
use mathlib.Core.Path.{◌∙◌}
use native.Mathlib.Omega.{arith}
use lib.Dec.{lit<}
use Rattle.std.proofs.Common.{rules}
use Rattle.records.specs.declared.record.Mode.TheVariants.{Read as ForRead, Write as ForWrite}
use Rattle.protocol.specs.declared.step.Step.TheVariants.{Open, Close, Read, Write, Flush, Answer, Report, Restart, Embargo, Lift}
use Rattle.stepfile.specs.Grammar.{shape_of, shaped, one}
use Rattle.reader.proofs.Words.{step_word, step_unknown}
use Rattle.reader.proofs.Shapes.{made_of_one, made_of_two, made_of_three, after_three}
use Rattle.reader.proofs.step.begun_at.Goals as goal

-- OR
pub returns-in-20306 : goal.returns-in-20306
unfolding shape_of
returns-in-20306 g c there =
    step_word c.args.s.now c.args.at _ c.requires.word c.word_at.ensures 79 82 (lit< tt)
    (c.type_inv.s (c.args.at + 1)).fits c.in-20306.is
    ∙ made_of_two _ _ _ _ there (Open ForRead) _ (λ n y made. search rules) _ c.pair_at.ensures.by_index c.step_of.ensures

-- OW
pub returns-in-20311 : goal.returns-in-20311
unfolding shape_of
returns-in-20311 g c there =
    step_word c.args.s.now c.args.at _ c.requires.word c.word_at.ensures 79 87 (lit< tt)
    (c.type_inv.s (c.args.at + 1)).fits c.in-20311.is
    ∙ made_of_two _ _ _ _ there (Open ForWrite) _ (λ n y made. search rules) _ c.pair_at-in-20311.ensures.by_index c.step_of-in-20311.ensures

-- CR
pub returns-in-17234 : goal.returns-in-17234
unfolding shape_of
returns-in-17234 g c there =
    step_word c.args.s.now c.args.at _ c.requires.word c.word_at.ensures 67 82 (lit< tt)
    (c.type_inv.s (c.args.at + 1)).fits c.in-17234.is
    ∙ made_of_two _ _ _ _ there (Close ForRead) _ (λ n y made. search rules) _ c.pair_at-in-17234.ensures.by_index c.step_of-in-17234.ensures

-- CW
pub returns-in-17239 : goal.returns-in-17239
unfolding shape_of
returns-in-17239 g c there =
    step_word c.args.s.now c.args.at _ c.requires.word c.word_at.ensures 67 87 (lit< tt)
    (c.type_inv.s (c.args.at + 1)).fits c.in-17239.is
    ∙ made_of_two _ _ _ _ there (Close ForWrite) _ (λ n y made. search rules) _ c.pair_at-in-17239.ensures.by_index c.step_of-in-17239.ensures

-- AN
pub returns-in-16718 : goal.returns-in-16718
unfolding shape_of
returns-in-16718 g c there =
    step_word c.args.s.now c.args.at _ c.requires.word c.word_at.ensures 65 78 (lit< tt)
    (c.type_inv.s (c.args.at + 1)).fits c.in-16718.is
    ∙ made_of_two _ _ _ _ there Answer _ (λ n y made. search rules) _ c.pair_at-in-16718.ensures.by_index c.step_of-in-16718.ensures

-- RD
pub returns-in-21060 : goal.returns-in-21060
unfolding shape_of
returns-in-21060 g c there =
    step_word c.args.s.now c.args.at _ c.requires.word c.word_at.ensures 82 68 (lit< tt)
    (c.type_inv.s (c.args.at + 1)).fits c.in-21060.is
    ∙ made_of_three _ _ _ _ there Read _ (λ n y made. search rules) _ c.triple_at.ensures c.step_of-in-21060.ensures

-- FL
pub returns-in-17996 : goal.returns-in-17996
unfolding shape_of
returns-in-17996 g c there =
    step_word c.args.s.now c.args.at _ c.requires.word c.word_at.ensures 70 76 (lit< tt)
    (c.type_inv.s (c.args.at + 1)).fits c.in-17996.is
    ∙ made_of_three _ _ _ _ there Flush _ (λ n y made. search rules) _ c.triple_at-in-17996.ensures c.step_of-in-17996.ensures

-- WR
pub returns-in-22354 : goal.returns-in-22354
unfolding shape_of
returns-in-22354 g c there =
    step_word c.args.s.now c.args.at _ c.requires.word c.word_at.ensures 87 82 (lit< tt)
    (c.type_inv.s (c.args.at + 1)).fits c.in-22354.is
    ∙ after_three _ _ _ _ there (λ a b d. one (Write a b d)) _ c.triple_at-in-22354.ensures c.write_from.ensures

-- XX
pub returns-in-22616 : goal.returns-in-22616
unfolding shape_of shaped
returns-in-22616 g c there =
    step_word c.args.s.now c.args.at _ c.requires.word c.word_at.ensures 88 88 (lit< tt)
    (c.type_inv.s (c.args.at + 1)).fits c.in-22616.is

-- RP
pub returns-in-21072 : goal.returns-in-21072
unfolding shape_of
returns-in-21072 g c there =
    step_word c.args.s.now c.args.at _ c.requires.word c.word_at.ensures 82 80 (lit< tt)
    (c.type_inv.s (c.args.at + 1)).fits c.in-21072.is
    ∙ made_of_one _ _ _ _ there Report _ (λ n y made. search rules) _ c.one_at.ensures.s_value c.step_of-in-21072.ensures

-- EN
pub returns-in-17742 : goal.returns-in-17742
unfolding shape_of shaped
returns-in-17742 g c there =
    step_word c.args.s.now c.args.at _ c.requires.word c.word_at.ensures 69 78 (lit< tt)
    (c.type_inv.s (c.args.at + 1)).fits c.in-17742.is

-- BT
pub returns-in-16980 : goal.returns-in-16980
unfolding shape_of
returns-in-16980 g c there =
    step_word c.args.s.now c.args.at _ c.requires.word c.word_at.ensures 66 84 (lit< tt)
    (c.type_inv.s (c.args.at + 1)).fits c.in-16980.is
    ∙ made_of_one _ _ _ _ there Restart _ (λ n y made. search rules) _ c.one_at-in-16980.ensures.s_value c.step_of-in-16980.ensures

-- EM
pub returns-in-17741 : goal.returns-in-17741
unfolding shape_of
returns-in-17741 g c there =
    step_word c.args.s.now c.args.at _ c.requires.word c.word_at.ensures 69 77 (lit< tt)
    (c.type_inv.s (c.args.at + 1)).fits c.in-17741.is
    ∙ made_of_two _ _ _ _ there Embargo _ (λ n y made. search rules) _ c.pair_at-in-17741.ensures.by_index c.step_of-in-17741.ensures

-- LF
pub returns-in-19526 : goal.returns-in-19526
unfolding shape_of
returns-in-19526 g c there =
    step_word c.args.s.now c.args.at _ c.requires.word c.word_at.ensures 76 70 (lit< tt)
    (c.type_inv.s (c.args.at + 1)).fits c.in-19526.is
    ∙ made_of_one _ _ _ _ there Lift _ (λ n y made. search rules) _ c.one_at-in-19526.ensures.s_value c.step_of-in-19526.ensures

-- none of the words
pub returns-in_default : goal.returns-in_default
returns-in_default g c there =
    step_unknown c.args.s.now c.args.at _ c.requires.word c.word_at.ensures (
      λ e. omega arith,
      (
        λ e. omega arith,
        (
          λ e. omega arith,
          (
            λ e. omega arith,
            (
              λ e. omega arith,
              (
                λ e. omega arith,
                (
                  λ e. omega arith,
                  (λ e. omega arith, (λ e. omega arith, (λ e. omega arith, (λ e. omega arith, (λ e. omega arith, (λ e. omega arith, (λ e. omega arith, tt))))))),
                ),
              ),
            ),
          ),
        ),
      ),
    )

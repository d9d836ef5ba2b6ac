-- `put_to_four` meets its contract: a digit in front stays if the number has it. Assumes nothing.
use mathlib.Core.Path.{sym, ap, ◌∙◌}
use mathlib.Core.List.{[], ◌∷◌}
use native.Mathlib.Omega.{arith}
use lib.Dec.{ltb}
use Rattle.stepfile.proofs.Decimals.{decimal_small}
use Rattle.writer.proofs.Buffers.{wrote_then, wrote_as, wrote_leading}
use Rattle.writer.proofs.Digits.{thousands, hundreds, tens, ones, some_digits, leading_digits}
use Rattle.writer.proofs.decimal.put_to_four.Goals as goal

pub returns-then-n-lt10-clause-wrote : goal.returns-then-n-lt10-clause-wrote
returns-then-n-lt10-clause-wrote c =
    wrote_as (ap (λ k. k ∷ []) c.digit.ensures ∙ sym (decimal_small _ c.if-n-lt10.true)) c.put_byte.ensures.wrote

pub returns-clause-wrote : goal.returns-clause-wrote
returns-clause-wrote c =
    let n = c.args.n in
    let h = c.requires.n_bound in
    let is = c.four_bytes-bytes.ensures in
    let second = c.put_leading-second.ensures in
    let third = c.put_leading-third.ensures in
    let last =
    wrote_then (wrote_as (ap (λ k. k ∷ []) (c.low_byte-3.ensures ∙ tens n _ h is)) c.put_byte-fourth.ensures.wrote)
    (wrote_as (ap (λ k. k ∷ []) (c.low_byte-4.ensures ∙ ones n _ h is)) c.put_byte-2.ensures.wrote) in
    wrote_as (leading_digits n c.if-n-lt10.false h)
    (wrote_leading _ _ _ _ (omega arith) (some_digits n) (ltb 999 n) (c.low_byte.ensures ∙ thousands n _ h is) second.out_after second.value
    (wrote_leading _ _ _ _ (omega arith) (omega arith) (ltb 99 n) (c.low_byte-2.ensures ∙ hundreds n _ h is) third.out_after third.value last))

-- `put_four` meets its contract: four digits, one after the other. Assumes nothing.
use mathlib.Core.Path.{ap, ◌∙◌}
use mathlib.Core.List.{[], ◌∷◌}
use Rattle.writer.proofs.Buffers.{wrote_then, wrote_as}
use Rattle.writer.proofs.Digits.{thousands, hundreds, tens, ones}
use Rattle.writer.proofs.decimal.put_four.Goals as goal

pub returns-clause-wrote : goal.returns-clause-wrote
returns-clause-wrote c =
    let n = c.args.n in
    let h = c.requires.n_bound in
    let is = c.four_bytes-bytes.ensures in
    wrote_then (wrote_as (ap (λ k. k ∷ []) (c.low_byte.ensures ∙ thousands n _ h is)) c.put_byte-second.ensures.wrote)
    (wrote_then (wrote_as (ap (λ k. k ∷ []) (c.low_byte-2.ensures ∙ hundreds n _ h is)) c.put_byte-third.ensures.wrote)
    (wrote_then (wrote_as (ap (λ k. k ∷ []) (c.low_byte-3.ensures ∙ tens n _ h is)) c.put_byte-fourth.ensures.wrote)
    (wrote_as (ap (λ k. k ∷ []) (c.low_byte-4.ensures ∙ ones n _ h is)) c.put_byte.ensures.wrote)))

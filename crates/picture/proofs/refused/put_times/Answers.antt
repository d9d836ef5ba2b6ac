-- `put_times` meets its contract: after so many numbers their lines are written. Assumes nothing.
use mathlib.Core.Path.{refl, sym, ◌∙◌, ap}
use native.Mathlib.Omega.{arith}
use Rattle.picture.specs.Picture.{times_text}
use Rattle.writer.proofs.Buffers.{wrote_none, wrote_then, wrote_as}
use Rattle.picture.proofs.Parts.{times_next}
use Rattle.picture.proofs.refused.put_times.Goals as goal

pub loop-number-init : goal.loop-number-init
unfolding times_text
loop-number-init c = (wrote_none _ _ (omega arith), omega arith, omega arith, refl)

pub loop-number-preserved : goal.loop-number-preserved
loop-number-preserved c =
    let put = c.put_refused-next in
    let inv = c.loop-number.invariant in (
      wrote_as (sym (times_next _ _)) (wrote_then inv.0 put.ensures.wrote),
      omega arith,
      omega arith,
      put.auto.out ∙ inv.3,
    )

pub returns-clause-wrote : goal.returns-clause-wrote
returns-clause-wrote c = wrote_as (ap (times_text c.args.counts) (omega arith)) c.loop-number.invariant.0

-- `put_asides` meets its contract: after so many clients their lines are written. Assumes nothing.
use mathlib.Core.Path.{refl, sym, ◌∙◌}
use native.Mathlib.Omega.{arith}
use Rattle.writer.proofs.Buffers.{wrote_none, wrote_then, wrote_as}
use Rattle.picture.proofs.Parts.{asides_from, asides_next, asides_all}
use Rattle.picture.proofs.picture.put_asides.Goals as goal

pub loop-client-init : goal.loop-client-init
unfolding asides_from
loop-client-init c = (wrote_none _ _ (omega arith), omega arith)

pub loop-client-preserved : goal.loop-client-preserved
loop-client-preserved c =
    let put = c.put_aside_if-next in
    let inv = c.loop-client.invariant in (
      wrote_as (sym (asides_next _ _ _ _ _ _)) (wrote_then inv.0 put.ensures.wrote),
      omega arith,
    )

pub returns-clause-wrote : goal.returns-clause-wrote
returns-clause-wrote c =
    wrote_as (asides_all c.args.state _ _ c.in_force-sizes.ensures.value (omega arith)) c.loop-client.invariant.0

-- `put_files` meets its contract: after so many files their lines are written. Assumes nothing.
use mathlib.Core.Path.{refl, sym, ◌∙◌}
use native.Mathlib.Omega.{arith}
use Rattle.writer.proofs.Buffers.{wrote_none, wrote_then, wrote_as}
use Rattle.picture.proofs.Parts.{files_from, files_next, files_all}
use Rattle.picture.proofs.picture.put_files.Goals as goal

pub loop-file-init : goal.loop-file-init
unfolding files_from
loop-file-init c = (wrote_none _ _ (omega arith), omega arith)

pub loop-file-preserved : goal.loop-file-preserved
loop-file-preserved c =
    let put = c.put_file-next in
    let inv = c.loop-file.invariant in (
      wrote_as (sym (files_next _ _ _ _ _ _ _)) (wrote_then inv.0 put.ensures.wrote),
      omega arith,
    )

pub returns-clause-wrote : goal.returns-clause-wrote
returns-clause-wrote c =
    wrote_as (files_all c.args.state _ _ c.in_force-sizes.ensures.value (omega arith)) c.loop-file.invariant.0

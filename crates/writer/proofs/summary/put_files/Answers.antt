-- `put_files` meets its contract: after so many files their lines are written. Assumes nothing.
use mathlib.Core.Path.{◌≡◌, refl, sym, ◌∙◌, ap}
use native.Mathlib.Omega.{arith}
use Rattle.stepfile.specs.Summary.{files_text}
use Rattle.writer.proofs.Buffers.{wrote_none, wrote_then, wrote_as}
use Rattle.writer.proofs.Summaries.{files_next}
use Rattle.writer.proofs.summary.put_files.Goals as goal

pub loop-file-init : goal.loop-file-init
unfolding files_text
loop-file-init c = (wrote_none _ _ (omega arith), omega arith)

pub loop-file-preserved : goal.loop-file-preserved
loop-file-preserved c =
    let turn = c.loop-file in
    let put = c.put_file-next in (
      wrote_as (sym (files_next _ _ _)) (wrote_then turn.invariant.0 put.ensures.wrote),
      omega arith,
    )

pub returns-clause-wrote : goal.returns-clause-wrote
returns-clause-wrote c =
    let a = c.args in
    let all : c.loop-file.file ≡ a.sizes.files = omega arith in
    wrote_as (ap (λ k. files_text a.sizes.clients k a.table.files) all) c.loop-file.invariant.0

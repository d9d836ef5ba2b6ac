-- `drop_files` meets its contract: file by file. Assumes nothing.
use Rattle.std.proofs.Common.{◌≡◌, sym, ◌∙◌, arith}
use native.Mathlib.Numerals.{add-one}
use Rattle.protocol.specs.declared.reply.Reply.TheVariants.{Done}
use Rattle.service.proofs.EmbargoServing.{drops_none, drops_as, drops_next}
use Rattle.service.proofs.embargo.drop_files.Goals as goal

pub loop-file-init : goal.loop-file-init
loop-file-init c = (omega arith, drops_none _ _ _ _)

pub drop_file-requires-clause-table_len : goal.drop_file-requires-clause-table_len
drop_file-requires-clause-table_len c = c.loop-file.invariant.1.long ∙ c.requires.table_len

pub loop-file-preserved : goal.loop-file-preserved
loop-file-preserved c =
    let below = c.loop-file-test.true in (
      omega (arith, below),
      drops_as (sym (add-one _)) (drops_next c.requires.permitted below c.loop-file.invariant.1 _ _ Done c.drop_file.ensures),
    )

pub returns : goal.returns
returns c =
    let past = c.loop-file-test.false in
    let upto = c.loop-file.invariant.0 in
    let all : c.loop-file.file ≡ c.args.sizes.files = omega (arith, past, upto) in
    drops_as all c.loop-file.invariant.1

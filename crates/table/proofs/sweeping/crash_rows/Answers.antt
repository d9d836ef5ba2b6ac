-- `crash_rows` meets its contract. Assumes nothing.
use Rattle.std.proofs.Common.{ap, arith}
use Rattle.protocol.specs.declared.entry.Entry.{Entry}
use Rattle.protocol.specs.Entry.{crashed_entry}
use Rattle.table.proofs.SweptRows.{sweeps_none, sweeps_more, sweeps_all, not_swept}
use Rattle.table.proofs.sweeping.crash_rows.Goals as goal

pub loop-f-init : goal.loop-f-init
loop-f-init c = (omega arith, sweeps_none)

pub loop-f-preserved : goal.loop-f-preserved
loop-f-preserved c = (
  omega arith,
  sweeps_more c.loop-f.invariant.1
      (ap (λ (e : Entry). crashed_entry c.args.sizes.clients e) (not_swept c.loop-f.invariant.1 c.loop-f.f (omega arith)))
      c.crash_row.ensures,
)

pub returns : goal.returns
returns c = sweeps_all c.loop-f.invariant.0 c.loop-f-test.false c.loop-f.invariant.1

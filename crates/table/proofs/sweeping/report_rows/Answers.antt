-- `report_rows` meets its contract. Assumes nothing.
use Rattle.std.proofs.Common.{arith}
use Rattle.table.proofs.SweptRows.{sweeps_none, sweeps_more, sweeps_all, reported_next}
use Rattle.table.proofs.sweeping.report_rows.Goals as goal

pub loop-f-init : goal.loop-f-init
loop-f-init c = (omega arith, sweeps_none)

pub loop-f-preserved : goal.loop-f-preserved
loop-f-preserved c = (
  omega arith,
  sweeps_more c.loop-f.invariant.1
      (reported_next c.args.client c.requires.client_lt_max_clients c.loop-f.invariant.1) c.report_row.ensures,
)

pub returns : goal.returns
returns c = sweeps_all c.loop-f.invariant.0 c.loop-f-test.false c.loop-f.invariant.1

-- `crash` meets its contract, field by field. Assumes nothing.
use Rattle.table.specs.Recovery.{recovery_step}
use Rattle.table.proofs.recovery.Recovery.crash.Goals as goal

pub returns : goal.returns
unfolding recovery_step
returns c = λ clash. rw c.without_reports.ensures

-- `with_versions` meets its contract: after f turns f entries have the versions of the others. Assumes nothing.
use Rattle.decision.proofs.Storing.{stored_none, stored_more, stored_all, not_yet}
use Rattle.table.specs.TableStep.{no_entry}
use Rattle.restore.specs.Reading.{with_version}
use Rattle.restore.proofs.reading.with_versions.Goals as goal

pub loop-f-init : goal.loop-f-init
loop-f-init c = stored_none

pub loop-f-preserved : goal.loop-f-preserved
loop-f-preserved c =
    let entry = not_yet no_entry c.loop-f.invariant in
    stored_more c.loop-f.invariant c.loop-f-test.true (λ k. with_version (entry k) (c.as_read.ensures k))

pub returns : goal.returns
returns c = stored_all c.loop-f.invariant c.loop-f-test.false

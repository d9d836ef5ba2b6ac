-- `held_files` meets its contract. Assumes nothing.
use mathlib.Core.Path.{refl, ◌∙◌}
use Rattle.sizes.specs.Sizes.{max_files}
use Rattle.decision.proofs.Storing.{stored_none, stored_more, stored_all}
use Rattle.table.specs.TableStep.{no_entry}
use Rattle.service.proofs.Copying.{stored_listed}
use Rattle.service.proofs.holding.held_files.Goals as goal

pub loop-f-init : goal.loop-f-init
loop-f-init c = stored_none

pub loop-f-preserved : goal.loop-f-preserved
loop-f-preserved c = stored_more c.loop-f.invariant c.loop-f-test.true c.entry_at-entry.ensures

pub returns : goal.returns
returns c = stored_all c.loop-f.invariant c.loop-f-test.false ∙ stored_listed max_files no_entry _ _ refl

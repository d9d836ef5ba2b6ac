-- `opened_by` meets its contract: after f files theirs are stored. Assumes nothing.
use mathlib.Core.Path.{ap, ◌∙◌}
use Rattle.records.specs.Record.{is_open}
use Rattle.decision.proofs.Storing.{stored_none, stored_more, stored_all}
use Rattle.protocol.specs.declared.client.ClientFile.{ClientFile}
use Rattle.sentences.proofs.forgotten.opened_by.Goals as goal

pub loop-f-init : goal.loop-f-init
loop-f-init c = stored_none

pub loop-f-preserved : goal.loop-f-preserved
loop-f-preserved c =
    stored_more c.loop-f.invariant c.loop-f-test.true
    (c.is_open.ensures ∙ ap (λ (x : ClientFile). is_open x.opens) c.side_in-side.ensures)

pub returns : goal.returns
returns c = stored_all c.loop-f.invariant c.loop-f-test.false

-- `read_at` meets its contract: a step with LF after it is a line, and where there is none at the offset the line is no
-- step. Assumes nothing.
use mathlib.Core.Path.{◌∙◌}
use Rattle.reader.proofs.LineFeeds.{reads-missing, reads_short, reads-longer, reads-line}
use Rattle.reader.proofs.line.read_at.Goals.{in_default-via-in-Some+then-found-input+else-input-found-eq10}
use Rattle.reader.proofs.line.read_at.Goals.{in_default-via-in-Some+else-found-input, in_default-via-in_default}
use Rattle.reader.proofs.line.read_at.Goals as goal

pub returns-in-Some : goal.returns-in-Some
returns-in-Some c =
    reads-line c.args.input.now c.args.at _ c.step_at.ensures _ c.in-Some.is c.if-found-input.true c.if-input-found-eq10.true

pub returns-in_default : goal.returns-in_default
returns-in_default c =
    c.no_step_at.ensures
    ∙ elim c.in_default.branch [
      | in_default-via-in-Some+then-found-input+else-input-found-eq10 w ↦
          reads-longer c.args.input.now c.args.at _ c.step_at.ensures _ w.in-Some.is w.if-found-input.true w.if-input-found-eq10.false
      | in_default-via-in-Some+else-found-input w ↦
          reads_short c.args.input.now c.args.at _ c.step_at.ensures _ w.in-Some.is w.if-found-input.false
      | in_default-via-in_default w ↦ reads-missing c.args.input.now c.args.at _ c.step_at.ensures w.in_default.is
    ]

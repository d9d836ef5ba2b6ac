-- `read_line` meets its contract: the step takes all of the line, or the line is no step. Assumes nothing.
use mathlib.Core.Path.{◌∙◌}
use Rattle.reader.proofs.Whole.{line_missing, line-longer, line-whole}
use Rattle.reader.proofs.line.read_line.Goals as goal

pub returns-in_err-found : goal.returns-in_err-found
returns-in_err-found c = c.from_residual.ensures ∙ line_missing _ _ c.step_at.ensures c.in_err-found.was

pub returns-then-found-line : goal.returns-then-found-line
returns-then-found-line c = line-longer _ _ c.step_at.ensures _ c.in_ok-found.was c.if-found-line.true

pub returns : goal.returns
returns c = line-whole _ _ c.step_at.ensures _ c.in_ok-found.was c.if-found-line.false

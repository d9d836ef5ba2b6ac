-- `put_summary` meets its contract: the heading, then the lines of the files. Assumes nothing.
use mathlib.Core.Path.{ap}
use Rattle.stepfile.specs.Summary.{heading_text, summary_text}
use Rattle.writer.proofs.Buffers.{wrote_then, wrote_as}
use Rattle.writer.proofs.summary.put_summary.Goals as goal

pub returns-clause-wrote : goal.returns-clause-wrote
unfolding summary_text
returns-clause-wrote c =
    wrote_then (wrote_as (ap heading_text c.count_listed.ensures) c.put_heading-lines.ensures.wrote) c.put_files.ensures.wrote

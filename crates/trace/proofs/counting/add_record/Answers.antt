-- `add_record` meets its contract: `count` on the record's numbers. Assumes nothing.
use Rattle.trace.specs.Counted.{counted}
use Rattle.trace.proofs.counting.add_record.Goals as goal

pub returns : goal.returns
unfolding counted
returns c = rw (← c.from.ensures, ← c.kind_number.ensures, ← c.outcome_number.ensures) c.count.ensures

-- `places_granted` meets its contract: where it is none, nobody stands in any place. Assumes nothing.
use mathlib.Core.Path.{sym, ap}
use native.Mathlib.Omega.{arith}
use lib.Seq.{take_all}
use Rattle.sizes.specs.Sizes.{max_files}
use Rattle.trace.specs.Records.{open_records}
use Rattle.trace.proofs.Told.{none_beside, length_beside}
use Rattle.trace.proofs.tracing.places_granted.Goals as goal

pub returns-then-letter-count-clause-by_index : goal.returns-then-letter-count-clause-by_index
returns-then-letter-count-clause-by_index c words =
    ap open_records (take_all max_files _ (omega (arith, length_beside c.args.said words)))

pub returns-else-letter-count-clause-by_index : goal.returns-else-letter-count-clause-by_index
unfolding open_records
returns-else-letter-count-clause-by_index c words = sym (none_beside c.args.said words (rw c.letter_of-letter.ensures at c.if-letter-count.false))

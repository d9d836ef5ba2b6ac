-- From the offset, with the number so far, the digits give what they give from the first offset.
use mathlib.Core.Path.{◌≡◌}
use lib.ListN.{drop}
use Rattle.stepfile.specs.Grammar.{digits_on}
use Rattle.reader.proofs.number.digits_from.Given as goal

abbrev pub invariant-loop-i : goal.invariant-loop-i
invariant-loop-i l = digits_on l.so_far (drop l.from l.s) ≡ digits_on l.value (drop l.i l.s)

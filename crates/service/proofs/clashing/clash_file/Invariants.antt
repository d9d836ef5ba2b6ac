-- What the loop of `clash_file` keeps: none of the files before the one that it has come to has a clash.
use Prim.Native.Nat.{◌-◌, ◌≤◌}
use mathlib.Core.Bool.{false}
use lib.ListN.{get_or}
use Rattle.decision.proofs.Finding.{NoneBelow}
use Rattle.service.proofs.Reporting.{clashes_here}
use Rattle.service.proofs.clashing.clash_file.Given as goal

abbrev pub invariant-loop-f : goal.invariant-loop-f
invariant-loop-f l =
    (l.f ≤ l.sizes.files)
    × NoneBelow l.f (clashes_here l.sizes.clients l.client (λ j. get_or l.flags j false) l.table)

abbrev pub decreases-loop-f : goal.decreases-loop-f
decreases-loop-f l = l.sizes.files - l.f

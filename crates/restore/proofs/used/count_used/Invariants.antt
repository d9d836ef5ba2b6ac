-- After so many files the sum is how many of their blocks are used.
use Prim.Native.Nat.{◌*◌, ◌≤◌}
use mathlib.Core.Path.{◌≡◌}
use mathlib.Core.Bool.{false}
use lib.ListN.{get_or}
use Rattle.sizes.specs.Sizes.{place}
use Rattle.decision.specs.Lists.{count}
use Rattle.service.specs.Space.{sum_below}
use Rattle.restore.proofs.used.count_used.Given as goal

abbrev pub invariant-loop-f : goal.invariant-loop-f
invariant-loop-f l =
    (l.f ≤ l.sizes.files)
    × (l.total ≡ sum_below l.f (λ f. count l.sizes.blocks (λ b. get_or l.used (place f b) false)))
    × (l.total ≤ 8 * l.f)

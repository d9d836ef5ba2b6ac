-- What the loop of `clashes_with` keeps: none of the clients before the one that it has come to clashes.
use Prim.Native.Nat.{◌≤◌}
use mathlib.Core.Bool.{false, ◌&&◌}
use lib.ListN.{get_or}
use Rattle.decision.proofs.Finding.{NoneBelow}
use Rattle.protocol.specs.Clash.{clash, accepted_of}
use Rattle.words.specs.Rows.{entry_held}
use Rattle.service.proofs.clashing.clashes_with.Given as goal

abbrev pub invariant-loop-j : goal.invariant-loop-j
invariant-loop-j l =
    (l.j ≤ l.clients)
    × NoneBelow l.j (λ i. get_or l.flags i false && clash l.own (accepted_of (entry_held l.table l.f) i))

-- What the loop of `next_said` keeps: of the files before the one that it has come to the words say nothing.
use Prim.Native.Nat.{◌≤◌}
use Rattle.service.specs.Served.{Silent}
use Rattle.service.proofs.clashing.next_said.Given as goal

abbrev pub invariant-loop-f : goal.invariant-loop-f
invariant-loop-f l = (l.from ≤ l.f) × (l.f ≤ l.files) × Silent l.client l.from l.f l.table

-- After b blocks the sum is how many of them are dirty.
use Rattle.std.proofs.Common.{◌+◌, ◌-◌, false, get_or}
use Rattle.decision.proofs.Counting.{Counted}
use Rattle.blocks.proofs.blocks.count_dirty.Given as goal

abbrev pub invariant-loop-b : goal.invariant-loop-b
invariant-loop-b l = Counted l.count (λ k. get_or l.fn.dirty (l.base + k) false) l.found l.b

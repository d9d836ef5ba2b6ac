-- After i numbers as many are found as pass among them.
use Rattle.std.proofs.Common.{ℕ, Bool, ◌≡◌, ◌<◌, ◌≤◌}
use Rattle.decision.specs.Lists.{count}
use Rattle.decision.proofs.Counting.{Counted}
use Rattle.decision.proofs.below.count_below.Given as goal

abbrev pub invariant-loop-i : goal.invariant-loop-i
invariant-loop-i g l = record {
  passed : l.i ≤ l.fn.n;
  small : l.found ≤ l.i;
  counts : (p : ℕ → Bool) → ((i : ℕ) (b : Bool) → i < l.fn.n → goal.F-post g l.test i b → b ≡ p i) → Counted l.fn.n p l.found l.i;
}

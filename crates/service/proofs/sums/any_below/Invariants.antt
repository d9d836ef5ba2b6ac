-- After i numbers it is known of them.
use Rattle.std.proofs.Common.{ℕ, Bool, ◌≡◌, ◌<◌}
use Rattle.service.proofs.Counting.{Asked}
use Rattle.service.proofs.sums.any_below.Given as goal

abbrev pub invariant-loop-i : goal.invariant-loop-i
invariant-loop-i g l =
    (p : ℕ → Bool)
    → ((i : ℕ) (b : Bool) → i < l.fn.n → goal.F-post g l.test i b → b ≡ p i)
    → Asked l.fn.n p l.found l.i

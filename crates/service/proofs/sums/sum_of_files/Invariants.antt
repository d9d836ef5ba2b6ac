-- After f files the sum is what is counted of them.
use Rattle.std.proofs.Common.{ℕ, ◌≡◌, ◌<◌, ◌≤◌, ◌*◌}
use Rattle.sizes.specs.Sizes.{max_blocks}
use Rattle.service.proofs.Counting.{Summed}
use Rattle.service.proofs.sums.sum_of_files.Given as goal

abbrev pub invariant-loop-f : goal.invariant-loop-f
invariant-loop-f g l = record {
  small : l.sum ≤ l.f * max_blocks;
  sums : (of : ℕ → ℕ)
      → ((f k : ℕ) → f < l.fn.n → goal.F-post g l.of f k → k ≡ of f)
      → Summed l.fn.n of l.sum l.f;
}

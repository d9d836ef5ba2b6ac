-- After i bytes the rest completes the number.
use Prim.Native.Nat.{ℕ, ◌+◌, ◌-◌}
use mathlib.Core.Path.{◌≡◌}
use mathlib.Core.List.{List}
use lib.ListN.{length}
use Rattle.writer.specs.Buffer.{Wrote}
use Rattle.image.specs.Bytes.{low}
use Rattle.image.proofs.numbers.put_low.Given as goal

abbrev pub invariant-loop-i : goal.invariant-loop-i
invariant-loop-i g l = record {
  same : length l.out ≡ length l.fn.out;
  offset : l.next ≡ l.at + l.i;
  completes : (d : List ℕ) (past : ℕ) → Wrote l.out l.next (low (g.row.N - l.i) l.rest) d past → Wrote l.fn.out l.at (low g.row.N l.fn.n) d past;
}

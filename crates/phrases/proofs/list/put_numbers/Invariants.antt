-- After so many numbers those of them that pass are written.
use Rattle.std.proofs.Common.{ℕ, Bool, ◌≡◌, ◌<◌, ◌+◌, ◌*◌, ◌≤◌}
use Rattle.writer.specs.Buffer.{Wrote}
use Rattle.phrases.specs.Phrase.{numbers_text}
use Rattle.phrases.proofs.list.put_numbers.Given as goal

abbrev pub invariant-loop-i : goal.invariant-loop-i
invariant-loop-i g l = record {
  room : l.next ≤ l.at + 21 * l.i;
  wrote : (p : ℕ → Bool)
      → ((i : ℕ) (b : Bool) → i < l.fn.n → goal.F-post g l.test i b → b ≡ p i)
      → Wrote l.fn.out l.at (numbers_text l.i p) l.out l.next;
}

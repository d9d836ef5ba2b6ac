-- After so many numbers their lines are written.
use Prim.Native.Nat.{◌+◌, ◌-◌, ◌*◌, ◌≤◌}
use mathlib.Core.Path.{◌≡◌}
use lib.ListN.{length}
use Rattle.ledger.specs.Refusals.{refusal_numbers}
use Rattle.writer.specs.Buffer.{Wrote}
use Rattle.picture.specs.Picture.{times_text}
use Rattle.picture.proofs.refused.put_times.Given as goal

abbrev pub invariant-loop-number : goal.invariant-loop-number
invariant-loop-number l =
    Wrote l.fn.out l.at (times_text l.fn.counts l.number) l.out l.next
    × (l.number ≤ refusal_numbers)
    × (l.next ≤ l.at + 56 * l.number)
    × (length l.out ≡ length l.fn.out)

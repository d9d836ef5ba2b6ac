-- After so many files their losses are told.
use Prim.Native.Nat.{◌+◌, ◌-◌, ◌*◌, ◌≤◌}
use mathlib.Core.List.{[]}
use Rattle.blocks.specs.Stores.{lent, dirty_in}
use Rattle.ledger.specs.Ledger.{entered, copied_at}
use Rattle.writer.specs.Buffer.{Wrote}
use Rattle.phrases.specs.Accepted.{losses_below}
use Rattle.picture.proofs.aside.put_wasted.Given as goal

abbrev pub invariant-loop-file : goal.invariant-loop-file
invariant-loop-file l =
    Wrote l.fn.out l.at
    (losses_below (dirty_in (lent [] [] [] l.dirty) l.client) (copied_at (entered [] [] l.copied []) l.client) l.sizes.blocks
    l.file)
    l.out l.next
    × (l.next ≤ l.at + 664 * l.file)

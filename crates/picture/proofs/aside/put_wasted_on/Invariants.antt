-- After so many blocks their losses are told.
use Prim.Native.Nat.{ℕ, ◌+◌, ◌-◌, ◌*◌, ◌≤◌}
use mathlib.Core.List.{List, []}
use Rattle.blocks.specs.Stores.{lent, dirty_in}
use Rattle.ledger.specs.Ledger.{entered, copied_at}
use Rattle.writer.specs.Buffer.{Wrote}
use Rattle.phrases.specs.Accepted.{losses_on}
use Rattle.picture.proofs.aside.put_wasted_on.Given as goal

abbrev pub invariant-loop-block : goal.invariant-loop-block
invariant-loop-block l =
    ((d told : List ℕ)
    → Wrote d l.start told l.fn.out l.at
    → Wrote d l.start
    (losses_on (dirty_in (lent [] [] [] l.dirty) l.client) (copied_at (entered [] [] l.copied []) l.client) l.file l.block told)
    l.out l.next)
    × (l.next ≤ l.at + 83 * l.block)

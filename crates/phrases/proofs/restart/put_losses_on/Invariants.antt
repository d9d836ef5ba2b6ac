-- After so many blocks their losses are told.
use Prim.Native.Nat.{ℕ, ◌+◌, ◌-◌, ◌*◌, ◌≤◌}
use mathlib.Core.List.{List}
use Rattle.writer.specs.Buffer.{Wrote}
use Rattle.phrases.specs.Accepted.{losses_on}
use Rattle.phrases.proofs.Losses.{at_risk, line_of}
use Rattle.phrases.proofs.restart.put_losses_on.Given as goal

abbrev pub invariant-loop-block : goal.invariant-loop-block
invariant-loop-block l =
    ((d told : List ℕ)
    → Wrote d l.start told l.fn.out l.at
    → Wrote d l.start
    (losses_on (at_risk l.fn.ledger l.client) (line_of l.fn.ledger) l.file l.block told)
    l.out l.next)
    × (l.next ≤ l.at + 83 * l.block)

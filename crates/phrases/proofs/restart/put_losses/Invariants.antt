-- After so many files their losses are told.
use Prim.Native.Nat.{◌+◌, ◌-◌, ◌*◌, ◌≤◌}
use Rattle.writer.specs.Buffer.{Wrote}
use Rattle.phrases.specs.Accepted.{losses_below}
use Rattle.phrases.proofs.Losses.{at_risk, line_of}
use Rattle.phrases.proofs.restart.put_losses.Given as goal

abbrev pub invariant-loop-file : goal.invariant-loop-file
invariant-loop-file l =
    Wrote l.fn.out l.at
    (losses_below (at_risk l.fn.ledger l.client) (line_of l.fn.ledger) l.blocks l.file)
    l.out l.next
    × (l.next ≤ l.at + 664 * l.file)

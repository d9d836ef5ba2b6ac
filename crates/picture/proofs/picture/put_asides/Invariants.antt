-- After so many clients their lines are written.
use Prim.Native.Nat.{◌+◌, ◌-◌, ◌*◌, ◌≤◌}
use Rattle.writer.specs.Buffer.{Wrote}
use Rattle.picture.proofs.Parts.{asides_from}
use Rattle.picture.proofs.picture.put_asides.Given as goal

abbrev pub invariant-loop-client : goal.invariant-loop-client
invariant-loop-client l =
    Wrote l.fn.out l.at (asides_from l.sizes l.service.server.table.embargoed l.service.dirty l.ledger.copied l.ledger.since l.client) l.out l.next
    × (l.next ≤ l.at + 42588 * l.client)

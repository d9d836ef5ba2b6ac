-- After so many files their lines are written.
use Prim.Native.Nat.{◌+◌, ◌-◌, ◌*◌, ◌≤◌}
use Rattle.writer.specs.Buffer.{Wrote}
use Rattle.picture.proofs.Parts.{files_from}
use Rattle.picture.proofs.picture.put_files.Given as goal

abbrev pub invariant-loop-file : goal.invariant-loop-file
invariant-loop-file l =
    Wrote l.fn.out l.at (files_from l.sizes l.service.server.table.files l.service.clients l.service.held l.service.dirty l.state.ledger.since l.file) l.out l.next
    × (l.next ≤ l.at + 4185 * l.file)

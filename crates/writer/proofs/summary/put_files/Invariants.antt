-- After so many files their lines are written.
use Prim.Native.Nat.{◌+◌, ◌-◌, ◌*◌, ◌≤◌}
use mathlib.Core.Path.{◌≡◌}
use lib.ListN.{length}
use Rattle.stepfile.specs.Summary.{files_text}
use Rattle.writer.specs.Buffer.{Wrote}
use Rattle.writer.proofs.summary.put_files.Given as goal

abbrev pub invariant-loop-file : goal.invariant-loop-file
invariant-loop-file l =
    Wrote l.fn.out l.at (files_text l.sizes.clients l.file l.fn.table.files) l.out l.next
    × (l.next ≤ l.at + 84 * l.file)

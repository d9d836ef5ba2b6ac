-- After so many files their grants are told.
use Prim.Native.Nat.{ℕ, ◌+◌, ◌*◌, ◌≤◌}
use mathlib.Core.Path.{◌≡◌}
use lib.ListN.{length}
use Rattle.ledger.specs.declared.lines.Lines.{Lines}
use Rattle.writer.specs.Buffer.{Wrote}
use Rattle.sentences.specs.Scene.{whole_held}
use Rattle.sentences.specs.Explained.{grants_text}
use Rattle.sentences.proofs.forgotten.put_grants.Given as goal

abbrev pub invariant-loop-f : goal.invariant-loop-f
invariant-loop-f l =
    ((lines : ℕ → ℕ → Lines)
    → Wrote l.fn.out l.at (grants_text l.sizes.clients (whole_held l.before l.table lines) l.client l.f) l.out l.next)
    × (l.f ≤ l.sizes.files)
    × (l.next ≤ l.at + 178 * l.f)
    × (length l.out ≡ length l.fn.out)

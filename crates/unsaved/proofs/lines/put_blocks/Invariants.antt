-- After so many blocks their lines are written.
use Prim.Native.Nat.{◌-◌}
use mathlib.Core.List.{[]}
use Rattle.blocks.specs.Stores.{lent, dirty_in}
use Rattle.image.specs.Bytes.{entry_if}
use Rattle.image.proofs.Listing.{Listing}
use Rattle.unsaved.specs.Unsaved.{line_text}
use Rattle.options.specs.Program.{number_of}
use Rattle.unsaved.proofs.lines.put_blocks.Given as goal

abbrev pub invariant-loop-block : goal.invariant-loop-block
invariant-loop-block l =
    Listing 122 (λ b. entry_if (dirty_in (lent [] [] [] l.dirty) l.client l.file b) (line_text (number_of l.program) l.client l.file b)) l.each l.fn.out l.at l.out l.next l.block

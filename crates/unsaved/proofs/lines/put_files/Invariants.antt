-- After so many files their lines are written.
use Prim.Native.Nat.{◌-◌}
use mathlib.Core.List.{[]}
use Rattle.blocks.specs.Stores.{lent, dirty_in}
use Rattle.image.proofs.Listing.{Listing}
use Rattle.unsaved.specs.Unsaved.{block_lines}
use Rattle.options.specs.Program.{number_of}
use Rattle.unsaved.proofs.lines.put_files.Given as goal

abbrev pub invariant-loop-file : goal.invariant-loop-file
invariant-loop-file l =
    Listing 976 (λ f. block_lines (number_of l.program) l.sizes.blocks (dirty_in (lent [] [] [] l.dirty)) l.client f) l.sizes.files l.fn.out l.at l.out l.next l.file

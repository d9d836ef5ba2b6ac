-- After so many clients their lines are written.
use Prim.Native.Nat.{◌-◌}
use mathlib.Core.List.{[]}
use Rattle.blocks.specs.Stores.{lent, dirty_in}
use Rattle.image.proofs.Listing.{Listing}
use Rattle.unsaved.specs.Unsaved.{file_lines}
use Rattle.options.specs.Program.{number_of}
use Rattle.unsaved.proofs.lines.put_clients.Given as goal

abbrev pub invariant-loop-client : goal.invariant-loop-client
invariant-loop-client l =
    Listing 62464 (λ i. file_lines (number_of l.program) l.sizes (dirty_in (lent [] [] [] l.dirty)) i) l.sizes.clients l.fn.out l.at l.out l.next l.client

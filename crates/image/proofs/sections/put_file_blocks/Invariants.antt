-- After so many blocks their entries are written.
use mathlib.Core.Bool.{false}
use lib.ListN.{get_or}
use Rattle.sizes.specs.Sizes.{place}
use Rattle.image.specs.Image.{block_entry}
use Rattle.image.proofs.Listing.{Listing}
use Rattle.image.proofs.sections.put_file_blocks.Given as goal

abbrev pub invariant-loop-block : goal.invariant-loop-block
invariant-loop-block l =
    Listing 10 (λ b. block_entry l.file b (get_or l.contents.used (place l.file b) false) (get_or l.contents.blocks (place l.file b) 0)) l.each l.fn.out l.at l.out l.next l.block

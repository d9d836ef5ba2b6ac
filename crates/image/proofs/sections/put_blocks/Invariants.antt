-- After so many files their blocks are written.
use Rattle.image.specs.Image.{file_blocks}
use Rattle.image.proofs.Listing.{Listing}
use Rattle.image.proofs.sections.put_blocks.Given as goal

abbrev pub invariant-loop-file : goal.invariant-loop-file
invariant-loop-file l =
    Listing 80 (λ f. file_blocks l.sizes.blocks f l.contents.used l.contents.blocks) l.sizes.files l.fn.out l.at l.out l.next l.file

-- After so many files their opens are written.
use Rattle.table.specs.TableStep.{entry_of}
use Rattle.image.specs.Image.{file_opens}
use Rattle.image.proofs.Listing.{Listing}
use Rattle.image.proofs.sections.put_opens.Given as goal

abbrev pub invariant-loop-file : goal.invariant-loop-file
invariant-loop-file l =
    Listing 40 (λ f. file_opens l.sizes.clients f (entry_of l.contents.files f)) l.sizes.files l.fn.out l.at l.out l.next l.file

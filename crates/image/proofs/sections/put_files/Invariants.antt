-- After so many files their entries are written.
use Rattle.table.specs.TableStep.{entry_of}
use Rattle.image.specs.Image.{file_entry}
use Rattle.image.proofs.Listing.{Listing}
use Rattle.image.proofs.sections.put_files.Given as goal

abbrev pub invariant-loop-file : goal.invariant-loop-file
invariant-loop-file l =
    Listing 6 (λ f. file_entry l.sizes.clients f (entry_of l.contents.files f)) l.sizes.files l.fn.out l.at l.out l.next l.file

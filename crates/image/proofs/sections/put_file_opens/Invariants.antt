-- After so many clients their opens are written.
use Rattle.protocol.specs.Entry.{record_at}
use Rattle.image.specs.Image.{open_entry}
use Rattle.image.proofs.Listing.{Listing}
use Rattle.image.proofs.sections.put_file_opens.Given as goal

abbrev pub invariant-loop-client : goal.invariant-loop-client
invariant-loop-client l =
    Listing 5 (λ i. open_entry i l.file (record_at l.fn.entry i)) l.clients l.fn.out l.at l.out l.next l.client

-- After so many clients those under embargo are written.
use Rattle.table.specs.TableStep.{is_embargoed}
use Rattle.image.specs.Image.{embargo_entry}
use Rattle.image.proofs.Listing.{Listing}
use Rattle.image.proofs.sections.put_embargoes.Given as goal

abbrev pub invariant-loop-client : goal.invariant-loop-client
invariant-loop-client l =
    Listing 1 (λ i. embargo_entry i (is_embargoed l.contents.embargoed i)) l.fn.sizes.clients l.fn.out l.at l.out l.next l.client

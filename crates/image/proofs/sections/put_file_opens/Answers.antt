-- `put_file_opens` meets its contract: after so many clients their opens are written. Assumes nothing.
use native.Mathlib.Omega.{arith}
use Rattle.image.proofs.Listing.{listing_none, listing-next}
use Rattle.image.proofs.sections.put_file_opens.Goals as goal

pub loop-client-init : goal.loop-client-init
loop-client-init c = listing_none (omega arith)

pub loop-client-preserved : goal.loop-client-preserved
loop-client-preserved c =
    let put = c.put_open-next in
    listing-next c.loop-client.invariant c.loop-client-test.true put.ensures.wrote put.ensures.upper_bound put.auto.out

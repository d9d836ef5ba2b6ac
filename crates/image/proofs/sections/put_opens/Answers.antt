-- `put_opens` meets its contract: after so many files their opens are written. Assumes nothing.
use native.Mathlib.Omega.{arith}
use Rattle.image.proofs.Listing.{listing_none, listing-next}
use Rattle.image.proofs.sections.put_opens.Goals as goal

pub loop-file-init : goal.loop-file-init
loop-file-init c = listing_none (omega arith)

pub loop-file-preserved : goal.loop-file-preserved
loop-file-preserved c =
    let put = c.put_file_opens-next in
    listing-next c.loop-file.invariant c.loop-file-test.true put.ensures.wrote put.ensures.upper_bound put.auto.out

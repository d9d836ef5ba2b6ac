-- `put_file_blocks` meets its contract: after so many blocks their entries are written. Assumes nothing.
use native.Mathlib.Omega.{arith}
use Rattle.image.proofs.Listing.{listing_none, listing-next}
use Rattle.image.proofs.sections.put_file_blocks.Goals as goal

pub loop-block-init : goal.loop-block-init
loop-block-init c = listing_none (omega arith)

pub loop-block-preserved : goal.loop-block-preserved
loop-block-preserved c =
    let put = c.put_block-next in
    listing-next c.loop-block.invariant c.loop-block-test.true put.ensures.wrote put.ensures.upper_bound put.auto.out

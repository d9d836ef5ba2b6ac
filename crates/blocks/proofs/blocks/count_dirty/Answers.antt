-- `count_dirty` meets its contract: after b blocks the sum is how many of them are dirty. Assumes nothing.
use Rattle.std.proofs.Common.{refl, arith}
use Rattle.decision.proofs.Counting.{counted_none, counted_next, counted_fits, counted_all_lem}
use Rattle.blocks.proofs.blocks.count_dirty.Goals as goal

pub loop-b-init : goal.loop-b-init
loop-b-init c = counted_none

pub overflow_add-found : goal.overflow_add-found
overflow_add-found c =
    omega (arith, counted_fits c.loop-b.invariant c.loop-b-test.true refl c.one_if-found.ensures)

pub loop-b-preserved : goal.loop-b-preserved
loop-b-preserved c = counted_next c.loop-b.invariant c.loop-b-test.true refl c.one_if-found.ensures

pub returns : goal.returns
returns c = counted_all_lem c.loop-b.invariant c.loop-b-test.false

-- `add_trace` meets its contract: each record of the trace is counted, one after the other. Assumes nothing.
use Rattle.std.proofs.Common.{arith, refl}
use Rattle.trace.specs.Counted.{counted_all}
use Rattle.trace.proofs.Numbers.{counts_as, counted_more, counted_whole}
use Rattle.trace.proofs.adding.add_trace.Goals as goal

pub loop-one-init : goal.loop-one-init
unfolding counted_all
loop-one-init c = (omega arith, refl, refl)

pub loop-one-preserved : goal.loop-one-preserved
loop-one-preserved c =
    (omega arith, c.loop-one.invariant.1, counted_more _ c.args.trace.now _ _ _ _ _ c.loop-one-test.true c.loop-one.invariant.2 c.add_record.ensures)

pub returns : goal.returns
returns c =
    let is = counted_whole c.args.stations c.args.trace.now _ _ _ c.loop-one-test.false c.loop-one.invariant.2 in
    (is, counts_as _ _ _ _ is)

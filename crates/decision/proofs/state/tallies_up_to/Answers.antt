-- `tallies_up_to` meets its contract: after i clients each sum is their tally. Assumes nothing.
use Rattle.std.proofs.Common.{arith}
use Rattle.decision.proofs.Counting.{counted_none, counted_next, counted_fits, counted_all_lem}
use Rattle.decision.proofs.state.tallies_up_to.Goals as goal

pub loop-i-init : goal.loop-i-init
loop-i-init c = (counted_none, counted_none, counted_none)

pub overflow_add-open : goal.overflow_add-open
overflow_add-open c =
    omega (arith, counted_fits c.loop-i.invariant.0 c.loop-i-test.true c.has.ensures c.one_if-open.ensures)

pub overflow_add-uncached : goal.overflow_add-uncached
overflow_add-uncached c =
    omega (arith, counted_fits c.loop-i.invariant.1 c.loop-i-test.true c.has-in-loop-i.ensures c.one_if-uncached.ensures)

pub overflow_add-writing : goal.overflow_add-writing
overflow_add-writing c =
    omega (arith, counted_fits c.loop-i.invariant.2 c.loop-i-test.true c.has-in-loop-i-2.ensures c.one_if-writing.ensures)

pub loop-i-preserved : goal.loop-i-preserved
loop-i-preserved c =
    let inv = c.loop-i.invariant in
    let more = c.loop-i-test.true in (
      counted_next inv.0 more c.has.ensures c.one_if-open.ensures,
      counted_next inv.1 more c.has-in-loop-i.ensures c.one_if-uncached.ensures,
      counted_next inv.2 more c.has-in-loop-i-2.ensures c.one_if-writing.ensures,
    )

pub returns : goal.returns
returns c =
    let inv = c.loop-i.invariant in
    let past = c.loop-i-test.false in
    λ k. record {
      «open» = counted_all_lem inv.0 past k;
      uncached = counted_all_lem inv.1 past k;
      writing = counted_all_lem inv.2 past k;
    }

-- `count_below` meets its contract: after i numbers as many are found as pass among them. Assumes nothing.
use Rattle.std.proofs.Common.{arith}
use Rattle.decision.proofs.Counting.{counted_none, counted_next, counted_all_lem, one_at_most}
use Rattle.decision.proofs.below.count_below.Goals as goal

pub loop-i-init : goal.loop-i-init
loop-i-init g c = record { passed = omega arith; small = omega arith; counts = λ p same. counted_none }

pub overflow_add-found : goal.overflow_add-found
overflow_add-found g c =
    omega (arith, c.loop-i.invariant.small, c.loop-i.invariant.passed, c.one_if-found.ensures, one_at_most c.test.result)

pub loop-i-preserved : goal.loop-i-preserved
loop-i-preserved g c = record {
  passed = omega arith;
  small = omega (arith, c.loop-i.invariant.small, c.one_if-found.ensures, one_at_most c.test.result);
  counts = λ p same.
      counted_next (c.loop-i.invariant.counts p same) c.loop-i-test.true
      (same c.loop-i.i c.test.result c.loop-i-test.true c.test.ensures) c.one_if-found.ensures;
}

pub returns-clause-counted : goal.returns-clause-counted
returns-clause-counted g c = λ p same. counted_all_lem (c.loop-i.invariant.counts p same) c.loop-i-test.false

pub returns-clause-upper_bound : goal.returns-clause-upper_bound
returns-clause-upper_bound g c = omega (arith, c.loop-i.invariant.small)

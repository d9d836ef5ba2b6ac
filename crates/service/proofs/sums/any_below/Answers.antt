-- `any_below` meets its contract: after i numbers it is known of them. Assumes nothing.
use Rattle.service.proofs.Counting.{asked_none, asked_next, asked_all}
use Rattle.service.proofs.sums.any_below.Goals as goal

pub loop-i-init : goal.loop-i-init
loop-i-init g c = λ p same. asked_none

pub loop-i-preserved : goal.loop-i-preserved
loop-i-preserved g c = λ p same.
    asked_next (c.loop-i.invariant p same) c.loop-i-test.true
    (same c.loop-i.i c.test-found.result c.loop-i-test.true c.test-found.ensures)

pub returns : goal.returns
returns g c = λ p same. asked_all (c.loop-i.invariant p same) c.loop-i-test.false

-- `sum_of_files` meets its contract: after f files the sum is what is counted of them. Assumes nothing.
use Rattle.std.proofs.Common.{◌≤◌, arith}
use Rattle.sizes.specs.Sizes.{max_blocks}
use Rattle.service.proofs.Counting.{summed_none, summed_next, summed_all}
use Rattle.service.proofs.sums.sum_of_files.Goals as goal

pub loop-f-init : goal.loop-f-init
loop-f-init g c = record { small = omega arith; sums = λ of same. summed_none }

pub overflow_add-sum : goal.overflow_add-sum
overflow_add-sum g c =
    let few : c.of-sum.result ≤ max_blocks = c.requires.few c.loop-f.f c.of-sum.result c.loop-f-test.true c.of-sum.ensures in
    omega (arith, few, c.loop-f.invariant.small, c.requires.n_le_max_files)

pub loop-f-preserved : goal.loop-f-preserved
loop-f-preserved g c =
    let few : c.of-sum.result ≤ max_blocks = c.requires.few c.loop-f.f c.of-sum.result c.loop-f-test.true c.of-sum.ensures in
    record {
      small = omega (arith, few, c.loop-f.invariant.small);
      sums = λ of same.
          summed_next (c.loop-f.invariant.sums of same) c.loop-f-test.true
          (same c.loop-f.f c.of-sum.result c.loop-f-test.true c.of-sum.ensures);
    }

pub returns : goal.returns
returns g c = λ of same. summed_all (c.loop-f.invariant.sums of same) c.loop-f-test.false

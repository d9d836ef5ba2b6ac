-- `count_used` meets its contract: after so many files the sum is how many of their blocks are used. Assumes nothing.
use Prim.Native.Nat.{ℕ, ◌+◌}
use mathlib.Core.Bool.{false}
use mathlib.Core.Path.{◌≡◌, refl, ap, ◌∙◌}
use native.Mathlib.Numerals.{add-one}
use native.Mathlib.Omega.{arith}
use lib.ListN.{get_or}
use Rattle.sizes.specs.Sizes.{place}
use Rattle.decision.specs.Lists.{count}
use Rattle.service.specs.Space.{sum_below}
use Rattle.restore.proofs.used.count_used.Goals as goal

pub loop-f-init : goal.loop-f-init
unfolding sum_below
loop-f-init c = (omega arith, refl, omega arith)

-- one file more
sum_next :
    (g : ℕ → ℕ) (f total k : ℕ) → total ≡ sum_below f g → k ≡ g f → total + k ≡ sum_below (f + 1) g
unfolding sum_below
sum_next g f total k is here = rw (add-one f) (λ j. is j + here j)

pub loop-f-preserved : goal.loop-f-preserved
loop-f-preserved c =
    let a = c.args in
    let turn = c.loop-f in
    let one = c.count_file_used-total in (
      omega (arith, c.loop-f-test.true),
      sum_next (λ f. count a.sizes.blocks (λ b. get_or a.used.now (place f b) false)) turn.f turn.total one.result turn.invariant.1 one.ensures.value,
      omega (arith, turn.invariant.2, one.ensures.upper_bound),
    )

pub returns : goal.returns
returns c =
    let a = c.args in
    let turn = c.loop-f in
    let all : turn.f ≡ a.sizes.files = omega (arith, turn.invariant.0, c.loop-f-test.false) in
    turn.invariant.1 ∙ ap (λ k. sum_below k (λ f. count a.sizes.blocks (λ b. get_or a.used.now (place f b) false))) all

-- `dirty_blocks` meets its contract: the flags are copied. Assumes nothing.
use Rattle.std.proofs.Common.{ℕ, ◌≡◌, ◌+◌, ◌-◌, false, get_or, take, drop, ap, ◌∙◌, arith}
use Rattle.sizes.specs.Sizes.{max_blocks}
use Rattle.words.specs.Rows.{listed}
use Rattle.service.proofs.Copying.{part_listed}
use Rattle.service.proofs.spending.dirty_blocks.Goals as goal

pub returns : goal.returns
returns c =
    let base : ℕ = c.first_cell-base.result in
    let long : (base + max_blocks) - base ≡ max_blocks = omega arith in
    c.copy_from_slice.ensures.after
    ∙ ap (λ (n : ℕ). take n (drop base c.args.dirty.now)) long
    ∙ part_listed max_blocks false base c.args.dirty.now (omega (arith, c.first_cell-base.ensures.max_blocks_bound))
    ∙ ap (λ (x : ℕ). listed max_blocks (λ b. get_or c.args.dirty.now (x + b) false)) c.first_cell-base.ensures.value

-- `mark_sent` meets its contract: after b turns b of the blocks are marked. Assumes nothing.
use Rattle.std.proofs.Common.{◌+◌, false, Bool, List, ◌||◌, get_or, ap, ◌∙◌, arith}
use Rattle.decision.proofs.Storing.{stored_none, stored_more, get_d_stored_other}
use Rattle.service.specs.Lent.{state_flags}
use Rattle.service.proofs.spending.mark_sent.Goals as goal

pub loop-b-init : goal.loop-b-init
loop-b-init c = stored_none

pub loop-b-preserved : goal.loop-b-preserved
loop-b-preserved c =
    let to = state_flags + c.first_place-to.result in
    let b = c.loop-b.b in
    stored_more c.loop-b.invariant c.loop-b-test.true
    (ap (λ t. t || get_or c.args.sent b false)
    (ap (λ (x : List Bool). get_or x (to + b) false) c.loop-b.invariant.stores
    ∙ get_d_stored_other b (λ k. to + k) (λ k. get_or c.args.flags.now (to + k) false || get_or c.args.sent k false)
    c.args.flags.now
    false
    (to + b)
    (λ k h q. omega arith)))

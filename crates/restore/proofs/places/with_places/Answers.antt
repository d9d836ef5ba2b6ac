-- `with_places` meets its contract: after f turns f files have what the others have. Assumes nothing.
use mathlib.Core.Path.{refl, sym, ap, ◌∙◌}
use native.Mathlib.Numerals.{add-one}
use lib.ListN.{get_or}
use Rattle.sizes.specs.Sizes.{place}
use Rattle.decision.specs.Lists.{stored}
use Rattle.restore.specs.Reading.{with_places}
use Rattle.restore.proofs.places.with_places.Goals as goal

pub loop-f-init : goal.loop-f-init
unfolding with_places
loop-f-init g c none = refl

pub loop-f-preserved : goal.loop-f-preserved
unfolding with_places
loop-f-preserved g c none =
    let a = c.args in
    let n = a.sizes.blocks in
    let others = a.others.now in
    let f = c.loop-f.f in
    c.take_file.ensures none
    ∙ ap (stored n (place f) (λ b. get_or others (place f b) none)) (c.loop-f.invariant none)
    ∙ ap (λ k. with_places none k n others a.held) (sym (add-one f))

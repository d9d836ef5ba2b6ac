-- `put_refused` meets its contract, by the number. Assumes nothing.
use mathlib.Core.Path.{sym, ap, ◌∙◌}
use borrow.Author.Tests.{eq-eqb}
use Rattle.sizes.proofs.Choosing.{when}
use Rattle.service.specs.Lent.{used_held}
use Rattle.phrases.specs.Places.{no_place_text}
use Rattle.phrases.specs.Refusal.{refusal_text}
use Rattle.writer.proofs.Buffers.{wrote_as}
use Rattle.sentences.proofs.refused.put_refused.Goals as goal

pub returns-then-number-clause-wrote : goal.returns-then-number-clause-wrote
returns-then-number-clause-wrote c =
    let a = c.args in
    let q = c.asked-named.result in
    wrote_as
    (ap (λ used. no_place_text a.sizes used a.embargoed a.dirty.now q.file q.block) c.held_used-used.ensures
    ∙ ap (λ n. no_place_text a.sizes (used_held a.flags.now) a.embargoed a.dirty.now n.file n.block) c.asked-named.ensures
    ∙ sym
    (when _ (refusal_text a.sizes a.reported a.embargoed a.entry a.since a.embargo a.step a.number)
    (eq-eqb _ 23 (c.if-number.true ∙ c.number.ensures))))
    c.put_no_place.ensures.wrote

-- `put_refusal` meets its contract, number by number: what the numbers of the step name is what the step names. Assumes
-- nothing.
use mathlib.Core.Path.{sym, ap, ◌∙◌}
use mathlib.Core.List.{◌++◌}
use Rattle.stepfile.specs.Text.{bytes}
use Rattle.phrases.specs.Phrase.{client_text}
use Rattle.phrases.specs.Refusal.{no_client_text, no_file_text, no_block_text, not_dirty_text, refusal_text}
use Rattle.writer.proofs.Buffers.{wrote_as}
use Rattle.phrases.proofs.refusal.put_refusal.Goals as goal

pub returns-in-2-clause-wrote : goal.returns-in-2-clause-wrote
returns-in-2-clause-wrote c =
    let a = c.args in
    wrote_as
    (ap (λ q. no_client_text q.client a.sizes.clients) c.asked-named.ensures
    ∙ ap (refusal_text a.sizes a.reported a.embargoed a.entry a.since a.embargo a.step) (sym c.in-2.is))
    c.put_none.ensures.wrote

pub returns-in-3-clause-wrote : goal.returns-in-3-clause-wrote
returns-in-3-clause-wrote c =
    let a = c.args in
    wrote_as
    (ap (λ q. no_file_text q.file a.sizes.files) c.asked-named.ensures
    ∙ ap (refusal_text a.sizes a.reported a.embargoed a.entry a.since a.embargo a.step) (sym c.in-3.is))
    c.put_none-in-3.ensures.wrote

pub returns-in-4-clause-wrote : goal.returns-in-4-clause-wrote
returns-in-4-clause-wrote c =
    let a = c.args in
    wrote_as
    (ap (λ q. no_block_text q.block a.sizes.blocks) c.asked-named.ensures
    ∙ ap (refusal_text a.sizes a.reported a.embargoed a.entry a.since a.embargo a.step) (sym c.in-4.is))
    c.put_none-in-4.ensures.wrote

pub returns-in-13-clause-wrote : goal.returns-in-13-clause-wrote
returns-in-13-clause-wrote c =
    let a = c.args in
    wrote_as
    (ap (λ q. not_dirty_text q.client q.file q.block) c.asked-named.ensures
    ∙ ap (refusal_text a.sizes a.reported a.embargoed a.entry a.since a.embargo a.step) (sym c.in-13.is))
    c.put_not_dirty.ensures.wrote

pub returns-in-7-clause-wrote : goal.returns-in-7-clause-wrote
returns-in-7-clause-wrote c =
    let a = c.args in
    wrote_as
    (ap (λ q. client_text q.client ++ bytes " has reported before") c.asked-named.ensures
    ∙ ap (refusal_text a.sizes a.reported a.embargoed a.entry a.since a.embargo a.step) (sym c.in-7.is))
    c.put_of_client.ensures.wrote

pub returns-in-21-clause-wrote : goal.returns-in-21-clause-wrote
returns-in-21-clause-wrote c =
    let a = c.args in
    wrote_as
    (ap (λ q. client_text q.client ++ bytes " is not under embargo") c.asked-named.ensures
    ∙ ap (refusal_text a.sizes a.reported a.embargoed a.entry a.since a.embargo a.step) (sym c.in-21.is))
    c.put_of_client-in-21.ensures.wrote

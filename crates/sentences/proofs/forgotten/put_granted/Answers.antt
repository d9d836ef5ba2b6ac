-- `put_granted` meets its contract: nothing, or the grant. Assumes nothing.
use mathlib.Core.Path.{sym, ◌∙◌, ap}
use Rattle.sizes.proofs.Choosing.{when}
use Rattle.protocol.specs.declared.reply.Grant.{Grant}
use Rattle.phrases.specs.Accepted.{grant_text}
use Rattle.writer.proofs.Buffers.{wrote_as, wrote_then}
use Rattle.sentences.proofs.forgotten.put_granted.Goals as goal

pub returns-clause-wrote : goal.returns-clause-wrote
returns-clause-wrote c =
    let a = c.args in
    wrote_as (sym (when _ _ (sym c.is_granted.ensures ∙ c.if-not-is_granted.false)))
    (wrote_then c.put_text-open.ensures.wrote
    (wrote_as (ap (λ (g : Grant). grant_text a.entry.mode g a.own a.entry.waiter a.file) c.grant_in.ensures)
    c.put_grant.ensures.wrote))

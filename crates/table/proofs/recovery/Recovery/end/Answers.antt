-- `end` meets its contract: refused, or the recovery is over. Assumes nothing.
use Rattle.std.proofs.Common.{sym, ap, ◌∙◌}
use Rattle.protocol.specs.declared.reply.Reply.{Reply}
use Rattle.protocol.specs.declared.reply.Reply.TheVariants.{Refused}
use Rattle.protocol.proofs.Refused.{refused_by, not_refused_by}
use Rattle.table.specs.TableStep.{end_tests}
use Rattle.table.specs.Recovery.{kept, recovery_step}
use Rattle.table.proofs.recovery.Recovery.end.Goals as goal

pub returns-in-Err : goal.returns-in-Err
unfolding recovery_step
returns-in-Err c =
    let a = c.args in
    λ clash.
    c.kept.ensures
    ∙ ap (λ (r : Reply). kept a.self r) c.from.ensures
    ∙ sym
    (refused_by (end_tests a.sizes a.self.recovering a.self.reported a.self.embargoed)
    (λ k. kept a.self (Refused k)) _ c.end_refusal.ensures c.in-Err.is)

pub returns : goal.returns
unfolding recovery_step
returns c =
    let a = c.args in
    λ clash.
    c.kept-2.ensures
    ∙ rw c.without_reports.ensures
    (sym
    (not_refused_by (end_tests a.sizes a.self.recovering a.self.reported a.self.embargoed)
    (λ k. kept a.self (Refused k)) _ c.end_refusal.ensures c.in_default.is))

-- `end` meets its contract: refused, or the recovery is over. Assumes nothing.
use Rattle.std.proofs.Common.{◌≡◌, Err, rules, false, sym, ap, ◌∙◌}
use Rattle.protocol.specs.Refused.{refusal_in}
use Rattle.service.proofs.Serving.{recovery_held, recovery_as, end_moves, end_refused}
use Rattle.service.proofs.recovering.end.Goals as goal

pub returns-in_err-end_refusal : goal.returns-in_err-end_refusal
returns-in_err-end_refusal c t stores =
    let a = c.args in
    let of = c.recovery_of-recovery.ensures in
    let same : c.from_residual.result ≡ Err c.in_err-end_refusal.field-0.0 = search rules in
    rw same
    (end_refused false false a.sizes t a.flags.now c.recovery_of-recovery.result stores c.requires.permitted c.requires.flags_len
    (recovery_as c.recovery_of-recovery.result (recovery_held a.flags.now) of.0 of.1 of.2)
    c.end_refusal.ensures
    c.in_err-end_refusal.was)

pub returns : goal.returns
returns c t stores =
    let a = c.args in
    let of = c.recovery_of-recovery.ensures in
    let put = c.put_recovery.ensures in
    end_moves false false a.sizes t a.flags.now _ c.recovery_of-recovery.result c.end-done.result stores
    c.requires.permitted
    c.end-done.ensures
    of.0
    of.1
    of.2
    c.requires.flags_len
    put.0
    put.1
    put.2
    put.3
    put.4
    (sym (ap refusal_in c.in_ok-end_refusal.was) ∙ c.end_refusal.ensures)

-- `put_sentence` meets its contract, reply by reply. Assumes nothing.
use Prim.Native.Nat.{ℕ, ◌+◌, ◌%◌}
use mathlib.Core.Path.{refl, sym, ap, ◌∙◌}
use lib.ListN.{get_or}
use borrow.Author.Tests.{eq-eqb, ne_eqb}
use Rattle.sizes.specs.Sizes.{max_clients, max_files}
use Rattle.protocol.specs.declared.step.Numbers.{Numbers}
use Rattle.protocol.specs.Client.{side_of}
use Rattle.words.specs.Rows.{entry_held, sides_held}
use Rattle.table.specs.TableStep.{is_reported}
use Rattle.service.specs.Lent.{reported_held, used_held}
use Rattle.ledger.specs.Ledger.{lines_at}
use Rattle.phrases.specs.Accepted.{still_text}
use Rattle.phrases.proofs.Names.{mode_named}
use Rattle.sentences.specs.Scene.{aside_held, whole_held}
use Rattle.sentences.specs.Explained.{clash_text}
use Rattle.writer.proofs.Buffers.{wrote_as, wrote_then}
use Rattle.sentences.proofs.Names.{client_named, file_named, block_named}
use Rattle.sentences.proofs.Names.{grant_as, wait_as, read_as, refused_as, answer_as}
use Rattle.sentences.proofs.Names.{done_as, no_embargo, a_clash, no_clash}
use Rattle.sentences.proofs.sentence.put_sentence.Goals as goal

pub returns-in-Granted-clause-wrote : goal.returns-in-Granted-clause-wrote
returns-in-Granted-clause-wrote c =
    let a = c.args in
    let is = c.asked-named.ensures in
    let own = ap (λ (q : Numbers). side_of (sides_held a.before.now (q.file % max_files)) q.client) is in
    rw c.in-Granted.is
    (wrote_as
    (grant_as c.in-Granted.grant (c.mode_by_kind-mode.ensures ∙ mode_named _ is) (c.side_in-own.ensures ∙ own) (client_named _ is)
    (file_named _ is))
    c.put_grant.ensures.wrote)

pub returns-in-Waiting-clause-wrote : goal.returns-in-Waiting-clause-wrote
returns-in-Waiting-clause-wrote c =
    let is = c.asked-named.ensures in
    let entry = ap (λ (q : Numbers). entry_held c.args.before.now (q.file % max_files)) is in
    rw c.in-Waiting.is
    (wrote_as
    (wait_as _ _ (c.entry_at-entry.ensures ∙ entry) (c.mode_by_kind-mode-in-Waiting.ensures ∙ mode_named _ is)
    (client_named _ is) (file_named _ is))
    c.put_wait.ensures.wrote)

pub returns-in-Value-clause-wrote : goal.returns-in-Value-clause-wrote
returns-in-Value-clause-wrote c =
    let a = c.args in
    let is = c.asked-named.ensures in
    let aside = ap (λ (q : Numbers). aside_held a.came.now q.client) is in
    let since = ap (λ (q : Numbers). get_or a.ledger.now.since (max_files + q.client % max_clients) 0) is in
    rw c.in-Value.is
    (wrote_as
    (read_as a.fresh a.told (c.is_aside-aside.ensures ∙ aside) (c.embargo_since-embargo.ensures ∙ since) (client_named _ is)
    (file_named _ is) (block_named _ is))
    c.put_read.ensures.wrote)

pub returns-then-number-clause-wrote : goal.returns-then-number-clause-wrote
returns-then-number-clause-wrote c =
    let a = c.args in
    let clash =
    ap (λ (i : ℕ).
    clash_text a.sizes (is_reported (reported_held a.came.now)) (entry_held a.service.now.table)
    (λ f. side_of (sides_held a.service.now.table f) i) i)
    (client_named _ c.asked-named.ensures) in
    rw c.in-Refused.is
    (wrote_as (clash ∙ a_clash _ _ _ (eq-eqb _ 22 (c.if-number.true ∙ c.number.ensures))) c.put_clash.ensures.wrote)

pub returns-else-number-clause-wrote : goal.returns-else-number-clause-wrote
returns-else-number-clause-wrote c =
    let a = c.args in
    let is = c.asked-named.ensures in
    let entry = ap (λ (q : Numbers). entry_held a.before.now (q.file % max_files)) is in
    let waits = ap (λ (q : Numbers). get_or a.ledger.now.since (q.file % max_files) 0) is in
    let since = ap (λ (q : Numbers). get_or a.ledger.now.since (max_files + q.client % max_clients) 0) is in
    rw c.in-Refused.is
    (wrote_as
    (refused_as a.sizes a.step c.in-Refused.number (used_held a.came.now) a.service.now.stores.dirty c.reported_in-reported.ensures c.embargoed_in-embargoed.ensures
    (c.entry_at-entry-in-Refused.ensures ∙ entry) waits (c.embargo_since-begun.ensures ∙ since)
    ∙ no_clash _ _ _ (ne_eqb _ 22 (λ e. c.if-number.false (e ∙ sym c.number.ensures))))
    c.put_refused.ensures.wrote)

pub returns-in_default-clause-wrote : goal.returns-in_default-clause-wrote
returns-in_default-clause-wrote c =
    let a = c.args in
    let is = c.asked-named.ensures in
    let whole = whole_held a.before.now a.service.now.table (lines_at a.ledger.now) in
    let after = ap (λ (q : Numbers). entry_held a.service.now.table (q.file % max_files)) is in
    rw c.in-Answered.is
    (wrote_as (no_embargo a.sizes whole _ _ c.in_default.not-Embargo)
    (wrote_then (wrote_as (answer_as _ (client_named _ is) (file_named _ is)) c.put_answer-still.ensures.wrote)
    (wrote_as (ap (still_text a.sizes.clients) (c.entry_at-after.ensures ∙ after)) c.put_still.ensures.wrote)))

pub returns-in_default-step-clause-wrote : goal.returns-in_default-step-clause-wrote
returns-in_default-step-clause-wrote c =
    let a = c.args in
    let is = c.asked-named.ensures in
    let whole = whole_held a.before.now a.service.now.table (lines_at a.ledger.now) in
    let mode = ap (λ (q : Numbers). (entry_held a.before.now (q.file % max_files)).mode) is in
    let own = ap (λ (q : Numbers). side_of (sides_held a.before.now (q.file % max_files)) c.in-AnsweredGrant.opener) is in
    rw c.in-AnsweredGrant.is
    (wrote_as (no_embargo a.sizes whole _ _ c.in_default-step.not-Embargo)
    (wrote_then (wrote_as (answer_as _ (client_named _ is) (file_named _ is)) c.put_answer-open.ensures.wrote)
    (wrote_then c.put_text-granted.ensures.wrote
    (wrote_as
    (grant_as c.in-AnsweredGrant.grant (c.mode_of-mode.ensures ∙ mode) (c.side_in-own-in-AnsweredGrant.ensures ∙ own) refl (file_named _ is))
    c.put_grant-in-AnsweredGrant.ensures.wrote))))

pub returns-in-Done-clause-wrote : goal.returns-in-Done-clause-wrote
returns-in-Done-clause-wrote c =
    let a = c.args in
    let is = c.asked-named.ensures in
    let aside = ap (λ (q : Numbers). aside_held a.came.now q.client) is in
    let since = ap (λ (q : Numbers). get_or a.ledger.now.since (max_files + q.client % max_clients) 0) is in
    rw c.in-Done.is
    (wrote_then
    (wrote_as
    (done_as _ _ (c.is_aside-aside-in-Done.ensures ∙ aside) (c.embargo_since-embargo-in-Done.ensures ∙ since))
    c.put_done-more.ensures.wrote)
    c.put_besides.ensures.wrote)

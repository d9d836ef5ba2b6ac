-- `report` meets its contract: refused by a test that looks at no row, refused since it clashes, or taken. Assumes nothing.
use mathlib.Core.Path.{subst⁻¹}
use Rattle.std.proofs.Common.{ℕ, ◌≡◌, refl, sym, ap, ◌∙◌, Bool, true, false, Ok, Err, length, rules}
use Rattle.std.specs.Prelude.{⊤}
use Rattle.std.specs.Option.{is_some}
use Rattle.decision.proofs.Finding.{found_some}
use Rattle.protocol.specs.declared.refusal.Refusal.{Refusal}
use Rattle.protocol.specs.declared.refusal.Refusal.TheVariants.{ReportsClash}
use Rattle.protocol.specs.declared.reply.Reply.{Reply}
use Rattle.protocol.specs.Refused.{number_of, refusal_in, refusal_if}
use Rattle.protocol.specs.Reply.{no_calls}
use Rattle.protocol.proofs.Refused.{numbered}
use Rattle.protocol.specs.declared.step.Step.TheVariants.{Report}
use Rattle.words.specs.Rows.{table_words}
use Rattle.service.specs.Lent.{lent_flags}
use Rattle.service.specs.Served.{Serves}
use Rattle.service.proofs.Serving.{clash_held, refused_moves, refused_numbered, report_moves}
use Rattle.service.proofs.TableStoring.{report_refused, report_serves}
use Rattle.service.proofs.Reporting.{clash_held_lem, early-refused, clash-refused, report-taken, reporter-there}
use Rattle.service.proofs.Reporting.{reporter-below, reporter-within}
use Rattle.service.proofs.held_service.HeldService.report.Goals as goal

-- a test whose refusal was given, and one whose was not
given : (test : Bool) (r found : Refusal) → refusal_if test r ≡ Err found → (test ≡ true) × (found ≡ r)
given true r found is = (refl, cc)
given false r found is = absurd cc

passed : (test : Bool) (r : Refusal) (x : ⊤) → refusal_if test r ≡ Ok x → test ≡ false
passed true r x is = absurd cc
passed false r x is = refl

pub returns-in_err-report_refusal-clause-serves : goal.returns-in_err-report_refusal-clause-serves
returns-in_err-report_refusal-clause-serves c =
    let a = c.args in
    let flags_long : length a.self.now.flags ≡ lent_flags = search rules in
    let refusal = c.in_err-report_refusal.field-0.0 in
    let k : ℕ = number_of refusal in
    let stores = a.self.now.stores in
    let same : c.from_residual.result ≡ Err refusal = search rules in
    let told : k ≡ _ = sym (ap refusal_in c.in_err-report_refusal.was) ∙ c.report_refusal.ensures in
    rw same
    (subst⁻¹ (λ (r : Reply). Serves a.sizes (Report a.client) a.self.now.table a.self.now.flags stores a.self.now.table a.self.now.flags stores r no_calls)
    (refused_numbered refusal)
    (report_refused
    (refused_moves false false a.sizes (Report a.client) a.self.now.table a.self.now.flags stores k refl c.requires.permitted
    flags_long
    (early-refused a.sizes c.requires.permitted a.client a.self.now.flags k told
    (clash_held a.sizes a.self.now.table a.self.now.flags a.client) (numbered refusal)))
    refl))

pub returns-in_err-refuse_if-clause-serves : goal.returns-in_err-refuse_if-clause-serves
returns-in_err-refuse_if-clause-serves c =
    let a = c.args in
    let flags_long : length a.self.now.flags ≡ lent_flags = search rules in
    let refusal = c.in_err-refuse_if.field-0.0 in
    let same : c.from_residual-in_err-refuse_if.result ≡ Err refusal = search rules in
    let clash = given c.is_some.result ReportsClash refusal (sym c.refuse_if.ensures ∙ c.in_err-refuse_if.was) in
    let told : 0 ≡ _ = sym (ap refusal_in c.in_ok-report_refusal.was) ∙ c.report_refusal.ensures in
    let there = reporter-there a.sizes c.requires.permitted a.client a.self.now.flags 0 told refl in
    let clashes : clash_held a.sizes a.self.now.table a.self.now.flags a.client ≡ true =
    sym (clash_held_lem a.sizes c.requires.permitted a.client a.self.now.table a.self.now.flags there)
    ∙ sym (found_some a.sizes.files _)
    ∙ sym (ap is_some c.clash_file.ensures)
    ∙ sym c.is_some.ensures
    ∙ clash.0 in
    rw (same, clash.1)
    (report_refused
    (refused_moves false false a.sizes (Report a.client) a.self.now.table a.self.now.flags a.self.now.stores 22 refl
    c.requires.permitted flags_long
    (clash-refused a.sizes c.requires.permitted a.client a.self.now.flags 0 told
    (clash_held a.sizes a.self.now.table a.self.now.flags a.client) refl clashes))
    refl)

pub returns-clause-serves : goal.returns-clause-serves
returns-clause-serves c =
    let a = c.args in
    let flags_long : length a.self.now.flags ≡ lent_flags = search rules in
    let table_long : length a.self.now.table ≡ table_words = search rules in
    let stores = a.self.now.stores in
    let is : 0 ≡ _ = sym (ap refusal_in c.in_ok-report_refusal.was) ∙ c.report_refusal.ensures in
    let there = reporter-there a.sizes c.requires.permitted a.client a.self.now.flags 0 is refl in
    let clashes : clash_held a.sizes a.self.now.table a.self.now.flags a.client ≡ false =
    sym (clash_held_lem a.sizes c.requires.permitted a.client a.self.now.table a.self.now.flags there)
    ∙ sym (found_some a.sizes.files _)
    ∙ sym (ap is_some c.clash_file.ensures)
    ∙ sym c.is_some.ensures
    ∙ passed c.is_some.result ReportsClash _ (sym c.refuse_if.ensures ∙ c.in_ok-refuse_if.was) in
    report_serves c.requires.permitted table_long flags_long
    (reporter-below a.sizes c.requires.permitted a.client a.self.now.flags 0 is refl)
    (reporter-within a.sizes c.requires.permitted a.client a.self.now.flags 0 is refl)
    refl
    (report_moves false false a.sizes a.client a.self.now.table _ a.self.now.flags stores c.requires.permitted there flags_long
    (report-taken a.sizes c.requires.permitted a.client a.self.now.flags 0 is
    (clash_held a.sizes a.self.now.table a.self.now.flags a.client) refl clashes)
    c.report_rows.ensures)
    c.reserved_anew-taken.result
    _
    c.reserved_anew-taken.ensures
    c.recount.ensures

-- `explain_lines` meets its contract: the setting and each line after it are told, and
-- `line_told` carries it from line to line. Assumes nothing.
use mathlib.Core.Path.{sym, subst, ◌∙◌}
use lib.ListN.{length}
use borrow.Author.Rules.{rules}
use Rattle.telling.proofs.Reaching.{line_bytes}
use Rattle.telling.proofs.LineByLine.{read_line, from_1, fewer, stops-full, stops-whole}
use Rattle.sentences.specs.Explained.{explained_room}
use Rattle.playing.proofs.FirstLines.{none_later, not_chosen}
use Rattle.explaining.specs.Lines.{explaining, state_held, TellsLine}
use Rattle.explaining.proofs.Explaining.{sets_nothing, line_told}
use Rattle.explaining.proofs.lines.explain_lines.Goals as goal
use Rattle.protocol.specs.declared.step.Step.{Step}
use Rattle.std.proofs.Common.{Option}

pub loop-force-init : goal.loop-force-init
loop-force-init c =
    let first = c.explain_first-begun.ensures c.args.noted.now.ledger in
    (λ s n out w. w, (first.chosen, (search rules, search rules)))

-- ---- a line that gives no step

pub loop-force-smaller-in_default-step : goal.loop-force-smaller-in_default-step
loop-force-smaller-in_default-step c =
    let l = c.loop-force in
    let reached = l.invariant.0 _ _ _ (c.explain_first-begun.ensures c.args.noted.now.ledger).reached in
    fewer c.args.input.now l.used _ _
    (read_line c.args.input.now l.used c.in-Some.line.step c.in-Some.line.next reached.at.inside
    (sym c.read_at.ensures ∙ c.in-Some.is))

pub loop-force-preserved-in_default-step : goal.loop-force-preserved-in_default-step
loop-force-preserved-in_default-step c =
    let a = c.args in
    let l = c.loop-force in
    let given = c.explain_first-begun.result.sizes in
    let held = l.noted.service in
    let ledger = l.noted.ledger in
    let stands = state_held given held.table held.flags held.stores ledger l.noted.refusals in
    let line = c.in-Some.line in
    let reached = l.invariant.0 _ _ _ (c.explain_first-begun.ensures a.noted.now.ledger).reached in
    let is_read = sym c.read_at.ensures ∙ c.in-Some.is in
    let can = sym c.can_tell.ensures ∙ c.loop-force-test.true in
    let text = line_bytes a.input.now l.used line.next in
    let plain =
    not_chosen a.fresh l.number a.input.now l.used line.step line.next _
    (read_line a.input.now l.used line.step line.next reached.at.inside is_read) l.invariant.1.0 can in
    let told = c.tell_no_step-to in
    let tells = told.ensures.tells_line a.fresh _ ledger text (sets_nothing a.fresh l.number text plain) in
    let after = state_held given held.table held.flags held.stores ledger told.new.refusals in (
      λ s n out w.
          line_told a.fresh s n a.input.now out stands l.number l.used l.to l.out line.step line.next after told.result told.new.out
          (l.invariant.0 s n out w) is_read can
          (subst (λ (k : Option Step). TellsLine a.fresh stands l.number text k l.out l.to after told.new.out told.result)
          (sym c.in_default-step.is) tells),
      (
        none_later a.fresh l.number _ _ (from_1 explained_room (length l.out) l.to l.number can),
        (told.ensures.words_len_unchanged ∙ l.invariant.1.1.0, l.invariant.1.1.1),
      ),
    )

-- ---- a line that gives a step

pub loop-force-smaller : goal.loop-force-smaller
loop-force-smaller c =
    let l = c.loop-force in
    let reached = l.invariant.0 _ _ _ (c.explain_first-begun.ensures c.args.noted.now.ledger).reached in
    fewer c.args.input.now l.used _ _
    (read_line c.args.input.now l.used c.in-Some.line.step c.in-Some.line.next reached.at.inside
    (sym c.read_at.ensures ∙ c.in-Some.is))

pub loop-force-preserved : goal.loop-force-preserved
loop-force-preserved c =
    let a = c.args in
    let l = c.loop-force in
    let given = c.explain_first-begun.result.sizes in
    let held = l.noted.service in
    let ledger = l.noted.ledger in
    let stands = state_held given held.table held.flags held.stores ledger l.noted.refusals in
    let line = c.in-Some.line in
    let reached = l.invariant.0 _ _ _ (c.explain_first-begun.ensures a.noted.now.ledger).reached in
    let is_read = sym c.read_at.ensures ∙ c.in-Some.is in
    let can = sym c.can_tell.ensures ∙ c.loop-force-test.true in
    let text = line_bytes a.input.now l.used line.next in
    let told = c.explain_line-to in
    let after = told.new.noted in
    let then = state_held given after.service.table after.service.flags after.service.stores after.ledger after.refusals in (
      λ s n out w.
          line_told a.fresh s n a.input.now out stands l.number l.used l.to l.out line.step line.next then told.result told.new.out
          (l.invariant.0 s n out w) is_read can
          (subst (λ (k : Option Step). TellsLine a.fresh stands l.number text k l.out l.to then told.new.out told.result)
          (sym c.in-Some-step.is) (told.ensures.tells_line text)),
      (
        none_later a.fresh l.number _ _ (from_1 explained_room (length l.out) l.to l.number can),
        (told.ensures.words_len_unchanged ∙ l.invariant.1.1.0, told.ensures.before_len_unchanged ∙ l.invariant.1.1.1),
      ),
    )

-- ---- the end

pub returns-after-loop-force : goal.returns-after-loop-force
returns-after-loop-force c =
    let a = c.args in
    let l = c.loop-force in
    let first = c.explain_first-begun.ensures a.noted.now.ledger in
    record {
      tells =
          stops-full (explaining a.fresh) _ a.first a.input.now a.out.now _ l.number l.used l.to l.out
          (l.invariant.0 _ _ _ first.reached) (sym c.can_tell.ensures ∙ c.loop-force-test.false);
    }

pub returns-in_default : goal.returns-in_default
returns-in_default c =
    let a = c.args in
    let l = c.loop-force in
    let first = c.explain_first-begun.ensures a.noted.now.ledger in
    record {
      tells =
          stops-whole (explaining a.fresh) _ a.first a.input.now a.out.now _ l.number l.used l.to l.out
          (l.invariant.0 _ _ _ first.reached) (sym c.in_default.ensures);
    }

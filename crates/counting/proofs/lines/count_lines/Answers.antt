-- `count_lines` meets its contract: what the setting and each step comes to is in the arrays, its records are lent, and
-- `line_counted` carries it from line to line. Assumes nothing.
use Prim.Native.Nat.{ℕ}
use mathlib.Core.Path.{sym, ap, ◌∙◌}
use mathlib.Core.List.{List, []}
use Rattle.sizes.specs.declared.sizes.Sizes.{Sizes}
use Rattle.service.specs.Lent.{outcome_of}
use Rattle.telling.proofs.Reaching.{line_bytes}
use Rattle.telling.proofs.LineByLine.{read_line, from_1, fewer, stops-full, stops-whole}
use Rattle.playing.proofs.FirstLines.{none_later, not_chosen}
use Rattle.playing.proofs.Playing.{given_outcome}
use Rattle.trace.specs.declared.record.TraceRecord.{TraceRecord}
use Rattle.trace.specs.Counted.{counted_all}
use Rattle.counting.specs.LineTrace.{trace_in}
use Rattle.counting.specs.Lines.{counting, counted_held}
use Rattle.counting.proofs.Counting.{can_any, line_counted, step_counted, line_traced, all_lent}
use Rattle.counting.proofs.lines.count_lines.Goals as goal

pub loop-words-smaller : goal.loop-words-smaller
loop-words-smaller c =
    let l = c.loop-words in
    let reached = l.invariant.0 [] _ _ _ (c.count_first-begun.ensures.reached c.args.counted.now.totals []) in
    fewer c.args.input.now l.used _ _
    (read_line c.args.input.now l.used c.in-Some.line.step c.in-Some.line.next reached.at.inside (sym c.read_at.ensures ∙ c.in-Some.is))

pub loop-words-preserved : goal.loop-words-preserved
loop-words-preserved c =
    let a = c.args in
    let l = c.loop-words in
    let given = c.count_first-begun.result.sizes in
    let held = l.counted.service in
    let stands = counted_held given held.table held.flags held.stores l.counted.totals in
    let line = c.in-Some.line in
    let reached = l.invariant.0 [] _ _ _ (c.count_first-begun.ensures.reached a.counted.now.totals []) in
    let is_read = sym c.read_at.ensures ∙ c.in-Some.is in
    let can = sym c.can_tell.ensures ∙ c.loop-words-test.true in
    let plain =
    not_chosen a.settable l.number a.input.now l.used line.step line.next _
    (read_line a.input.now l.used line.step line.next reached.at.inside is_read) l.invariant.1.0 can in
    let steps = c.take_step-said.ensures in
    let itself = c.is_served_alone-itself in
    let stations = c.in_force-force.result.clients in
    let force = ap (λ (z : Sizes). z.clients) c.in_force-force.ensures.value in
    let trace = c.trace_of-trace in
    let traced =
    line_traced given line.step held.table held.flags held.stores l.words _ _ _ _ _ steps itself.result
    itself.ensures stations force in
    let is =
    given_outcome a.settable stands.service l.number (line_bytes a.input.now l.used line.next) line.step plain in
    let totals =
    c.count_trace.ensures.0
    ∙ ap (λ (rs : List TraceRecord). counted_all stations rs l.counted.totals)
    (all_lent trace.result trace.ensures.count_le_trace_room ∙ trace.ensures.records_value traced.0 ∙ traced.1)
    ∙ ap (λ (k : ℕ). counted_all k (trace_in stands.service line.step) l.counted.totals) force in (
      λ out s n out₀ w.
          line_counted a.settable s n a.input.now out₀ out stands l.number l.used line.step line.next _
          (l.invariant.0 out s n out₀ w) is_read can
          (step_counted a.settable stands l.number (line_bytes a.input.now l.used line.next) line.step
          (outcome_of stands.service line.step) _ _ is steps.service totals),
      (
        none_later a.settable l.number _ _ (from_1 0 0 0 l.number can),
        steps.words_long ∙ l.invariant.1.1,
      ),
    )

pub returns-after-loop-words : goal.returns-after-loop-words
returns-after-loop-words c =
    let a = c.args in
    let l = c.loop-words in
    record {
      tells = λ out.
          stops-full (counting a.settable) _ a.first a.input.now out _ l.number l.used 0 out
          (l.invariant.0 out _ _ _ (c.count_first-begun.ensures.reached a.counted.now.totals out))
          (can_any out l.number ∙ sym c.can_tell.ensures ∙ c.loop-words-test.false);
    }

pub returns-in_default : goal.returns-in_default
returns-in_default c =
    let a = c.args in
    let l = c.loop-words in
    record {
      tells = λ out.
          stops-whole (counting a.settable) _ a.first a.input.now out _ l.number l.used 0 out
          (l.invariant.0 out _ _ _ (c.count_first-begun.ensures.reached a.counted.now.totals out)) (sym c.in_default.ensures);
    }

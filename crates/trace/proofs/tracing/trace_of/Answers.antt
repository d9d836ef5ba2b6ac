-- `trace_of` meets its contract: each loop notes its records after those that counted before it, and together they are
-- those of the step. Assumes nothing.
use Prim.Native.Nat.{◌<◌}
use mathlib.Core.Path.{◌≡◌, refl, sym, ap, ap₂, ◌∙◌}
use mathlib.Core.Bool.{not}
use native.Mathlib.Omega.{arith}
use borrow.Author.Rules.{rules}
use lib.Dec.{eqb}
use lib.ListN.{length, take, replicate, length-set}
use Rattle.sizes.specs.Sizes.{max_clients, nobody}
use Rattle.decision.specs.Callback.{ordered_calls}
use Rattle.words.specs.Said.{calls?, letter_said, reply_said, calls_said, grants_said}
use Rattle.trace.specs.declared.record.TraceKind.TheVariants.{Sent}
use Rattle.trace.specs.declared.record.TraceOutcome.TheVariants.{Done}
use Rattle.trace.specs.Records.{noted, kind_of, outcome_of, sent_by, call_records, open_record, open_records}
use Rattle.trace.specs.Records.{records_of, records_given}
use Rattle.protocol.specs.declared.step.Numbers.{Numbers}
use Rattle.protocol.specs.declared.step.Step.{Step}
use Rattle.std.proofs.Common.{Option}
use Rattle.trace.proofs.Noting.{noting_none, sent-more, call-more, open_more, beside-more, called_all}
use Rattle.trace.proofs.Noting.{all_noted, all_meant}
use Rattle.trace.proofs.Told.{all_or_none, length_beside}
use Rattle.trace.proofs.tracing.trace_of.Goals as goal

-- ---- the step is no station's

pub returns-then-not-names_station-clause-records_value : goal.returns-then-not-names_station-clause-records_value
unfolding records_of
returns-then-not-names_station-clause-records_value c few =
    rw (c.in-Some.is, ← c.if-not-names_station.ensures)

-- ---- the blocks sent

pub loop-block-init : goal.loop-block-init
loop-block-init c = (omega arith, noting_none _ 1 (search rules))

pub loop-block-preserved : goal.loop-block-preserved
loop-block-preserved c =
    let most = c.sent_by-sent.ensures.upper_bound in (
      omega arith,
      sent-more _ _ _ _ _ (omega arith) _ _ c.note-in-loop-block.ensures c.loop-block.invariant.1,
    )

-- ---- the stations called

pub loop-called-init : goal.loop-called-init
unfolding ordered_calls call_records
loop-called-init c = (omega arith, noting_none _ _ c.loop-block.invariant.1.long)

pub loop-called-preserved : goal.loop-called-preserved
loop-called-preserved c =
    let most = all_or_none (calls? (letter_said c.args.said)) max_clients _ c.places_called-places.ensures in
    let few = c.loop-called.invariant.1.few in (
      omega arith,
      call-more _ _ _ _ _ (omega arith) _ _ _ c.note-in-loop-called.ensures c.one_if-count.ensures c.loop-called.invariant.1,
    )

-- ---- the opens beside the reply

pub loop-k-init : goal.loop-k-init
unfolding open_records
loop-k-init c = (
  omega arith,
  noting_none _ _ (length-set c.loop-called.records c.loop-called.count c.note-2.result ∙ c.loop-called.invariant.1.long),
)

pub loop-k-preserved : goal.loop-k-preserved
loop-k-preserved c =
    let grants = grants_said c.args.said c.args.words.now in
    let most = all_or_none (calls? (letter_said c.args.said)) max_clients _ c.places_called-places.ensures in
    let called = c.loop-called.invariant.1.few in
    let one = all_or_none (not (eqb c.opener_answered-answered.result nobody)) 1 _ c.one_if-count-2.ensures in
    let few = c.loop-k.invariant.1.few in
    let within : c.loop-k.k < length grants = omega (arith, length_beside c.args.said c.args.words.now) in (
      omega arith,
      beside-more _ _ _ _ _ (omega arith) c.loop-k.k grants _ _ within c.opener_beside-opener.ensures
          c.note-in-loop-k.ensures c.one_if-count-in-loop-k.ensures c.loop-k.invariant.1,
    )

-- ---- all of them

pub returns-clause-records_value : goal.returns-clause-records_value
returns-clause-records_value c few =
    let a = c.args in
    let step = c.in-Some.step in
    let words = a.words.now in
    let grants = grants_said a.said words in
    let most = all_or_none (calls? (letter_said a.said)) max_clients _ c.places_called-places.ensures in
    let all-sent : c.loop-block.block ≡ c.sent_by-sent.result = omega arith in
    let is-sent : c.sent_by-sent.result ≡ sent_by step a.itself (reply_said a.said words) = c.sent_by-sent.ensures.value (rw c.in-Some.is at few) in
    let all-called : c.loop-called.called ≡ c.places_called-places.result = omega arith in
    let all-granted : c.loop-k.k ≡ c.places_granted-files.result = omega arith in
    let noted-calls = call_records (ordered_calls c.loop-called.called c.calls_with-calls.result) in
    all_noted c.note.result _ noted-calls (open_record c.opener_answered-answered.result) _ _ _ _ _ refl
    (rw all-sent at c.loop-block.invariant.1.first)
    (open_more _ _ _ _ _ (omega (arith, c.loop-called.invariant.1.few)) _ _ _ _ c.note-2.ensures c.one_if-count-2.ensures
    c.loop-called.invariant.1).first
    c.loop-k.invariant.1.first
    ∙ all_meant a.stations step a.itself (reply_said a.said words) (calls_said a.said words) grants _ _ _ _ _
    (sym c.if-not-names_station.ensures)
    (c.note.ensures
    ∙ ap₂ (noted c.asked-station.result.client) c.kind_of.ensures (c.outcome_of.ensures words)
    ∙ ap (λ (q : Numbers). noted q.client (kind_of step) (outcome_of a.itself (reply_said a.said words))) c.asked-station.ensures)
    (ap (λ n. replicate n (noted c.asked-station.result.client Sent Done)) is-sent
    ∙ ap (λ (q : Numbers). replicate (sent_by step a.itself (reply_said a.said words)) (noted q.client Sent Done)) c.asked-station.ensures)
    (ap₂ (λ n l. call_records (ordered_calls n l)) all-called c.calls_with-calls.ensures
    ∙ called_all a.said words c.places_called-places.result c.places_called-places.ensures)
    (sym c.opener_answered-answered.ensures)
    (ap (λ n. open_records (take n grants)) all-granted ∙ c.places_granted-files.ensures.by_index words)
    ∙ ap (λ (p : Option Step). records_given a.stations p a.itself (reply_said a.said words) (calls_said a.said words) grants)
    (sym c.in-Some.is)

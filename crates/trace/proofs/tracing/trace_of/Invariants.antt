-- What the loops of `trace_of` keep: each notes its records after those that counted before it. Assumes nothing.
use Rattle.std.proofs.Common.{◌+◌, ◌≤◌, take}
use lib.ListN.{replicate}
use Rattle.decision.specs.Callback.{ordered_calls}
use Rattle.words.specs.Said.{grants_said}
use Rattle.trace.specs.declared.record.TraceKind.TheVariants.{Sent}
use Rattle.trace.specs.declared.record.TraceOutcome.TheVariants.{Done}
use Rattle.trace.specs.Records.{noted, call_records, open_records}
use Rattle.trace.proofs.Noting.{Noting}
use Rattle.trace.proofs.tracing.trace_of.Given as goal

abbrev pub invariant-loop-block : goal.invariant-loop-block
invariant-loop-block l =
    (l.block ≤ l.sent)
    × Noting l.initial.records 1 l.block l.records (l.block + 1) (replicate l.block (noted l.station Sent Done))

abbrev pub invariant-loop-called : goal.invariant-loop-called
invariant-loop-called l =
    (l.called ≤ l.places)
    × Noting l.initial.records l.initial.count l.called l.records l.count (call_records (ordered_calls l.called l.calls))

abbrev pub invariant-loop-k : goal.invariant-loop-k
invariant-loop-k l =
    (l.k ≤ l.files)
    × Noting l.initial.records l.initial.count l.k l.records l.count (open_records (take l.k (grants_said l.said l.words)))

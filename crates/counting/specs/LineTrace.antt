-- The trace of a line.
use Rattle.std.specs.Prelude.{ℕ, List, [], Option, Some, None}
use Rattle.service.specs.declared.service.Service.{Service}
use Rattle.service.specs.Contents.{sizes_of}
use Rattle.stepfile.specs.Grammar.{parse_line}
use Rattle.trace.specs.declared.record.TraceRecord.{TraceRecord}
use Rattle.trace.specs.Records.{trace_of}
use Rattle.protocol.specs.declared.step.Step.{Step}

abbrev pub stations_of : Service → ℕ
stations_of s = (sizes_of s).clients

-- "lends each line's records as a trace": the one of its step, from service s on; a line that is no step has none
abbrev pub trace_in : Service → Option Step → List TraceRecord
trace_in s (Some x) = trace_of s x
trace_in s None = []

abbrev pub trace_at : Service → List ℕ → List TraceRecord
trace_at s l = trace_in s (parse_line l)

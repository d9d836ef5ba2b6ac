-- The numbers of a whole input: what `traffic` prints is each station's number of such records in all traces that were
-- lent, and their sums (`run_counts`, proofs/Run.antt).
use Rattle.std.specs.Prelude.{ℕ, ◌+◌, Bool, true, List, [], ◌∷◌, ◌++◌}
use Rattle.sizes.specs.Sizes.{default_sizes}
use Rattle.service.specs.declared.service.Service.{Service}
use Rattle.service.specs.Fresh.{fresh}
use Rattle.stepfile.specs.Played.{service_after, end_of}
use Rattle.stepfile.specs.Transcript.{lines}
use Rattle.trace.specs.declared.record.TraceRecord.{TraceRecord}
use Rattle.trace.specs.Number.{at_most, number_in}
use Rattle.counting.specs.Printed.{traffic_text}
use Rattle.counting.specs.LineTrace.{stations_of, trace_at}

-- the records of all lines from service s on, the first of them numbered n, one trace after the other
unfoldable pub traces_of : Bool → Service → ℕ → List (List ℕ) → List TraceRecord
traces_of settable s n [] = []
traces_of settable s n (l ∷ ls) = trace_at s l ++ traces_of settable (service_after settable s n l) (n + 1) ls

-- "Every printed total, while below 2 to the 64th, equals the number of such records in all traces lent, and the whole
-- equals the sum over stations"
abbrev pub traffic_from : Bool → Service → List ℕ → List ℕ
traffic_from settable s input =
    let records = traces_of settable s 1 (lines input) in
    traffic_text (stations_of (end_of settable s input)) (λ station column. at_most (number_in station column records))

-- from a fresh service, whose sizes the first line may choose
unfoldable pub traffic_file : List ℕ → List ℕ
traffic_file input = traffic_from true (fresh default_sizes) input

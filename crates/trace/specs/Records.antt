-- The records of a line: of its step, what the station could do itself just before, its reply, and what it brings to others.
use Rattle.std.specs.Prelude.{ℕ, ◌+◌, Bool, false, cond, not, ◌&&◌, List, [], ◌∷◌, ◌++◌, Option, Some, None, ◌%◌, true, eqb, ltb}
use Rattle.std.specs.Prelude.{get_or, take, replicate}
use Rattle.sizes.specs.Sizes.{max_clients, max_files, max_blocks, nobody, cell}
use Rattle.decision.specs.Callback.{ordered_calls}
use Rattle.protocol.specs.declared.reply.Granting.{Granting}
use Rattle.protocol.specs.declared.reply.Reply.{Reply}
use Rattle.protocol.specs.declared.reply.Reply.TheVariants as replies
use Rattle.protocol.specs.declared.step.Step.{Step}
use Rattle.protocol.specs.declared.step.Step.TheVariants as steps
use Rattle.protocol.specs.Reply.{brought}
use Rattle.protocol.specs.Needs.{needs_server}
use Rattle.protocol.specs.Step.{client_of, file_of, block_of}
use Rattle.words.specs.Words.{side_held}
use Rattle.words.specs.Rows.{word_at}
use Rattle.service.specs.declared.service.Service.{Service}
use Rattle.service.specs.Contents.{sizes_of, client_at, held_at}
use Rattle.service.specs.Step.{step_of}
use Rattle.trace.specs.declared.record.TraceKind.{TraceKind}
use Rattle.trace.specs.declared.record.TraceKind.TheVariants.{Open, Close, Read, Sent, Call, Other}
use Rattle.trace.specs.declared.record.TraceOutcome.{TraceOutcome}
use Rattle.trace.specs.declared.record.TraceOutcome.TheVariants.{Done, Hit, Fetched, Refused, Pending}
use Rattle.trace.specs.declared.record.TraceRecord.{TraceRecord}
use Rattle.trace.specs.declared.tracing.Trace.{Trace}
use Rattle.trace.specs.Counted.{is_counted}

abbrev pub noted : ℕ → TraceKind → TraceOutcome → TraceRecord
noted station kind outcome = record { station = station; kind = kind; outcome = outcome }

-- the server's crash and its end of recovery are no station's
abbrev pub is_servers : Step → Bool
is_servers (steps.Open m i f) = false
is_servers (steps.Close m i f) = false
is_servers (steps.Read i f b) = false
is_servers (steps.Write i f b v) = false
is_servers (steps.Flush i f b) = false
is_servers (steps.Answer i f) = false
is_servers steps.Crash = true
is_servers (steps.Report i) = false
is_servers steps.End = true
is_servers (steps.Restart i) = false
is_servers (steps.Embargo i f) = false
is_servers (steps.Lift i) = false

-- "a step that names no valid station makes none": one outside the settings, and one of the server's
abbrev pub names_station : ℕ → Step → Bool
names_station stations x = is_counted stations (client_of x) && not (is_servers x)

abbrev pub kind_of : Step → TraceKind
kind_of (steps.Open m i f) = Open
kind_of (steps.Close m i f) = Close
kind_of (steps.Read i f b) = Read
kind_of (steps.Write i f b v) = Other
kind_of (steps.Flush i f b) = Other
kind_of (steps.Answer i f) = Other
kind_of steps.Crash = Other
kind_of (steps.Report i) = Other
kind_of steps.End = Other
kind_of (steps.Restart i) = Other
kind_of (steps.Embargo i f) = Other
kind_of (steps.Lift i) = Other

-- "an accepted read not a hit as a fetch": a hit needs no server
abbrev pub outcome_of : Bool → Reply → TraceOutcome
outcome_of itself (replies.Granted g) = Done
outcome_of itself replies.Waiting = Pending
outcome_of itself (replies.Value v) = cond itself Hit Fetched
outcome_of itself (replies.Refused k) = Refused
outcome_of itself (replies.Answered n) = Done
outcome_of itself (replies.AnsweredGrant n i g) = Done
outcome_of itself replies.Done = Done

-- "each block sent, uncached too": by a write that the server is needed for, by a flush, and by an answer, which tells
-- how many
abbrev pub sends_one : Step → Bool → Bool
sends_one (steps.Open m i f) itself = false
sends_one (steps.Close m i f) itself = false
sends_one (steps.Read i f b) itself = false
sends_one (steps.Write i f b v) itself = not itself
sends_one (steps.Flush i f b) itself = true
sends_one (steps.Answer i f) itself = false
sends_one steps.Crash itself = false
sends_one (steps.Report i) itself = false
sends_one steps.End itself = false
sends_one (steps.Restart i) itself = false
sends_one (steps.Embargo i f) itself = false
sends_one (steps.Lift i) itself = false

abbrev pub sent_by : Step → Bool → Reply → ℕ
sent_by x itself (replies.Granted g) = 0
sent_by x itself replies.Waiting = 0
sent_by x itself (replies.Value v) = 0
sent_by x itself (replies.Refused k) = 0
sent_by x itself (replies.Answered n) = n
sent_by x itself (replies.AnsweredGrant n i g) = n
sent_by x itself replies.Done = cond (sends_one x itself) 1 0

-- "a call at the station called"
unfoldable pub call_records : List (ℕ × ℕ) → List TraceRecord
call_records [] = []
call_records (c ∷ cs) = noted c.0 Call Done ∷ call_records cs

-- "Opens .. count when granted": those of others, at the opener
abbrev pub open_record : ℕ → List TraceRecord
open_record opener = cond (eqb opener nobody) [] (noted opener Open Done ∷ [])

unfoldable pub open_records : List Granting → List TraceRecord
open_records [] = []
open_records (g ∷ gs) = open_record g.client ++ open_records gs

-- the records of a step of a valid station: its own, one for each block sent, call and grant
abbrev pub station_records : Step → Bool → Reply → List ℕ → List Granting → List TraceRecord
station_records x itself reply calls grants =
    noted (client_of x) (kind_of x) (outcome_of itself reply)
    ∷ (replicate (sent_by x itself reply) (noted (client_of x) Sent Done)
    ++ (call_records (ordered_calls max_clients calls) ++ open_records (brought reply ++ grants)))

unfoldable pub records_of : ℕ → Step → Bool → Reply → List ℕ → List Granting → List TraceRecord
records_of stations x itself reply calls grants =
    cond (names_station stations x) (station_records x itself reply calls grants) []

-- a line that is no step makes none, and sends no block
abbrev pub records_given : ℕ → Option Step → Bool → Reply → List ℕ → List Granting → List TraceRecord
records_given stations (Some x) itself reply calls grants = records_of stations x itself reply calls grants
records_given stations None itself reply calls grants = []

abbrev pub sent_given : Option Step → Bool → Reply → ℕ
sent_given (Some x) itself reply = sent_by x itself reply
sent_given None itself reply = 0

-- whether the station needs no server for the step itself: a read from its copy, or a delayed write; one that takes a
-- place asks for it, and sends no block
abbrev pub serves_itself : Service → Step → Bool
serves_itself s x =
    not (needs_server x (client_at s (client_of x) (file_of x)) (held_at s (client_of x) (file_of x) (block_of x)) false)

-- the same, as it is found in the table and the held copies, at wrapped numbers; of no step it is not
abbrev pub itself_found : Option Step → List ℕ → List Bool → Bool
itself_found (Some x) t held =
    not
    (needs_server x (side_held (word_at t (file_of x % max_files) (10 + client_of x % max_clients)))
    (get_or held (cell (client_of x % max_clients) (file_of x % max_files) (block_of x % max_blocks)) false) false)
itself_found None t held = false

-- the trace of a step from a service
abbrev pub trace_of : Service → Step → List TraceRecord
trace_of s x =
    let o = step_of s x in
    records_of (sizes_of s).clients x (serves_itself s x) o.reply o.calls o.grants

-- room for the records of a line: its own, one for each block, each station that is called, the open that an answer
-- grants, and one for each file
abbrev pub trace_room : ℕ
trace_room = 2 + max_blocks + max_clients + max_files

-- the records of a trace: the first so many, all of them at most
abbrev pub within_room : ℕ → ℕ
within_room count = cond (ltb count trace_room) count trace_room

abbrev pub records_in : Trace → List TraceRecord
records_in t = take (within_room t.count) t.records

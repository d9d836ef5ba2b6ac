-- The whole output for a whole input: the transcript of its lines from the fresh service, or from another, then the
-- summary.
use Rattle.std.specs.Prelude.{ℕ, Bool, true, cond, ◌&&◌, List, ◌++◌, Option, Some, None, Ok, Err, eqb}
use Rattle.protocol.specs.declared.reply.Reply.TheVariants.{Refused, Done}
use Rattle.service.specs.declared.service.Service.{Service}
use Rattle.service.specs.declared.outcome.Outcome.{Outcome}
use Rattle.sizes.specs.Sizes.{default_sizes}
use Rattle.protocol.specs.Reply.{no_calls, no_grants}
use Rattle.service.specs.Contents.{sizes_of, table_in}
use Rattle.service.specs.Step.{step_of}
use Rattle.service.specs.Fresh.{fresh}
use Rattle.protocol.specs.declared.step.Step.{Step}
use Rattle.stepfile.specs.declared.setting.NoSizes.TheVariants.{OutOfRange, Missing}
use Rattle.stepfile.specs.Grammar.{parse_line}
use Rattle.stepfile.specs.Setting.{Setting, setting_of}
use Rattle.stepfile.specs.Line.{line_text}
use Rattle.stepfile.specs.Summary.{summary_text}
use Rattle.stepfile.specs.Transcript.{lines, transcript, after}

-- "A refusal gives only its number"
abbrev pub refused_with : Service → ℕ → Outcome
refused_with s k = record { service = s; reply = Refused k; calls = no_calls; grants = no_grants }

-- "A SET line is answered K; refused, it leaves 8, 32 and 4": the service is a fresh one of these sizes, or stays.
-- "19 when a setting lies outside its range, directly after 1."
abbrev pub set_outcome : Service → Setting → Outcome
set_outcome s (Ok z) = record { service = fresh z; reply = Done; calls = no_calls; grants = no_grants }
set_outcome s (Err OutOfRange) = refused_with s 19
set_outcome s (Err Missing) = refused_with s 1

-- "A line that does not give a step is refused before any state is looked at": 1. "chosen when the service starts, by
-- a first line SET ..; on a later line it is no step". The Bool says whether a first line may choose the sizes. It
-- may not where the session goes on from a service that has its sizes.
abbrev pub outcome_of : Bool → Service → ℕ → List ℕ → Option Step → Outcome
outcome_of settable s n l (Some x) = step_of s x
outcome_of settable s n l None = cond (settable && eqb n 1) (set_outcome s (setting_of l)) (refused_with s 1)

-- what is said of line l, numbered n, and the service after it
unfoldable pub reply_line : Bool → Service → ℕ → List ℕ → List ℕ
reply_line settable s n l = let o = outcome_of settable s n l (parse_line l) in
    line_text n o.reply o.calls o.grants

unfoldable pub service_after : Bool → Service → ℕ → List ℕ → Service
service_after settable s n l = (outcome_of settable s n l (parse_line l)).service

abbrev pub summary_of : Service → List ℕ
summary_of s = summary_text (sizes_of s) (table_in s).files

-- the reply lines of lines from service s on, the first of them numbered n, and the service after them
abbrev pub reply_lines : Bool → Service → ℕ → List (List ℕ) → List ℕ
reply_lines settable s n ls = transcript (reply_line settable) (service_after settable) s n ls

abbrev pub after_lines : Bool → Service → ℕ → List (List ℕ) → Service
after_lines settable s n ls = after (service_after settable) s n ls

-- the whole output for an input that is played from service s on, and the service at its end
abbrev pub end_of : Bool → Service → List ℕ → Service
end_of settable s input = after_lines settable s 1 (lines input)

abbrev pub played_from : Bool → Service → List ℕ → List ℕ
played_from settable s input = reply_lines settable s 1 (lines input) ++ summary_of (end_of settable s input)

-- from a fresh service, whose sizes the first line may choose
unfoldable pub played : List ℕ → List ℕ
played input = played_from true (fresh default_sizes) input

-- The service with the ledger and the counts of refusals beside it, and what a line leaves of the three. The Bool `fresh`
-- says whether the session began with the fresh service: a first line may choose its sizes then (`settable` in
-- crates/stepfile/specs/Played.antt).
use Rattle.std.specs.Prelude.{ℕ, Bool, List, Option, Some, None}
use Rattle.service.specs.declared.service.Service.{Service}
use Rattle.stepfile.specs.Grammar.{parse_line}
use Rattle.stepfile.specs.Played.{outcome_of}
use Rattle.ledger.specs.declared.annotated.Annotated.{Annotated}
use Rattle.ledger.specs.declared.ledger.Ledger.{Ledger}
use Rattle.ledger.specs.Ledger.{empty_ledger, ledger_after}
use Rattle.ledger.specs.Refusals.{no_refusals, refusals_after}
use Rattle.protocol.specs.declared.step.Step.{Step}

-- the service with nothing noted yet
abbrev pub unannotated : Service → Annotated
unannotated s = record { service = s; ledger = empty_ledger; refusals = no_refusals }

-- a line that gives no step notes nothing in the ledger
abbrev pub ledger_of : Service → Ledger → ℕ → Option Step → Ledger
ledger_of s l n (Some x) = ledger_after n s x l
ledger_of s l n None = l

-- the state after line l, numbered n, which gives p
abbrev pub annotated_by : Bool → Annotated → ℕ → List ℕ → Option Step → Annotated
annotated_by fresh t n l p =
    let o = outcome_of fresh t.service n l p in
    record {
      service = o.service;
      ledger = ledger_of t.service t.ledger n p;
      refusals = refusals_after o.reply t.refusals;
    }

-- for `transcript` (crates/stepfile/specs/Transcript.antt)
unfoldable pub annotated_after : Bool → Annotated → ℕ → List ℕ → Annotated
annotated_after fresh t n l = annotated_by fresh t n l (parse_line l)

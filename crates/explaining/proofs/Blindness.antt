-- Of a line of more than 87 bytes the same is said and noted, whatever it is. Assumes nothing.
use Prim.Native.Nat.{ℕ, ◌<◌}
use mathlib.Core.Path.{◌≡◌, sym, ap, ◌∙◌}
use mathlib.Core.Bool.{Bool, cond, ◌&&◌}
use mathlib.Core.List.{List}
use lib.Dec.{eqb}
use lib.ListN.{length}
use Rattle.service.specs.declared.outcome.Outcome.{Outcome}
use Rattle.stepfile.specs.Grammar.{parse_line}
use Rattle.stepfile.specs.Played.{outcome_of}
use Rattle.stepfile.proofs.Longest.{no_step, no_setting}
use Rattle.stepfile.proofs.LongLines.{Blind, outcome_alike}
use Rattle.ledger.specs.declared.annotated.Annotated.{Annotated}
use Rattle.ledger.specs.declared.ledger.Ledger.{Ledger}
use Rattle.ledger.specs.Refusals.{refusals_after}
use Rattle.ledger.specs.Annotated.{ledger_of, annotated_after}
use Rattle.sentences.specs.Explained.{no_step_text, setting_text, said_of_line, explained_text, explained_line}
use Rattle.stepfile.specs.Setting.{Setting}

module _ (fresh : Bool) (t : Annotated) (n : ℕ) where
  -- in words that do not name the line
  said_long : (l : List ℕ) → 87 < length l
      → said_of_line fresh t.service t.ledger n l (parse_line l) ≡ cond (fresh && eqb n 1) no_step_text no_step_text
  said_long l long =
      ap (said_of_line fresh t.service t.ledger n l) (no_step l long)
      ∙ ap (λ (x : Setting). cond (fresh && eqb n 1) (setting_text x) no_step_text) (no_setting l long)

  noted_long : (l : List ℕ) → 87 < length l → ledger_of t.service t.ledger n (parse_line l) ≡ t.ledger
  noted_long l long = ap (ledger_of t.service t.ledger n) (no_step l long)

  module _ (l m : List ℕ) (l-long : 87 < length l) (m-long : 87 < length m) where
    abbrev after : List ℕ → Outcome
    after l = outcome_of fresh t.service n l (parse_line l)

    alike : after l ≡ after m
    alike = outcome_alike fresh t.service n l m l-long m-long

    says-alike : explained_line fresh t n l ≡ explained_line fresh t n m
    unfolding explained_line
    says-alike =
        ap (λ (o : Outcome). explained_text n o.reply o.calls o.grants (said_of_line fresh t.service t.ledger n l (parse_line l))) alike
        ∙ ap (λ (k : List ℕ). explained_text n (after m).reply (after m).calls (after m).grants k) (said_long l l-long ∙ sym (said_long m m-long))

    goes-alike : annotated_after fresh t n l ≡ annotated_after fresh t n m
    unfolding annotated_after
    goes-alike =
        ap
        (λ (o : Outcome).
        record {
          service = o.service;
          ledger = ledger_of t.service t.ledger n (parse_line l);
          refusals = refusals_after o.reply t.refusals;
        })
        alike
        ∙ ap
        (λ (k : Ledger). record { service = (after m).service; ledger = k; refusals = refusals_after (after m).reply t.refusals })
        (noted_long l l-long ∙ sym (noted_long m m-long))

pub explained_blind : (fresh : Bool) → Blind (explained_line fresh) (annotated_after fresh)
explained_blind fresh = record { says = says-alike fresh; goes = goes-alike fresh }

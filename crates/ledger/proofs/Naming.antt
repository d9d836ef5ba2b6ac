-- The lines of a block name the latest write at risk and the latest safe one of its history, and its loss, after every
-- step; and the history without its lines is the reference memory's. It leads to the promise on every list of lines.
-- Assumes nothing.
use Prim.Native.Nat.{ℕ, ◌<◌}
use native.Mathlib.Omega.{arith}
use mathlib.Core.Path.{◌≡◌, refl, sym, ap, ◌∙◌, subst, subst⁻¹}
use mathlib.Core.Bool.{Bool, true, false, cond, not, ◌&&◌, ◌||◌}
use mathlib.Core.List.{[], ◌∷◌}
use mathlib.Core.Logic.{inl, inr}
use lib.Dec.{eqb}
use borrow.Author.Tests.{ne_eqb}
use Rattle.protocol.specs.declared.step.Step.{Step}
use Rattle.protocol.specs.declared.step.Step.TheVariants.{Open, Close, Read, Write, Flush, Answer, Crash, Report, End}
use Rattle.protocol.specs.declared.step.Step.TheVariants.{Restart, Embargo, Lift}
use Rattle.protocol.specs.Book.{Written, HistoryOf, History, wrote, came, lost, risked_by, Named, none, by, first_of}
use Rattle.protocol.proofs.Invariant.{AllSafe, Risks}
use Rattle.protocol.proofs.Invariant.Summary.{Summary, risk_of, summary, came-summary, lost-summary}
use Rattle.service.specs.declared.service.Service.{Service}
use Rattle.service.specs.Contents.{embargoed_at}
use Rattle.service.specs.Demand3.{Memory, delays, fed}
use Rattle.service.proofs.Tests.{conflict, cond_ap}
use Rattle.ledger.specs.declared.lines.Lines.{Lines}
use Rattle.ledger.specs.Ledger.{wrote_lines, risks_in, came_lines, lost_lines}
use Rattle.ledger.specs.Provenance.{Noted, history_after, lost_write, earlier_loss, loss_after}
use Rattle.ledger.proofs.LinesAfter.{lines_after}

-- the line and its client are those of the write, and the line is above 0; or there is none, and the line is 0
abbrev pub Names : ℕ → ℕ → Named Noted → Type 0
Names line client none = line ≡ 0
Names line client (by i w) = (0 < w.line) × (line ≡ w.line) × (client ≡ i)

-- the lines name the two writes
pub record Notes (x : Lines) (y : Summary Noted) : Type 0 where
  pub risk : Names x.risk x.risker y.risk
  pub safe : Names x.safe x.saver y.safe

-- ---- who risks the latest write

-- a write that is named has a line
pub named_line : (line n : ℕ) → 0 < n → line ≡ n → eqb line 0 ≡ false
named_line line n some e = ne_eqb line 0 (λ z. omega (arith, some, e, z))

pub risks_is : (i : ℕ) (x : Lines) (k : HistoryOf Noted) → Notes x (summary k) → risks_in i x ≡ risked_by i k
risks_is i x [] h = ap (λ r. not (eqb r 0) && eqb x.risker i) h.risk
risks_is i x (w ∷ ws) h = at w.safe h.risk
  where
    at : (t : Bool)
        → Names x.risk x.risker (cond t none (by w.client w.value))
        → risks_in i x ≡ (not t && eqb w.client i)
    at true line = ap (λ r. not (eqb r 0) && eqb x.risker i) line
    at false (some, line, client) =
        ap (λ t. not t && eqb x.risker i) (named_line x.risk w.value.line some line)
        ∙ ap (λ c. eqb c i) client

-- the latest write is the one at risk
first_risked : (i : ℕ) (k : HistoryOf Noted) → risked_by i k ≡ true → risk_of k ≡ first_of k
first_risked i [] e = conflict e refl
first_risked i (w ∷ ws) e = at w.safe e
  where
    at : (t : Bool)
        → (not t && eqb w.client i) ≡ true
        → cond t none (by w.client w.value) ≡ by w.client w.value
    at true e = conflict e refl
    at false e = refl

-- ---- what a step makes of the lines and of the history

-- a write where t holds, unless it is refused; under embargo it is not in the history
notes_wrote :
    (t refusal aside : Bool) (n i v : ℕ) (delayed : Bool) (x : Lines) (k : HistoryOf Noted)
    → 0 < n
    → Notes x (summary k)
    → Notes (cond (t && not refusal) (wrote_lines n i aside delayed x) x)
    (summary (cond (t && not (refusal || aside)) (wrote i (record { line = n; value = v }) delayed k) k))
notes_wrote false refusal aside n i v delayed x k some h = h
notes_wrote true true aside n i v delayed x k some h = h
notes_wrote true false true n i v delayed x k some h = record { risk = h.risk; safe = h.safe }
notes_wrote true false false n i v true x k some h = record { risk = (some, refl, refl); safe = h.safe }
notes_wrote true false false n i v false x k some h = record { risk = refl; safe = (some, refl, refl) }

module _ (i j : ℕ) (x : Lines) (k : HistoryOf Noted) (shape : Risks j k) (h : Notes x (summary k)) where
  notes_came : Notes (came_lines i x) (summary (came i k))
  notes_came =
      subst⁻¹ (λ t. Notes (cond t sent x) (summary (came i k))) (risks_is i x k h)
      (subst⁻¹ (Notes (cond (risked_by i k) sent x)) (came-summary i j k shape) (at (risked_by i k) refl))
    where
      sent : Lines
      sent = record { safe = x.risk; saver = x.risker; risk = 0; risker = 0; lost = x.lost; loser = x.loser }

      at : (t : Bool)
          → risked_by i k ≡ t
          → Notes (cond t sent x) (cond t (record { risk = none; safe = first_of k }) (summary k))
      at true e = record { risk = refl; safe = subst (Names x.risk x.risker) (first_risked i k e) h.risk }
      at false e = h

  notes_lost : Notes (lost_lines i x) (summary (lost i k))
  notes_lost =
      subst⁻¹ (λ t. Notes (cond t gone x) (summary (lost i k))) (risks_is i x k h)
      (subst⁻¹ (Notes (cond (risked_by i k) gone x)) (lost-summary i j k shape) (at (risked_by i k)))
    where
      gone : Lines
      gone =
          record {
            safe = x.safe;
            saver = x.saver;
            risk = 0;
            risker = 0;
            lost = cond (eqb x.lost 0) x.risk x.lost;
            loser = cond (eqb x.lost 0) x.risker x.loser;
          }

      at : (t : Bool)
          → Notes (cond t gone x) (cond t (record { risk = none; safe = (summary k).safe }) (summary k))
      at true = record { risk = refl; safe = h.safe }
      at false = h

-- a change is made where t holds
choose :
    (t : Bool) (y x : Lines) (k' k : HistoryOf Noted)
    → Notes y (summary k')
    → Notes x (summary k)
    → Notes (cond t y x) (summary (cond t k' k))
choose true y x k' k p h = p
choose false y x k' k p h = h

pub notes_after :
    (f b n : ℕ) (s : Service) (x : Step) (refusal : Bool) (y : Lines) (j : ℕ) (k : HistoryOf Noted)
    → 0 < n
    → Risks j k
    → Notes y (summary k)
    → Notes (lines_after f b n s x refusal y) (summary (history_after f b n s x refusal k))
notes_after f b n s (Open m i f') refusal y j k some shape h = h
notes_after f b n s (Close m i f') refusal y j k some shape h = h
notes_after f b n s (Read i f' b') refusal y j k some shape h = h
notes_after f b n s (Write i f' b' v) refusal y j k some shape h =
    notes_wrote (eqb f f' && eqb b b') refusal (embargoed_at s i) n i v (delays s i f') y k some h
notes_after f b n s (Flush i f' b') refusal y j k some shape h =
    choose (eqb f f' && eqb b b' && not refusal) (came_lines i y) y (came i k) k (notes_came i j y k shape h) h
notes_after f b n s (Answer i f') refusal y j k some shape h =
    choose (eqb f f' && not refusal) (came_lines i y) y (came i k) k (notes_came i j y k shape h) h
notes_after f b n s Crash refusal y j k some shape h = h
notes_after f b n s (Report i) refusal y j k some shape h = h
notes_after f b n s End refusal y j k some shape h = h
notes_after f b n s (Restart i) refusal y j k some shape h =
    choose refusal y (lost_lines i y) k (lost i k) h (notes_lost i j y k shape h)
notes_after f b n s (Embargo i f') refusal y j k some shape h =
    choose refusal y (lost_lines i y) k (lost i k) h (notes_lost i j y k shape h)
notes_after f b n s (Lift i) refusal y j k some shape h = h

-- ---- the loss

abbrev pub NamesLost : Lines → Named Noted → Type 0
NamesLost x o = Names x.lost x.loser o

loss_wrote :
    (n i v : ℕ) (aside delayed : Bool) (x : Lines)
    → 0 < n
    → NamesLost (wrote_lines n i aside delayed x) (lost_write aside i (record { line = n; value = v }))
loss_wrote n i v true delayed x some = (some, refl, refl)
loss_wrote n i v false true x some = refl
loss_wrote n i v false false x some = refl

loss_came : (i : ℕ) (x : Lines) (o : Named Noted) → NamesLost x o → NamesLost (came_lines i x) o
loss_came i x o h = at (risks_in i x)
  where
    at : (t : Bool)
        → NamesLost
        (cond t
        (record { safe = x.risk; saver = x.risker; risk = 0; risker = 0; lost = x.lost; loser = x.loser })
        x)
        o
    at true = h
    at false = h

-- the loss before, if there is one, else the write that is lost now
loss_kept :
    (line client now by' : ℕ) (o p : Named Noted)
    → Names line client o
    → Names now by' p
    → Names (cond (eqb line 0) now line) (cond (eqb line 0) by' client) (earlier_loss o p)
loss_kept line client now by' none p h h' =
    subst⁻¹ (λ t. Names (cond t now line) (cond t by' client) p) (ap (λ r. eqb r 0) h) h'
loss_kept line client now by' (by i w) p (some, is, who) h' =
    subst⁻¹ (λ t. Names (cond t now line) (cond t by' client) (by i w)) (named_line line w.line some is)
    (some, is, who)

loss_lost :
    (i : ℕ) (x : Lines) (k : HistoryOf Noted) (o : Named Noted)
    → Notes x (summary k)
    → NamesLost x o
    → NamesLost (lost_lines i x) (cond (risked_by i k) (earlier_loss o (first_of k)) o)
loss_lost i x k o notes h =
    subst⁻¹ (λ t. NamesLost (cond t gone x) (cond (risked_by i k) (earlier_loss o (first_of k)) o)) (risks_is i x k notes)
    (at (risked_by i k) refl)
  where
    gone : Lines
    gone =
        record {
          safe = x.safe;
          saver = x.saver;
          risk = 0;
          risker = 0;
          lost = cond (eqb x.lost 0) x.risk x.lost;
          loser = cond (eqb x.lost 0) x.risker x.loser;
        }

    at : (t : Bool) → risked_by i k ≡ t → NamesLost (cond t gone x) (cond t (earlier_loss o (first_of k)) o)
    at true e =
        loss_kept x.lost x.loser x.risk x.risker o (first_of k) h
        (subst (Names x.risk x.risker) (first_risked i k e) notes.risk)
    at false e = h

choose_loss :
    (t : Bool) (y x : Lines) (o' o : Named Noted)
    → NamesLost y o'
    → NamesLost x o
    → NamesLost (cond t y x) (cond t o' o)
choose_loss true y x o' o p h = p
choose_loss false y x o' o p h = h

choose_same :
    (t : Bool) (y x : Lines) (o : Named Noted) → NamesLost y o → NamesLost x o → NamesLost (cond t y x) o
choose_same true y x o p h = p
choose_same false y x o p h = h

pub loss_after_lem :
    (f b n : ℕ) (s : Service) (x : Step) (refusal : Bool) (y : Lines) (k : HistoryOf Noted) (o : Named Noted)
    → 0 < n
    → Notes y (summary k)
    → NamesLost y o
    → NamesLost (lines_after f b n s x refusal y) (loss_after f b n s x refusal k o)
loss_after_lem f b n s (Open m i f') refusal y k o some notes h = h
loss_after_lem f b n s (Close m i f') refusal y k o some notes h = h
loss_after_lem f b n s (Read i f' b') refusal y k o some notes h = h
loss_after_lem f b n s (Write i f' b' v) refusal y k o some notes h =
    choose_loss (eqb f f' && eqb b b' && not refusal) (wrote_lines n i (embargoed_at s i) (delays s i f') y) y
    (lost_write (embargoed_at s i) i (record { line = n; value = v })) o
    (loss_wrote n i v (embargoed_at s i) (delays s i f') y some) h
loss_after_lem f b n s (Flush i f' b') refusal y k o some notes h =
    choose_same (eqb f f' && eqb b b' && not refusal) (came_lines i y) y o (loss_came i y o h) h
loss_after_lem f b n s (Answer i f') refusal y k o some notes h =
    choose_same (eqb f f' && not refusal) (came_lines i y) y o (loss_came i y o h) h
loss_after_lem f b n s Crash refusal y k o some notes h = h
loss_after_lem f b n s (Report i) refusal y k o some notes h = h
loss_after_lem f b n s End refusal y k o some notes h = h
loss_after_lem f b n s (Restart i) true y k o some notes h = h
loss_after_lem f b n s (Restart i) false y k o some notes h = loss_lost i y k o notes h
loss_after_lem f b n s (Embargo i f') true y k o some notes h = h
loss_after_lem f b n s (Embargo i f') false y k o some notes h = loss_lost i y k o notes h
loss_after_lem f b n s (Lift i) refusal y k o some notes h = h

-- ---- the reference memory's history

-- the history without its lines
abbrev pub value_of : Written Noted → Written ℕ
value_of w = record { client = w.client; value = w.value.value; safe = w.safe }

abbrev pub values_of : HistoryOf Noted → History
values_of [] = []
values_of (w ∷ ws) = value_of w ∷ values_of ws

values_came : (i : ℕ) (k : HistoryOf Noted) → values_of (came i k) ≡ came i (values_of k)
values_came i [] = refl
values_came i (w ∷ ws) =
    ap (λ r. record { client = w.client; value = w.value.value; safe = w.safe || eqb w.client i } ∷ r)
    (values_came i ws)

values_lost : (i : ℕ) (k : HistoryOf Noted) → values_of (lost i k) ≡ lost i (values_of k)
values_lost i [] = refl
values_lost i (w ∷ ws) = at (w.safe || not (eqb w.client i)) (values_lost i ws)
  where
    at : (t : Bool)
        → values_of (lost i ws) ≡ lost i (values_of ws)
        → values_of (cond t (w ∷ lost i ws) (lost i ws))
        ≡ cond t (value_of w ∷ lost i (values_of ws)) (lost i (values_of ws))
    at true e = ap (λ r. value_of w ∷ r) e
    at false e = e

safe_values : (k : HistoryOf Noted) → AllSafe (values_of k) → AllSafe k
safe_values [] h = tt
safe_values (w ∷ ws) h = (h.0, safe_values ws h.1)

pub risks_values : (j : ℕ) (k : HistoryOf Noted) → Risks j (values_of k) → Risks j k
risks_values j [] h = tt
risks_values j (w ∷ ws) (inl h) = inl (h.0, safe_values ws h.1)
risks_values j (w ∷ ws) (inr h) = inr (h.0, h.1, risks_values j ws h.2)

pub risked_values : (i : ℕ) (k : HistoryOf Noted) → risked_by i (values_of k) ≡ risked_by i k
risked_values i [] = refl
risked_values i (w ∷ ws) = refl

-- where a change is made if t holds and the step is not refused
changed :
    (t refusal : Bool) {old new : History} (k k' : HistoryOf Noted)
    → old ≡ values_of k
    → new ≡ values_of k'
    → cond refusal old (cond t new old) ≡ values_of (cond (t && not refusal) k' k)
changed true true k k' e e' = e
changed true false k k' e e' = e'
changed false true k k' e e' = e
changed false false k k' e e' = e

pub memory_after :
    (m : Memory) (n : ℕ) (s : Service) (x : Step) (refusal : Bool) (f b : ℕ) (k : HistoryOf Noted)
    → m f b ≡ values_of k
    → fed m x refusal (delays s) (embargoed_at s) f b ≡ values_of (history_after f b n s x refusal k)
memory_after m n s (Open mode i f') refusal f b k e = e
memory_after m n s (Close mode i f') refusal f b k e = e
memory_after m n s (Read i f' b') refusal f b k e = e
memory_after m n s (Write i f' b' v) refusal f b k e =
    cond_ap (λ (m : Memory). m f b) (refusal || embargoed_at s i) m _
    ∙ changed (eqb f f' && eqb b b') (refusal || embargoed_at s i) k (wrote i (record { line = n; value = v }) (delays s i f') k) e
    (ap (wrote i v (delays s i f')) e)
memory_after m n s (Flush i f' b') refusal f b k e =
    cond_ap (λ (m : Memory). m f b) refusal m _
    ∙ changed (eqb f f' && eqb b b') refusal k (came i k) e (ap (came i) e ∙ sym (values_came i k))
memory_after m n s (Answer i f') refusal f b k e =
    cond_ap (λ (m : Memory). m f b) refusal m _
    ∙ changed (eqb f f') refusal k (came i k) e (ap (came i) e ∙ sym (values_came i k))
memory_after m n s Crash refusal f b k e = e
memory_after m n s (Report i) refusal f b k e = e
memory_after m n s End refusal f b k e = e
memory_after m n s (Restart i) true f b k e = e
memory_after m n s (Restart i) false f b k e = ap (lost i) e ∙ sym (values_lost i k)
memory_after m n s (Embargo i f') true f b k e = e
memory_after m n s (Embargo i f') false f b k e = ap (lost i) e ∙ sym (values_lost i k)
memory_after m n s (Lift i) refusal f b k e = e

-- What has to be remembered of a history so that its latest write can be named: the latest write that is at risk, if the
-- latest is, and the latest safe one. It leads to the ledger, which keeps a line and a client for each. Assumes nothing.
use Prim.Native.Nat.{ℕ}
use mathlib.Core.Path.{◌≡◌, refl, sym, ◌∙◌, ap}
use mathlib.Core.Bool.{Bool, true, false, cond}
use mathlib.Core.List.{[], ◌∷◌}
use lib.Dec.{eqb}
use Rattle.sizes.proofs.Choosing.{when}
use Rattle.protocol.specs.Book.{HistoryOf, wrote, came, lost, risked_by, Named, none, by, first_of}
use Rattle.protocol.proofs.Invariant.{AllSafe, Risks}
use Rattle.protocol.proofs.Invariant.Flags.{split}
use Rattle.protocol.proofs.Invariant.Book.{came_clears, lost_clears, risked, unrisked}

pub record Summary (A : Type 0) : Type 0 where
  pub risk : Named A
  pub safe : Named A

module _ {A : Type 0} where
  abbrev pub risk_of : HistoryOf A → Named A
  risk_of [] = none
  risk_of (w ∷ ws) = cond w.safe none (by w.client w.value)

  abbrev pub safe_of : HistoryOf A → Named A
  safe_of [] = none
  safe_of (w ∷ ws) = cond w.safe (by w.client w.value) (safe_of ws)

  abbrev pub summary : HistoryOf A → Summary A
  summary k = record { risk = risk_of k; safe = safe_of k }

  abbrev pub or_else : Named A → Named A → Named A
  or_else none b = b
  or_else (by i a) b = by i a

  pub first_is : (k : HistoryOf A) → first_of k ≡ or_else (risk_of k) (safe_of k)
  first_is [] = refl
  first_is (w ∷ ws) = at w.safe
    where
      at : (t : Bool)
          → by w.client w.value
          ≡ or_else (cond t none (by w.client w.value)) (cond t (by w.client w.value) (safe_of ws))
      at true = refl
      at false = refl

  -- a write
  pub delayed_summary : (i : ℕ) (a : A) (k : HistoryOf A) → summary (wrote i a true k) ≡ record { risk = by i a; safe = safe_of k }
  delayed_summary i a k = refl

  pub sent_summary : (i : ℕ) (a : A) (k : HistoryOf A) → summary (wrote i a false k) ≡ record { risk = none; safe = by i a }
  sent_summary i a k = refl

  -- all are safe
  all_safe : (k : HistoryOf A) → AllSafe k → summary k ≡ record { risk = none; safe = first_of k }
  all_safe [] h = refl
  all_safe (w ∷ ws) h =
      λ j. record {
        risk = cond (h.0 j) none (by w.client w.value);
        safe = cond (h.0 j) (by w.client w.value) (safe_of ws);
      }

  first_came : (i : ℕ) (k : HistoryOf A) → first_of (came i k) ≡ first_of k
  first_came i [] = refl
  first_came i (w ∷ ws) = refl

  safe_lost : (i : ℕ) (k : HistoryOf A) → safe_of (lost i k) ≡ safe_of k
  safe_lost i [] = refl
  safe_lost i (w ∷ ws) =
      let rest = safe_lost i ws in
      split w.safe (λ p. cc) (λ p. split (eqb w.client i) (λ q. cc) (λ q. cc))

  -- where the latest write is at risk and client i's, it becomes the latest safe one, or is gone; else nothing changes
  module _ (i j : ℕ) (k : HistoryOf A) (shape : Risks j k) where
    pub came-summary :
        summary (came i k) ≡ cond (risked_by i k) (record { risk = none; safe = first_of k }) (summary k)
    came-summary =
        split (risked_by i k)
        (λ e. all_safe (came i k) (risked came_clears i j k shape e)
        ∙ ap (λ x. record { risk = none; safe = x }) (first_came i k)
        ∙ sym (when (record { risk = none; safe = first_of k }) (summary k) e))
        (λ e. ap summary (unrisked came_clears i j k shape e)
        ∙ sym (ap (λ b. cond b (record { risk = none; safe = first_of k }) (summary k)) e))

    pub lost-summary :
        summary (lost i k) ≡ cond (risked_by i k) (record { risk = none; safe = safe_of k }) (summary k)
    lost-summary =
        split (risked_by i k)
        (λ e. (λ m. record { risk = ap (λ (x : Summary A). x.risk) (all_safe (lost i k) (risked lost_clears i j k shape e)) m; safe = safe_lost i k m })
        ∙ sym (when (record { risk = none; safe = safe_of k }) (summary k) e))
        (λ e. ap summary (unrisked lost_clears i j k shape e)
        ∙ sym (ap (λ b. cond b (record { risk = none; safe = safe_of k }) (summary k)) e))

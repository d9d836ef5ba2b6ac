-- The reference memory's history of the block: what a write, a flush, an answer and a restart make of it, and that the
-- server's block and the dirty copies follow. It leads to `Booked` after every step. Assumes nothing.
use Prim.Native.Nat.{ℕ}
use mathlib.Core.Path.{◌≡◌, refl, sym, ◌∙◌, ap, subst}
use mathlib.Core.Bool.{Bool, true, false, cond, not, ◌&&◌, ◌||◌, false≢true}
use mathlib.Core.Logic.{inl, inr}
use mathlib.Core.List.{[], ◌∷◌}
use lib.Dec.{eqb}
use borrow.Author.Tests.{eqb-true, eq-eqb}
use Rattle.sizes.proofs.Choosing.{when, unless}
use Rattle.protocol.specs.Book.{Written, HistoryOf, History, latest, wrote, came, lost, risked_by}
use Rattle.protocol.proofs.View.{at}
use Rattle.protocol.proofs.Invariant.{AllSafe, Risks, latest_safe, Booked}
use Rattle.protocol.proofs.Invariant.Flags.{conflict, is_false, split, and_right, and_both, or_left, or_right, other_sym, change}

-- a write stays safe or not
kept_safe : (a b : Bool) → a ≡ true → (a || b) ≡ a
kept_safe a b p = or_left b p ∙ sym p

kept_other : (a b : Bool) → b ≡ false → (a || b) ≡ a
kept_other true b q = refl
kept_other false b q = q

module _ {A : Type 0} where
  -- where all writes are safe nobody risks anything
  pub safe_unrisked : (k : HistoryOf A) → AllSafe k → (s : ℕ) → risked_by s k ≡ false
  safe_unrisked [] h s = refl
  safe_unrisked (w ∷ ws) h s = ap (λ b. not b && eqb w.client s) h.0

  safe_risks : (i : ℕ) (k : HistoryOf A) → AllSafe k → Risks i k
  safe_risks i [] h = tt
  safe_risks i (w ∷ ws) h = inl h

  -- who has the latest write at risk, and who has not
  module _ (w : Written A) (ws : HistoryOf A) (i : ℕ) where
    risked-is : risked_by i (w ∷ ws) ≡ true → w.client ≡ i
    risked-is e = eqb-true w.client i (and_right (not w.safe) _ e)

    risked-by : w.safe ≡ false → w.client ≡ i → risked_by i (w ∷ ws) ≡ true
    risked-by p q = and_both (ap not p) (eq-eqb w.client i q)

  risked_one : (k : HistoryOf A) (i s : ℕ) → risked_by i k ≡ true → risked_by s k ≡ true → s ≡ i
  risked_one [] i s e f = absurd (false≢true e)
  risked_one (w ∷ ws) i s e f = sym (risked-is w ws s f) ∙ risked-is w ws i e

  -- where nobody has, all are safe; where nobody but i has, only i has any
  clean_safe : (j : ℕ) (k : HistoryOf A) → Risks j k → ((s : ℕ) → risked_by s k ≡ true → ⊥) → AllSafe k
  clean_safe j [] h clean = tt
  clean_safe j (w ∷ ws) (inl h) clean = h
  clean_safe j (w ∷ ws) (inr h) clean = absurd (clean j (risked-by w ws j h.0 h.1))

  risks_alone : (i j : ℕ) (k : HistoryOf A) → Risks j k → ((s : ℕ) → risked_by s k ≡ true → s ≡ i) → Risks i k
  risks_alone i j [] h alone = tt
  risks_alone i j (w ∷ ws) (inl h) alone = inl h
  risks_alone i j (w ∷ ws) (inr h) alone =
      subst (λ m. Risks m (w ∷ ws)) (alone j (risked-by w ws j h.0 h.1)) (inr h)

  -- What a change of the history does: `f i` leaves safe writes, and those that another client risks, and of those that i
  -- risks it leaves safe ones only.
  pub record Clears (f : ℕ → HistoryOf A → HistoryOf A) : Type 0 where
    pub safe : (i : ℕ) (k : HistoryOf A) → AllSafe k → f i k ≡ k
    pub other : (i j : ℕ) (k : HistoryOf A) → eqb j i ≡ false → Risks j k → f i k ≡ k
    pub own : (i : ℕ) (k : HistoryOf A) → Risks i k → AllSafe (f i k)

  module _ {f : ℕ → HistoryOf A → HistoryOf A} (c : Clears f) where
    pub unrisked : (i j : ℕ) (k : HistoryOf A) → Risks j k → risked_by i k ≡ false → f i k ≡ k
    unrisked i j [] h e = c.safe i [] tt
    unrisked i j (w ∷ ws) (inl h) e = c.safe i (w ∷ ws) h
    unrisked i j (w ∷ ws) (inr h) e =
        c.other i j (w ∷ ws)
        (is_false (eqb j i) (λ q. conflict (risked-by w ws i h.0 (h.1 ∙ eqb-true j i q)) e)) (inr h)

    pub risked : (i j : ℕ) (k : HistoryOf A) → Risks j k → risked_by i k ≡ true → AllSafe (f i k)
    risked i j k h e = c.own i k (risks_alone i j k h (λ s r. risked_one k i s e r))

  abbrev resafe : Written A → Bool → Written A
  resafe w b = record { client = w.client; value = w.value; safe = b }

  pub came_clears : Clears came
  came_clears =
      record {
        safe = came-safe;
        other = came-other;
        own = came-own;
      }
    where
      came-safe : (i : ℕ) (k : HistoryOf A) → AllSafe k → came i k ≡ k
      came-safe i [] h = refl
      came-safe i (w ∷ ws) h =
          λ j. resafe w (kept_safe w.safe (eqb w.client i) h.0 j) ∷ came-safe i ws h.1 j

      came-other : (i j : ℕ) (k : HistoryOf A) → eqb j i ≡ false → Risks j k → came i k ≡ k
      came-other i j [] e h = refl
      came-other i j (w ∷ ws) e (inl h) = came-safe i (w ∷ ws) h
      came-other i j (w ∷ ws) e (inr h) =
          let away = ap (λ c. eqb c i) h.1 ∙ e in
          λ m. resafe w (kept_other w.safe (eqb w.client i) away m) ∷ came-other i j ws e h.2 m

      came-own : (i : ℕ) (k : HistoryOf A) → Risks i k → AllSafe (came i k)
      came-own i [] h = tt
      came-own i (w ∷ ws) (inl h) = subst AllSafe (sym (came-safe i (w ∷ ws) h)) h
      came-own i (w ∷ ws) (inr h) = (or_right w.safe (eq-eqb w.client i h.1), came-own i ws h.2)

  pub lost_clears : Clears lost
  lost_clears =
      record {
        safe = lost-safe;
        other = lost-other;
        own = lost-own;
      }
    where
      -- a write that stays, and one that goes
      stays : (i : ℕ) (w : Written A) (ws : HistoryOf A) → (w.safe || not (eqb w.client i)) ≡ true → lost i (w ∷ ws) ≡ w ∷ lost i ws
      stays i w ws e = when (w ∷ lost i ws) (lost i ws) e

      goes : (i : ℕ) (w : Written A) (ws : HistoryOf A) → w.safe ≡ false → w.client ≡ i → lost i (w ∷ ws) ≡ lost i ws
      goes i w ws p q =
          let own = eq-eqb w.client i q in
          let out : (w.safe || not (eqb w.client i)) ≡ false = cc in
          unless (w ∷ lost i ws) (lost i ws) out

      lost-safe : (i : ℕ) (k : HistoryOf A) → AllSafe k → lost i k ≡ k
      lost-safe i [] h = refl
      lost-safe i (w ∷ ws) h = stays i w ws (or_left _ h.0) ∙ ap (λ l. w ∷ l) (lost-safe i ws h.1)

      lost-other : (i j : ℕ) (k : HistoryOf A) → eqb j i ≡ false → Risks j k → lost i k ≡ k
      lost-other i j [] e h = refl
      lost-other i j (w ∷ ws) e (inl h) = lost-safe i (w ∷ ws) h
      lost-other i j (w ∷ ws) e (inr h) =
          stays i w ws (or_right w.safe (ap not (ap (λ c. eqb c i) h.1 ∙ e)))
          ∙ ap (λ l. w ∷ l) (lost-other i j ws e h.2)

      lost-own : (i : ℕ) (k : HistoryOf A) → Risks i k → AllSafe (lost i k)
      lost-own i [] h = tt
      lost-own i (w ∷ ws) (inl h) = subst AllSafe (sym (lost-safe i (w ∷ ws) h)) h
      lost-own i (w ∷ ws) (inr h) = subst AllSafe (sym (goes i w ws h.0 h.1)) (lost-own i ws h.2)

-- and the latest one is safe
safe_latest : (k : History) → AllSafe k → latest_safe k ≡ latest k
safe_latest [] h = refl
safe_latest (w ∷ ws) h = when w.value (latest_safe ws) h.0

-- what is sent stays the latest, and what is lost is no safe write
pub latest_came : (i : ℕ) (k : History) → latest (came i k) ≡ latest k
latest_came i [] = refl
latest_came i (w ∷ ws) = refl

safe_lost : (i : ℕ) (k : History) → latest_safe (lost i k) ≡ latest_safe k
safe_lost i [] = refl
safe_lost i (w ∷ ws) =
    let rest = safe_lost i ws in
    split w.safe (λ p. cc) (λ p. split (eqb w.client i) (λ q. cc) (λ q. cc))

pub fresh_booked : Booked 0 (λ s. false) []
fresh_booked = record { risker = 0; shape = tt; server = refl; risk = λ s. refl }

module _ {block : ℕ} {dirty : ℕ → Bool} {k : History} (h : Booked block dirty k) where
  -- where no client has the block dirty, the server's block is the latest write
  all_safe : ((s : ℕ) → dirty s ≡ true → ⊥) → AllSafe k
  all_safe clean = clean_safe h.risker k h.shape (λ s e. clean s (h.risk s ∙ e))

  pub clean_is : ((s : ℕ) → dirty s ≡ true → ⊥) → block ≡ latest k
  clean_is clean = h.server ∙ safe_latest k (all_safe clean)

  -- a block is dirty at one client only
  pub dirty_one : (i s : ℕ) → dirty i ≡ true → dirty s ≡ true → s ≡ i
  dirty_one i s d e = risked_one k i s (sym (h.risk i) ∙ d) (sym (h.risk s) ∙ e)

  pub booked_alike : {later : ℕ → Bool} → ((s : ℕ) → later s ≡ dirty s) → Booked block later k
  booked_alike same = record { risker = h.risker; shape = h.shape; server = h.server; risk = λ s. same s ∙ h.risk s }

  -- client i writes x into its copy, or to the server
  pub booked_delayed :
      (i x : ℕ)
      → ((s : ℕ) → dirty s ≡ true → s ≡ i)
      → Booked block (at i true dirty) (wrote i x true k)
  booked_delayed i x alone =
      record {
        risker = i;
        shape = inr (refl, refl, risks_alone i h.risker k h.shape (λ s e. alone s (h.risk s ∙ e)));
        server = h.server;
        risk = change (λ s b. cond b true (dirty s) ≡ eqb i s) i (sym (eq-eqb i i refl))
            (λ s e. is_false (dirty s) (λ d. conflict (eq-eqb s i (alone s d)) e) ∙ sym (other_sym i s e));
      }

  pub booked_sent : (i x : ℕ) → ((s : ℕ) → dirty s ≡ true → ⊥) → Booked x dirty (wrote i x false k)
  booked_sent i x clean =
      record { risker = i; shape = inl (refl, all_safe clean); server = refl; risk = λ s. is_false (dirty s) (clean s) }

  module _ {f : ℕ → History → History} (c : Clears f) (i : ℕ) where
    -- the writes that i risks come to the server, or are lost: where there are none nothing changes, else all are safe
    cleared :
        {later : ℕ}
        → (dirty i ≡ true → later ≡ latest_safe (f i k))
        → (dirty i ≡ false → later ≡ block)
        → Booked later (at i false dirty) (f i k)
    cleared {later} risky clean =
        split (dirty i)
        (λ d. let safe = risked c i h.risker k h.shape (sym (h.risk i) ∙ d) in
        record {
          risker = i;
          shape = safe_risks i (f i k) safe;
          server = risky d;
          risk = change (λ s b. cond b false (dirty s) ≡ risked_by s (f i k)) i (sym (safe_unrisked (f i k) safe i))
              (λ s e. is_false (dirty s) (λ x. conflict (eq-eqb s i (dirty_one i s d x)) e)
              ∙ sym (safe_unrisked (f i k) safe s));
        })
        (λ d. let same = unrisked c i h.risker k h.shape (sym (h.risk i) ∙ d) in
        subst (Booked later (at i false dirty)) (sym same)
        (record {
          risker = h.risker;
          shape = h.shape;
          server = clean d ∙ h.server;
          risk = change (λ s b. cond b false (dirty s) ≡ risked_by s k) i (sym d ∙ h.risk i) (λ s _. h.risk s);
        }))

    cleared-latest : dirty i ≡ true → latest_safe (f i k) ≡ latest (f i k)
    cleared-latest d = safe_latest (f i k) (risked c i h.risker k h.shape (sym (h.risk i) ∙ d))

  -- the block of client i, if it is dirty there, has come to the server
  pub booked_came :
      (i : ℕ) {later : ℕ}
      → (dirty i ≡ true → later ≡ latest k)
      → (dirty i ≡ false → later ≡ block)
      → Booked later (at i false dirty) (came i k)
  booked_came i risky clean =
      cleared came_clears i (λ d. risky d ∙ sym (cleared-latest came_clears i d ∙ latest_came i k)) clean

  -- client i has restarted: what the latest write is now
  pub booked_lost : (i : ℕ) → Booked block (at i false dirty) (lost i k)
  booked_lost i = cleared lost_clears i (λ _. h.server ∙ sym (safe_lost i k)) (λ _. refl)

  pub latest_lost : (i : ℕ) → dirty i ≡ false → latest (lost i k) ≡ latest k
  latest_lost i d = ap latest (unrisked lost_clears i h.risker k h.shape (sym (h.risk i) ∙ d))

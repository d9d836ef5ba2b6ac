-- What is told of an accepted read, of a restart and of an embargo: the ledger says what the past says, and the
-- reference memory is the past's writes that are not lost, so Demand 3 gives the value and its invariant the dirty
-- blocks. Crate history has it for whole histories. Assumes nothing.
use Prim.Native.Nat.{ℕ, zero, suc, ◌+◌, ◌*◌, ◌<◌}
use mathlib.Core.Path.{◌≡◌, refl, sym, ap, ◌∙◌, subst, subst⁻¹}
use mathlib.Core.Bool.{Bool, true, false, cond, not, ◌&&◌}
use mathlib.Core.List.{List, [], ◌∷◌}
use mathlib.Core.Logic.{◌⊎◌, inl, inr}
use lib.Dec.{eqb}
use lib.ListN.{length-replicate}
use borrow.Author.Tests.{eqb-true}
use Rattle.sizes.specs.declared.sizes.Sizes.{Sizes}
use Rattle.sizes.specs.Sizes.{max_clients, max_places, max_cells, in_force, Permitted, place, cell}
use Rattle.decision.specs.Lists.{first_of as first_test}
use Rattle.decision.proofs.Beyond.{get_d_alike}
use Rattle.protocol.specs.declared.reply.Granting.{Granting}
use Rattle.protocol.specs.declared.reply.Reply.{Reply}
use Rattle.protocol.specs.declared.reply.Reply.TheVariants.{Value}
use Rattle.protocol.specs.declared.step.Step.{Step}
use Rattle.protocol.specs.declared.step.Step.TheVariants.{Open, Close, Read, Write, Flush, Answer, Crash, Report, End}
use Rattle.protocol.specs.declared.step.Step.TheVariants.{Restart, Embargo, Lift}
use Rattle.protocol.specs.Book.{HistoryOf, latest, risked_by, Named, none, by, first_of}
use Rattle.protocol.specs.Refusal.{restart_tests, embargo_tests, lift_tests}
use Rattle.protocol.proofs.Invariant.{Risks}
use Rattle.protocol.proofs.Invariant.Summary.{safe_of, summary}
use Rattle.service.specs.declared.service.Service.{Service}
use Rattle.service.specs.declared.outcome.Outcome.{Outcome}
use Rattle.service.specs.Contents.{sizes_of, table_in, entry_at, embargoed_at, client_at, held_at, dirty_at}
use Rattle.service.specs.Embargo.{forgotten_below, marked, put_aside, grants_aside, dropped_below, answering, all_step}
use Rattle.service.specs.Step.{moved, step_of}
use Rattle.service.specs.Space.{spaced}
use Rattle.service.specs.Fresh.{fresh}
use Rattle.service.specs.Demand3.{refused, after, Memory, blank, remembered, ReadIsLatest}
use Rattle.service.proofs.Tests.{split, conflict, either}
use Rattle.service.proofs.Accepted.{when_accepted}
use Rattle.ledger.specs.declared.told.Told.{Told}
use Rattle.ledger.specs.declared.ledger.Ledger.{Ledger}
use Rattle.ledger.specs.declared.lines.Lines.{Lines}
use Rattle.ledger.specs.Ledger.{notes, beginnings, empty_ledger, lines_at, copied_at, waiting_since, embargoed_since}
use Rattle.ledger.specs.Ledger.{ledger_after, latest_in, read_told}
use Rattle.ledger.specs.Provenance.{Event, Noted, history_after, history_in, loss_after, loss_in, latest_line}
use Rattle.ledger.specs.Provenance.{copies, begins_wait, embargoes}
use Rattle.ledger.specs.Provenance.{NamesWrite, NamesLoss, ReadIsTold, CopyIsTold, LossIsTold, LineIsTold}
use Rattle.ledger.proofs.BlockLines.{Ruled}
use Rattle.ledger.proofs.AllBooked.{AllBooked, shown_dirty}
use Rattle.ledger.proofs.Entries.{ruled_after, wait-after, copy-after, names_there}
use Rattle.ledger.proofs.LinesAfter.{lines_after_lem}
use Rattle.ledger.proofs.Naming.{Names, Notes, NamesLost, values_of, named_line, risks_is}
use Rattle.ledger.proofs.Naming.{notes_after, loss_after_lem, risks_values, risked_values, memory_after}
use Rattle.ledger.proofs.Holding.{held_before}
use Rattle.ledger.proofs.Aside.{releases, still_aside, aside_after_lem}

-- ---- the sizes stay

forgotten_sizes : (z : Sizes) (i k : ℕ) (s : Service) → sizes_of (forgotten_below z i k s) ≡ sizes_of s
unfolding forgotten_below
forgotten_sizes z i zero s = refl
forgotten_sizes z i (suc k) s = forgotten_sizes z i k s

dropped_sizes : (z : Sizes) (i k : ℕ) (s : Service) → sizes_of (dropped_below z i k s) ≡ sizes_of s
unfolding dropped_below
dropped_sizes z i zero s = refl
dropped_sizes z i (suc k) s = dropped_sizes z i k s

answering_sizes : (t : Service) (gs : List Granting) → sizes_of (answering t gs).service ≡ sizes_of t
answering_sizes t [] = refl
answering_sizes t (g ∷ gs) = refl

same_sizes : (s : Service) (x : Step) → sizes_of (after s x) ≡ sizes_of s
unfolding step_of moved spaced all_step
same_sizes s (Open m i f) = refl
same_sizes s (Close m i f) = refl
same_sizes s (Read i f b) = refl
same_sizes s (Write i f b v) = refl
same_sizes s (Flush i f b) = refl
same_sizes s (Answer i f) = refl
same_sizes s Crash = refl
same_sizes s (Report i) = refl
same_sizes s End = refl
same_sizes s (Restart i) =
    let z = sizes_of s in
    either (λ (o : Outcome). sizes_of o.service ≡ z) (eqb (first_test (restart_tests z i)) 0)
    (λ _. dropped_sizes z i z.files (put_aside z s i) ∙ forgotten_sizes z i z.files (marked s i)) (λ _. refl)
same_sizes s (Embargo i f) =
    let z = sizes_of s in
    either (λ (o : Outcome). sizes_of o.service ≡ z)
    (eqb (first_test (embargo_tests z (table_in s).recovering (entry_at s f) i f)) 0)
    (λ _. answering_sizes (put_aside z s i) (grants_aside z s i) ∙ forgotten_sizes z i z.files (marked s i))
    (λ _. refl)
same_sizes s (Lift i) =
    let z = sizes_of s in
    either (λ (o : Outcome). sizes_of o.service ≡ z) (eqb (first_test (lift_tests z (embargoed_at s i) i)) 0)
    (λ _. dropped_sizes z i z.files s) (λ _. refl)

-- The ledger says what the past says, of all that is in force; the reference memory is the past's writes that are not
-- lost; a copy that is held was fetched or written at some line; and a client under embargo was put there by one.
pub record Agrees (z : Sizes) (s : Service) (m : Memory) (l : Ledger) (past : List Event) : Type 0 where
  pub sizes : sizes_of s ≡ z
  pub ruled : Ruled l
  pub names :
      (f b : ℕ) → f < z.files → b < z.blocks → Notes (lines_at l f b) (summary (history_in f b past))
  pub losses : (f b : ℕ) → f < z.files → b < z.blocks → NamesLost (lines_at l f b) (loss_in f b past)
  pub memory : (f b : ℕ) → m f b ≡ values_of (history_in f b past)
  pub copied :
      (i f b : ℕ) → i < z.clients → f < z.files → b < z.blocks
      → copied_at l i f b ≡ latest_line (copies i f b) past
  pub waiting : (f : ℕ) → f < z.files → waiting_since l f ≡ latest_line (begins_wait f) past
  pub held :
      (i f b : ℕ) → i < z.clients → f < z.files → b < z.blocks → held_at s i f b ≡ true → 0 < copied_at l i f b
  pub aside :
      (i : ℕ)
      → i < z.clients
      → embargoed_at s i ≡ true
      → (0 < embargoed_since l i) × (embargoed_since l i ≡ latest_line (embargoes i) past)

-- ---- what the lines of a block name

named_latest :
    (x : Lines) (k : HistoryOf Noted) → Notes x (summary k) → Names (latest_in x).0 (latest_in x).1 (first_of k)
named_latest x [] h =
    ap (λ r. (cond {A = ℕ × ℕ} (eqb r 0) (x.safe, x.saver) (x.risk, x.risker)).0) h.risk ∙ h.safe
named_latest x (w ∷ ws) h = at w.safe h.risk h.safe
  where
    Here : Bool → Type 0
    Here t =
        Names (cond {A = ℕ × ℕ} t (x.safe, x.saver) (x.risk, x.risker)).0
        (cond {A = ℕ × ℕ} t (x.safe, x.saver) (x.risk, x.risker)).1
        (by w.client w.value)

    at : (t : Bool)
        → Names x.risk x.risker (cond t none (by w.client w.value))
        → Names x.safe x.saver (cond t (by w.client w.value) (safe_of ws))
        → Here (eqb x.risk 0)
    at true line safe = subst⁻¹ (λ r. Here (eqb r 0)) line safe
    at false (some, line, client) safe =
        subst⁻¹ Here (named_line x.risk w.value.line some line) (some, line, client)

risked_line :
    (i : ℕ) (x : Lines) (k : HistoryOf Noted)
    → Notes x (summary k)
    → risked_by i k ≡ true
    → (w : Noted) × (first_of k ≡ by i w) × (x.risk ≡ w.line)
risked_line i x [] h e = conflict e refl
risked_line i x (w ∷ ws) h e = at w.safe h.risk e
  where
    at : (t : Bool)
        → Names x.risk x.risker (cond t none (by w.client w.value))
        → (not t && eqb w.client i) ≡ true
        → (w' : Noted) × (by w.client w.value ≡ by i w') × (x.risk ≡ w'.line)
    at true line e = conflict e refl
    at false (some, line, client) e =
        (w.value, ap (λ c. by c w.value) (eqb-true w.client i e), line)

-- what the ledger names of a read whose value is the reference memory's
names_write :
    (t : Told) (reply : Reply) (v : ℕ) (k : HistoryOf Noted)
    → Names t.line t.client (first_of k)
    → v ≡ latest (values_of k)
    → reply ≡ Value v
    → NamesWrite t reply k
names_write t reply v [] line e r = (line, r ∙ ap Value e)
names_write t reply v (w ∷ ws) (some, line, client) e r = (some, line, client, r ∙ ap Value e)

names_loss : (t : Told) (o : Named Noted) → Names t.lost t.loser o → NamesLoss t o
names_loss t none h = h
names_loss t (by i w) h = h

-- ---- after a line

module _ {z : Sizes} (most : Permitted z) where
  pub agrees_after :
      (s : Service) (m : Memory) (l : Ledger) (past : List Event) (n : ℕ) (x : Step)
      → 0 < n
      → AllBooked z s m
      → Agrees z s m l past
      → Agrees z (after s x) (remembered s m x) (ledger_after n s x l)
      (record { line = n; step = x; before = s } ∷ past)
  unfolding history_in loss_in latest_line
  agrees_after s m l past n x some booked h =
      let size = h.sizes in
      record {
        sizes = same_sizes s x ∙ size;
        ruled = ruled_after most n s size l h.ruled x;
        names = λ f b hf hb.
            let k = history_in f b past in
            let kept = booked f b hf hb in
            subst⁻¹ (λ y. Notes y (summary (history_after f b n s x (refused s x) k)))
            (lines_after_lem most n s size l h.ruled f hf b hb x)
            (notes_after f b n s x (refused s x) (lines_at l f b) kept.risker k some
            (risks_values kept.risker k (subst (Risks kept.risker) (h.memory f b) kept.shape))
            (h.names f b hf hb));
        losses = λ f b hf hb.
            let k = history_in f b past in
            subst⁻¹ (λ y. NamesLost y (loss_after f b n s x (refused s x) k (loss_in f b past)))
            (lines_after_lem most n s size l h.ruled f hf b hb x)
            (loss_after_lem f b n s x (refused s x) (lines_at l f b) k (loss_in f b past) some (h.names f b hf hb)
            (h.losses f b hf hb));
        memory = λ f b. memory_after m n s x (refused s x) f b (history_in f b past) (h.memory f b);
        copied = λ i f b hi hf hb.
            copy-after most n s size l h.ruled f hf b hb i hi x
            ∙ ap (λ k. cond (copies i f b s x) n k) (h.copied i f b hi hf hb);
        waiting = λ f hf.
            wait-after most n s size l h.ruled f hf x ∙ ap (λ k. cond (begins_wait f s x) n k) (h.waiting f hf);
        held = λ i f b hi hf hb is.
            subst⁻¹ (λ k. 0 < k) (copy-after most n s size l h.ruled f hf b hb i hi x)
            (split (copies i f b s x)
            (λ e. subst⁻¹ (λ t. 0 < cond t n (copied_at l i f b)) e some)
            (λ e. subst⁻¹ (λ t. 0 < cond t n (copied_at l i f b)) e
            (h.held i f b hi hf hb (held_before most s size i f b hi hb x e is))));
        aside = λ i hi is. aside i hi is (embargoes i s x) refl;
      }
    where
      aside :
          (i : ℕ)
          → i < z.clients
          → embargoed_at (after s x) i ≡ true
          → (t : Bool)
          → embargoes i s x ≡ t
          → (0 < embargoed_since (ledger_after n s x l) i)
          × (embargoed_since (ledger_after n s x l) i ≡ cond (embargoes i s x) n (latest_line (embargoes i) past))
      aside i hi is t e =
          let line = aside_after_lem most n s h.sizes l h.ruled i hi x in
          subst⁻¹ (λ k. (0 < k) × (k ≡ cond (embargoes i s x) n (latest_line (embargoes i) past))) line
          (subst⁻¹
          (λ t.
          (0 < cond t n (cond (releases i s x) 0 (embargoed_since l i)))
          × (cond t n (cond (releases i s x) 0 (embargoed_since l i)) ≡ cond t n (latest_line (embargoes i) past)))
          e (at t e))
        where
          at : (t : Bool)
              → embargoes i s x ≡ t
              → (0 < cond t n (cond (releases i s x) 0 (embargoed_since l i)))
              × (cond t n (cond (releases i s x) 0 (embargoed_since l i)) ≡ cond t n (latest_line (embargoes i) past))
          at true e = (some, refl)
          at false e =
              let (free, was) = still_aside s h.sizes i x is e in
              subst⁻¹
              (λ t.
              (0 < cond t 0 (embargoed_since l i)) × (cond t 0 (embargoed_since l i) ≡ latest_line (embargoes i) past))
              free (h.aside i hi was)

  pub line_told :
      (s : Service) (m : Memory) (l : Ledger) (past : List Event) (x : Step)
      → AllBooked z s m
      → Agrees z s m l past
      → ReadIsLatest s m x
      → LineIsTold s l past x
  line_told s m l past x booked h right =
      record {
        reads = λ i f b e plain a.
            let a' = subst (λ y. refused s y ≡ false) e a in
            let right' = right i f b e plain a in
            told i f b (subst (λ y. (step_of s y).reply ≡ Value (latest (m f b))) e right') a';
        copied = λ i f b e a. copy i f b (subst (λ y. refused s y ≡ false) e a);
        losses = λ i g f b e a hf hb.
            loss i f b (there i g e a)
            (subst (λ (y : Sizes). f < y.files) h.sizes hf)
            (subst (λ (y : Sizes). b < y.blocks) h.sizes hb);
        waits = λ f hf. h.waiting f (subst (λ (y : Sizes). f < y.files) h.sizes hf);
        aside = λ i hi. h.aside i (subst (λ (y : Sizes). i < y.clients) h.sizes hi);
      }
    where
      told :
          (i f b : ℕ)
          → (step_of s (Read i f b)).reply ≡ Value (latest (m f b))
          → refused s (Read i f b) ≡ false
          → ReadIsTold s l past i f b
      told i f b right a =
          let (_, hf, hb) = names_there most s h.sizes (Read i f b) a in
          let t = read_told s l i f b in
          let k = history_in f b past in
          record {
            origin = names_write t (step_of s (Read i f b)).reply (latest (m f b)) k
                (named_latest (lines_at l f b) k (h.names f b hf hb)) (ap latest (h.memory f b)) right;
            loss = names_loss t (loss_in f b past) (h.losses f b hf hb);
          }

      copy : (i f b : ℕ) → refused s (Read i f b) ≡ false → CopyIsTold s l past i f b
      copy i f b a =
          let (hi, hf, hb) = names_there most s h.sizes (Read i f b) a in
          let (_, done) = when_accepted s (Read i f b) h.sizes a in
          record {
            copy = refl;
            source = ap (λ (o : Outcome). o.reply) done;
            since = h.copied i f b hi hf hb;
            some = λ own. h.held i f b hi hf hb (holds (client_at s i f).opens.caching (held_at s i f b) own);
          }
        where
          holds : (c k : Bool) → (c && k) ≡ true → k ≡ true
          holds true k e = e
          holds false k e = conflict e refl

      -- the client of a restart or of an embargo
      there : (i g : ℕ) → (x ≡ Restart i) ⊎ (x ≡ Embargo i g) → refused s x ≡ false → i < z.clients
      there i g (inl e) a = (names_there most s h.sizes (Restart i) (subst (λ y. refused s y ≡ false) e a)).0
      there i g (inr e) a = (names_there most s h.sizes (Embargo i g) (subst (λ y. refused s y ≡ false) e a)).0

      -- a block is dirty, at a client without embargo, where its latest write is at risk
      at-risk :
          (i f b : ℕ) → i < z.clients → f < z.files → b < z.blocks
          → (dirty_at s i f b && not (embargoed_at s i)) ≡ risked_by i (history_in f b past)
      at-risk i f b hi hf hb =
          shown_dirty z s i f b hi
          ∙ (booked f b hf hb).risk i
          ∙ ap (risked_by i) (h.memory f b)
          ∙ risked_values i (history_in f b past)

      loss : (i f b : ℕ) → i < z.clients → f < z.files → b < z.blocks → LossIsTold s l past i f b
      loss i f b hi hf hb =
          let k = history_in f b past in
          let same = at-risk i f b hi hf hb in
          record {
            dirty = risks_is i (lines_at l f b) k (h.names f b hf hb) ∙ sym same;
            line = λ e. risked_line i (lines_at l f b) k (h.names f b hf hb) (sym same ∙ e);
          }

-- ---- the start

pub fresh_agrees : (z : Sizes) → Agrees (in_force z) (fresh z) blank empty_ledger []
unfolding fresh empty_ledger history_in loss_in latest_line
fresh_agrees z =
    record {
      sizes = refl;
      ruled =
          record {
            written = length-replicate {A = ℕ} notes 0;
            writers = length-replicate {A = ℕ} notes 0;
            copied = length-replicate {A = ℕ} max_cells 0;
            since = length-replicate {A = ℕ} beginnings 0;
          };
      names = λ f b hf hb.
          record { risk = get_d_alike notes 0 (max_places + place f b); safe = get_d_alike notes 0 (place f b) };
      losses = λ f b hf hb. get_d_alike notes 0 (2 * max_places + place f b);
      memory = λ f b. refl;
      copied = λ i f b hi hf hb. get_d_alike max_cells 0 (cell i f b);
      waiting = λ f hf. get_d_alike beginnings 0 f;
      held = λ i f b hi hf hb e. conflict e (get_d_alike max_cells false (cell i f b));
      aside = λ i hi e. conflict e (get_d_alike max_clients false i);
    }

-- The server has nothing of a client under embargo, after every accepted step. Assumes nothing.
use Prim.Native.Nat.{ℕ, zero, suc, ◌≤◌, ◌<◌}
use mathlib.Core.Path.{◌≡◌, refl, sym, ap, ◌∙◌, subst, subst⁻¹}
use mathlib.Core.Bool.{Bool, true, false, cond}
use mathlib.Core.List.{List}
use native.Mathlib.Omega.{arith}
use lib.Dec.{eqb}
use lib.ListN.{length, get_or, set, length-set}
use lib.Seq.{get_or-set_other, set-get_or}
use borrow.Author.Tests.{eqb-true, eqb-false, eq-eqb, leb-false, not-false}
use Rattle.sizes.specs.declared.sizes.Sizes.{Sizes}
use Rattle.sizes.specs.Sizes.{max_files, Permitted, nobody}
use Rattle.sizes.proofs.InForce.{client_fits, file_fits}
use Rattle.decision.specs.Callback.{asks_nothing}
use Rattle.decision.specs.Lists.{stored, filled}
use Rattle.records.specs.declared.record.Mode.{Mode}
use Rattle.protocol.specs.declared.reply.Grant.{Grant}
use Rattle.protocol.specs.declared.entry.Entry.{Entry}
use Rattle.protocol.specs.declared.reply.Reply.TheVariants.{Granted}
use Rattle.protocol.specs.declared.step.Step.{Step}
use Rattle.protocol.specs.declared.step.Step.TheVariants.{Open, Close, Read, Write, Flush, Answer, Crash, Report, End}
use Rattle.protocol.specs.declared.step.Step.TheVariants.{Restart, Embargo, Lift}
use Rattle.protocol.specs.Entry.{call_to, calls_for, calls_out, grant_of, answered_entry, forgotten_entry}
use Rattle.protocol.specs.Entry.{granted_entry, crashed_entry, reported_entry}
use Rattle.blocks.specs.Stores.{any_dirty, sent_blocks, flushed_stores}
use Rattle.file.specs.FileStep.{FileAfter, granted, waiting, after_close, after_flush, answered}
use Rattle.file.specs.FileStep.{waiter_granted}
use Rattle.file.specs.FileStep.{after_forgetting, after_dropping}
use Rattle.decision.proofs.Storing.{get_d_stored}
use Rattle.table.specs.TableStep.{no_entry}
use Rattle.service.specs.declared.service.Service.{Service}
use Rattle.service.specs.Aside.{Unknown, Forgotten}
use Rattle.service.specs.Contents.{table_in, entry_at, reported_at, embargoed_at, client_at, file_at, stores_of}
use Rattle.service.specs.Embargo.{marked, forgotten_file, forgotten_on, forgotten_below, put_aside, dropped_below}
use Rattle.service.specs.Embargo.{told, grants_aside}
use Rattle.service.proofs.Tests.{split, conflict, either}
use Rattle.service.proofs.Lists.{get_d_set}
use Rattle.service.proofs.Views.{Sized}
use Rattle.service.proofs.FileSteps.{put}
use Rattle.service.proofs.Accepted.{Passed, tests_of, done_of, answering_service}
use Rattle.service.proofs.Forgetting.{puts-aside}
use Rattle.service.proofs.Unknown.{unknown-crashed, unknown-waiting, unknown-granted, unknown-closed}
use Rattle.service.proofs.Unknown.{unknown-flushed, unknown-answered, unknown-reported, unknown-forgotten}
use Rattle.service.proofs.Unknown.{set_or, forgets-uncalled, forgets-answered}

-- The same by the sizes in force: an entry has nothing of whoever is under embargo.
abbrev pub Aside : Sizes → Service → Entry → Type 0
Aside z s e = (i : ℕ) → i < z.clients → embargoed_at s i ≡ true → Unknown z.clients e i

abbrev pub Entries : Sizes → Service → Type 0
Entries z s = (f : ℕ) → f < z.files → Aside z s (entry_at s f)

-- nobody under embargo has reported, and while the server runs nobody has
pub record Silent (z : Sizes) (s : Service) : Type 0 where
  pub aside : (i : ℕ) → i < z.clients → embargoed_at s i ≡ true → reported_at s i ≡ false
  pub running : (table_in s).recovering ≡ false → (i : ℕ) → i < z.clients → reported_at s i ≡ false

module _ {z : Sizes} {s : Service} (n : Sized z s) where
  pub entries_of : Forgotten s → Entries z s
  entries_of h f hf i hi out =
      subst (λ (z : Sizes). Unknown z.clients (entry_at s f) i) n.sizes
      (h.unknown i f (subst⁻¹ (λ (z : Sizes). i < z.clients) n.sizes hi)
      (subst⁻¹ (λ (z : Sizes). f < z.files) n.sizes hf) out)

  pub silent_of : Forgotten s → Silent z s
  silent_of h =
      record {
        aside = λ i hi. h.unreported i (subst⁻¹ (λ (z : Sizes). i < z.clients) n.sizes hi);
        running = λ runs i hi. h.quiet runs i (subst⁻¹ (λ (z : Sizes). i < z.clients) n.sizes hi);
      }

  pub forgotten_by : Entries z s → Silent z s → Forgotten s
  forgotten_by e r =
      record {
        unknown = λ i f hi hf out.
            subst⁻¹ (λ (z : Sizes). Unknown z.clients (entry_at s f) i) n.sizes
            (e f (subst (λ (z : Sizes). f < z.files) n.sizes hf) i (subst (λ (z : Sizes). i < z.clients) n.sizes hi) out);
        unreported = λ i hi. r.aside i (subst (λ (z : Sizes). i < z.clients) n.sizes hi);
        quiet = λ runs i hi. r.running runs i (subst (λ (z : Sizes). i < z.clients) n.sizes hi);
      }

-- ---- a step on one file, by a client that is in

-- who is under embargo is another client
other_than : (s : Service) (i j : ℕ) → embargoed_at s j ≡ false → embargoed_at s i ≡ true → eqb j i ≡ false
other_than s i j in_force_lem out =
    split (eqb j i)
    (λ e. conflict out (subst (λ k. embargoed_at s k ≡ false) (eqb-true j i e) in_force_lem))
    (λ e. e)

module _ {z : Sizes} (most : Permitted z) {s : Service} (n : Sized z s) where
  abbrev m : ℕ
  m = z.clients

  bound : m ≤ nobody
  bound = let few = most.clients in omega (arith, few)

  file_entries_lem :
      (f : ℕ) (o : FileAfter)
      → f < z.files
      → Entries z s
      → Aside z s o.file.entry
      → Entries z (put s f o)
  file_entries_lem f o hf before here g hg i hi out =
      split (eqb g f)
      (λ e. subst⁻¹ (λ y. Unknown m y i) (get_d_set (table_in s).files f g o.file.entry no_entry true room e) (here i hi out))
      (λ e. subst⁻¹ (λ y. Unknown m y i) (get_d_set (table_in s).files f g o.file.entry no_entry false room e) (before g hg i hi out))
    where
      room : f < length (table_in s).files
      room = rw n.entries (file_fits most hf)

  -- the open that waits is granted: it is nobody's under embargo
  granted_aside : (e : Entry) → Aside z s e → (mode : Mode) (g : Grant) → Aside z s (granted_entry m e e.waiter mode g)
  granted_aside e h mode g i hi out =
      let known = h i hi out in unknown-granted m i bound hi e known e.waiter known.not_waiting mode g

  by_last :
      (f sent : ℕ) (o : FileAfter)
      → f < z.files
      → Entries z s
      → Aside z s o.file.entry
      → (t : Bool)
      → Entries z (put s f (cond t (waiter_granted z f sent o.file o.stores) o))
  by_last f sent o hf before here true =
      file_entries_lem f (waiter_granted z f sent o.file o.stores) hf before
      (granted_aside o.file.entry here o.file.entry.mode
      (grant_of m o.file.entry o.file.entry.waiter o.file.entry.mode))
  by_last f sent o hf before here false = file_entries_lem f o hf before here

  -- the steps of client j, which is in
  module _ (j : ℕ) (unbarred : embargoed_at s j ≡ false) (f : ℕ) (hf : f < z.files) (before : Entries z s) where
    away : (i : ℕ) → embargoed_at s i ≡ true → eqb j i ≡ false
    away i out = other_than s i j unbarred out

    open-entries : (mode : Mode) → Entries z (done_of z s (Open mode j f)).service
    open-entries mode =
        let e : Entry = entry_at s f in
        let g : Grant = grant_of m e j mode in
        either (λ (o : FileAfter). Entries z (put s f o)) (eqb (calls_for m e j mode) 0)
        (λ none.
        file_entries_lem f (granted z f (file_at s f) (stores_of s) j mode g (Granted g)) hf before
        (λ i hi out. unknown-granted m i bound hi e (before f hf i hi out) j (away i out) mode g))
        (λ some.
        file_entries_lem f (waiting z (file_at s f) (stores_of s) j mode) hf before
        (λ i hi out. unknown-waiting m i bound hi e (before f hf i hi out) j (away i out) mode))

    close-entries : (mode : Mode) → Entries z (done_of z s (Close mode j f)).service
    close-entries mode =
        file_entries_lem f (after_close z (file_at s f) (stores_of s) mode j f) hf before
        (λ i hi out.
        unknown-closed m i bound hi (entry_at s f) (before f hf i hi out) j (away i out) mode
        (any_dirty z.blocks j f (stores_of s)))

    flush-entries : (b : ℕ) → Entries z (done_of z s (Flush j f b)).service
    flush-entries b =
        file_entries_lem f (after_flush z (file_at s f) (stores_of s) j f b) hf before
        (λ i hi out.
        unknown-flushed m i bound hi (entry_at s f) (before f hf i hi out) j (away i out)
        (any_dirty z.blocks j f (flushed_stores j f b (stores_of s))))

    answer-entries : Entries z (done_of z s (Answer j f)).service
    answer-entries =
        let e : Entry = entry_at s f in
        let kind = call_to m e j in
        by_last f (sent_blocks z.blocks kind j f (stores_of s)) (answered z f (file_at s f) (stores_of s) j kind) hf before
        (λ i hi out. unknown-answered m i bound hi e (before f hf i hi out) j (away i out) kind)
        (eqb (calls_out m (answered_entry e j kind)) 0)

  -- ---- a step on the table

  entry_stored :
      (entry : ℕ → Entry) (f : ℕ) → f < z.files → get_or (stored z.files (λ g. g) entry (table_in s).files) f no_entry ≡ entry f
  entry_stored entry f hf =
      get_d_stored z.files (λ g. g) entry (table_in s).files no_entry f hf (rw n.entries (file_fits most hf))
      (λ g above _. omega arith)

  none_reported : (i : ℕ) → i < z.clients → get_or (filled z.clients false (table_in s).reported) i false ≡ false
  none_reported i hi =
      get_d_stored z.clients (λ j. j) (λ j. false) (table_in s).reported false i hi
      (rw n.reports (client_fits most hi)) (λ j above _. omega arith)

  crash_entries : Entries z s → Entries z (done_of z s Crash).service
  crash_entries before f hf i hi out =
      subst⁻¹ (λ y. Unknown m y i) (entry_stored (λ f. crashed_entry m (entry_at s f)) f hf)
      (unknown-crashed m i bound hi (entry_at s f) (before f hf i hi out))

  report_entries : (j : ℕ) → embargoed_at s j ≡ false → Entries z s → Entries z (done_of z s (Report j)).service
  report_entries j unbarred before f hf i hi out =
      subst⁻¹ (λ y. Unknown m y i) (entry_stored (λ f. reported_entry (entry_at s f) j (client_at s j f)) f hf)
      (unknown-reported m i bound hi (entry_at s f) (before f hf i hi out) j (other_than s i j unbarred out) (client_at s j f))

  crash_silent : Silent z (done_of z s Crash).service
  crash_silent = record { aside = λ i hi _. none_reported i hi; running = λ runs. conflict refl runs }

  end_silent : Silent z (done_of z s End).service
  end_silent = record { aside = λ i hi _. none_reported i hi; running = λ _. none_reported }

  report_silent :
      (j : ℕ)
      → embargoed_at s j ≡ false
      → (table_in s).recovering ≡ true
      → Silent z s
      → Silent z (done_of z s (Report j)).service
  report_silent j unbarred recovers r =
      record {
        aside = λ i hi out.
            get_or-set_other (table_in s).reported j i true false
            (λ e. eqb-false j i (other_than s i j unbarred out) (sym e))
            ∙ r.aside i hi out;
        running = λ runs. conflict recovers runs;
      }

-- ---- the server forgets client i, file by file

module _ {z : Sizes} (most : Permitted z) {i : ℕ} (hi : i < z.clients) (s : Service) where
  -- Whoever is under embargo in the service s is unknown, client i in the files below k only.
  record Swept (k : ℕ) (s' : Service) : Type 0 where
    long : length (table_in s').files ≡ max_files
    known :
        (f : ℕ)
        → f < z.files
        → (j : ℕ)
        → j < z.clients
        → embargoed_at s j ≡ true
        → (eqb j i ≡ true → f < k)
        → Unknown z.clients (entry_at s' f) j

  module _ (k : ℕ) (s' : Service) (hk : k < z.files) (h : Swept k s') where
    abbrev n : ℕ
    n = z.clients

    few : n ≤ nobody
    few = let most-clients = most.clients in omega (arith, most-clients)

    abbrev e : Entry
    e = forgotten_entry n (entry_at s' k) i

    abbrev kind : ℕ
    kind = call_to n e i

    -- the file's own entry, of every client under embargo
    module _ (j : ℕ) (hj : j < z.clients) (out : embargoed_at s j ≡ true) where
      before : eqb j i ≡ false → Unknown n (entry_at s' k) j
      before other = h.known k hk j hj out (λ own. conflict own other)

      apart : eqb j i ≡ false → eqb i j ≡ false
      apart other =
          split (eqb i j) (λ e. conflict (eq-eqb j i (sym (eqb-true i j e))) other) (λ e. e)

      uncalled : asks_nothing kind ≡ true → Unknown n e j
      uncalled none =
          split (eqb j i)
          (λ own.
          subst⁻¹ (Unknown n e) (eqb-true j i own) (forgets-uncalled n i few hi (entry_at s' k) (eqb-true kind 0 none)))
          (λ other. unknown-forgotten n j few hj (entry_at s' k) (before other) i (apart other))

      counted : Unknown n (answered_entry e i kind) j
      counted =
          split (eqb j i)
          (λ own.
          subst⁻¹ (Unknown n (answered_entry e i kind)) (eqb-true j i own) (forgets-answered n i few hi (entry_at s' k) kind))
          (λ other.
          unknown-answered n j few hj e (unknown-forgotten n j few hj (entry_at s' k) (before other) i (apart other)) i
          (apart other) kind)

      taken : Unknown n (forgotten_file z i s' k).file.entry j
      unfolding after_forgetting
      taken =
          either (λ (o : FileAfter). Unknown n o.file.entry j) (asks_nothing kind)
          (λ none. uncalled none)
          (λ _.
          either (λ (o : FileAfter). Unknown n o.file.entry j) (eqb (calls_out n (answered_entry e i kind)) 0)
          (λ _.
          unknown-granted n j few hj (answered_entry e i kind) counted e.waiter counted.not_waiting e.mode
          (grant_of n (answered_entry e i kind) e.waiter e.mode))
          (λ _. counted))

    swept-next : Swept (suc k) (forgotten_on z i s' k)
    swept-next =
        let entry : Entry = (forgotten_file z i s' k).file.entry in
        let room : k < length (table_in s').files = rw h.long (file_fits most hk) in
        record {
          long = length-set (table_in s').files k entry ∙ h.long;
          known = λ f hf j hj out own.
              split (eqb f k)
              (λ e. subst⁻¹ (λ y. Unknown n y j) (get_d_set (table_in s').files k f entry no_entry true room e) (taken j hj out))
              (λ e.
              let away : f ≡ k → ⊥ = eqb-false f k e in
              subst⁻¹ (λ y. Unknown n y j) (get_d_set (table_in s').files k f entry no_entry false room e)
              (h.known f hf j hj out (λ is. let below = own is in omega (arith, below, away))));
        }

  swept :
      (k : ℕ) (s' : Service) → k ≤ z.files → Swept 0 s' → Swept k (forgotten_below z i k s')
  unfolding forgotten_below
  swept zero s' fits h = h
  swept (suc k) s' fits h = swept-next k (forgotten_below z i k s') (omega arith) (swept k s' (omega arith) h)

-- the entries once client i is put under embargo
pub aside_entries :
    {z : Sizes}
    → Permitted z
    → {i : ℕ}
    → i < z.clients
    → {s : Service}
    → Sized z s
    → (table_in (put_aside z s i)).embargoed ≡ (table_in (marked s i)).embargoed
    → Entries z s
    → Entries z (put_aside z s i)
aside_entries {z} most {i} hi {s} n same before f hf j hj out =
    (swept most hi (marked s i) z.files (marked s i) (omega arith)
    (record {
      long = n.entries;
      known = λ g hg k hk aside own.
          split (eqb k i)
          (λ e. let none = own e in absurd (omega (arith, none)))
          (λ e.
          before g hg k hk
          (sym (get_or-set_other (table_in s).embargoed i k true false (eqb-false k i e)) ∙ aside));
    })
    ).known f hf j hj (ap (λ (l : List Bool). get_or l j false) (sym same) ∙ out) (λ _. hf)

-- ---- client i is told

-- the table stays
pub record Kept (s s' : Service) : Type 0 where
  pub sizes : s'.sizes ≡ s.sizes
  pub entries : (table_in s').files ≡ (table_in s).files
  pub recovering : (table_in s').recovering ≡ (table_in s).recovering
  pub reports : (table_in s').reported ≡ (table_in s).reported
  pub embargoes : (table_in s').embargoed ≡ (table_in s).embargoed

module _ (z : Sizes) (i : ℕ) where
  pub kept : (k : ℕ) (s : Service) → Kept s (dropped_below z i k s)
  unfolding dropped_below after_dropping
  kept zero s = record { sizes = refl; entries = refl; recovering = refl; reports = refl; embargoes = refl }
  kept (suc k) s =
      let h = kept k s in
      record {
        sizes = h.sizes;
        entries = set-get_or (table_in (dropped_below z i k s)).files k no_entry ∙ h.entries;
        recovering = h.recovering;
        reports = h.reports;
        embargoes = h.embargoes;
      }

  module _ (s : Service) where
    abbrev d : Service
    d = dropped_below z i z.files s

    same : Kept s d
    same = kept z.files s

    -- who is under embargo then was so, and is not client i
    still_aside : (j : ℕ) → embargoed_at (told z s i) j ≡ true → (eqb j i ≡ false) × (embargoed_at s j ≡ true)
    still_aside j out =
        split (eqb j i)
        (λ e.
        conflict (subst (λ k. embargoed_at (told z s i) k ≡ true) (eqb-true j i e) out) (set_or (table_in d).embargoed i false))
        (λ e. (
          e,
          ap (λ (l : List Bool). get_or l j false) (sym same.embargoes)
              ∙ sym (get_or-set_other (table_in d).embargoed i j false false (eqb-false j i e)) ∙ out,
        ))

    pub told_entries : Entries z s → Entries z (told z s i)
    told_entries before f hf j hj out =
        subst⁻¹ (λ (l : List Entry). Unknown z.clients (get_or l f no_entry) j) same.entries
        (before f hf j hj (still_aside j out).1)

    -- but for client i, whoever is under embargo has not reported, and nobody has while the server runs
    pub told-silent :
        ((j : ℕ) → j < z.clients → eqb j i ≡ false → embargoed_at s j ≡ true → reported_at s j ≡ false)
        → ((table_in s).recovering ≡ false → (j : ℕ) → j < z.clients → reported_at s j ≡ false)
        → Silent z (told z s i)
    told-silent aside running =
        record {
          aside = λ j hj out.
              let (other, before) = still_aside j out in
              by_flag (table_in d).recovering j other
              ∙ ap (λ (l : List Bool). get_or l j false) same.reports
              ∙ aside j hj other before;
          running = λ runs j hj.
              ap (λ t. get_or (cond t (set (table_in d).reported i true) (table_in d).reported) j false) runs
              ∙ ap (λ (l : List Bool). get_or l j false) same.reports
              ∙ running (sym same.recovering ∙ runs) j hj;
        }
      where
        by_flag :
            (t : Bool) (j : ℕ)
            → eqb j i ≡ false
            → get_or (cond t (set (table_in d).reported i true) (table_in d).reported) j false ≡ get_or (table_in d).reported j false
        by_flag true j other = get_or-set_other (table_in d).reported i j true false (eqb-false j i other)
        by_flag false j other = refl

-- ---- every accepted step

module _ {z : Sizes} (most : Permitted z) {s : Service} (n : Sized z s) (h : Forgotten s) where
  abbrev entries : Entries z s
  entries = entries_of n h

  abbrev silent : Silent z s
  silent = silent_of n h

  -- the reports and the embargoes stay
  still : {s' : Service} → Sized z s' → Entries z s' → Silent z s' → Forgotten s'
  still n' e r = forgotten_by n' e r

  module _ (i : ℕ) (hi : i < z.clients) where
    abbrev p : Service
    p = put_aside z s i

    put_entries : Entries z p
    put_entries = aside_entries most hi n (puts-aside most hi n h).embargoes entries

    reported-same : (j : ℕ) → reported_at p j ≡ reported_at s j
    reported-same j = ap (λ (l : List Bool). get_or l j false) (puts-aside most hi n h).reports

    aside-before : (j : ℕ) → eqb j i ≡ false → embargoed_at p j ≡ true → embargoed_at s j ≡ true
    aside-before j other out =
        sym (get_or-set_other (table_in s).embargoed i j true false (eqb-false j i other))
        ∙ ap (λ (l : List Bool). get_or l j false) (sym (puts-aside most hi n h).embargoes)
        ∙ out

    others-silent : (j : ℕ) → j < z.clients → eqb j i ≡ false → embargoed_at p j ≡ true → reported_at p j ≡ false
    others-silent j hj other out = reported-same j ∙ silent.aside j hj (aside-before j other out)

    runs-silent : (table_in p).recovering ≡ false → (j : ℕ) → j < z.clients → reported_at p j ≡ false
    runs-silent runs j hj = reported-same j ∙ silent.running (sym (puts-aside most hi n h).recovering ∙ runs) j hj

    put-silent : (table_in s).recovering ≡ false → Silent z p
    put-silent runs =
        let still-runs = (puts-aside most hi n h).recovering ∙ runs in
        record { aside = λ j hj _. runs-silent still-runs j hj; running = runs-silent }

  pub forgotten_kept :
      (x : Step)
      → Passed (tests_of z s x)
      → Sized z (done_of z s x).service
      → Forgotten (done_of z s x).service
  forgotten_kept (Open mode i f) (_, (file, (unbarred, _))) n' =
      still n' (open-entries most n i unbarred f (leb-false z.files f file) entries mode)
      (record { aside = silent.aside; running = silent.running })
  forgotten_kept (Close mode i f) (_, (file, (unbarred, _))) n' =
      still n' (close-entries most n i unbarred f (leb-false z.files f file) entries mode)
      (record { aside = silent.aside; running = silent.running })
  forgotten_kept (Read i f b) passed n' = still n' entries (record { aside = silent.aside; running = silent.running })
  forgotten_kept (Write i f b v) passed n' = still n' entries (record { aside = silent.aside; running = silent.running })
  forgotten_kept (Flush i f b) (_, (file, (_, (unbarred, _)))) n' =
      still n' (flush-entries most n i unbarred f (leb-false z.files f file) entries b)
      (record { aside = silent.aside; running = silent.running })
  forgotten_kept (Answer i f) (_, (file, (unbarred, _))) n' =
      still n' (answer-entries most n i unbarred f (leb-false z.files f file) entries)
      (record { aside = silent.aside; running = silent.running })
  forgotten_kept Crash passed n' = still n' (crash_entries most n entries) (crash_silent most n)
  forgotten_kept (Report i) (_, (unbarred, (recovers, _))) n' =
      still n' (report_entries most n i unbarred entries)
      (report_silent most n i unbarred (not-false (table_in s).recovering recovers) silent)
  forgotten_kept End passed n' = still n' entries (end_silent most n)
  forgotten_kept (Restart i) (client, _) n' =
      let hi : i < z.clients = leb-false z.clients i client in
      still n' (told_entries z i (put_aside z s i) (put_entries i hi))
      (told-silent z i (put_aside z s i) (others-silent i hi) (runs-silent i hi))
  forgotten_kept (Embargo i f) (client, (_, (runs, _))) n' =
      let hi : i < z.clients = leb-false z.clients i client in
      let same = answering_service (put_aside z s i) (grants_aside z s i) in
      subst⁻¹ Forgotten same
      (still (subst (Sized z) same n') (put_entries i hi) (put-silent i hi runs))
  forgotten_kept (Lift i) passed n' =
      still n' (told_entries z i s entries) (told-silent z i s (λ j hj _. silent.aside j hj) silent.running)

-- In every recovery, from the crash of any service on, what is accepted agrees on every file. Assumes nothing.
use Prim.Native.Nat.{ℕ, zero, suc, ◌+◌, ◌≤◌, ◌<◌}
use mathlib.Core.Path.{◌≡◌, refl, sym, ap, ◌∙◌, subst, subst⁻¹, fun_ext}
use mathlib.Core.Bool.{Bool, true, false, cond}
use mathlib.Core.List.{List, [], ◌∷◌}
use native.Mathlib.Omega.{arith}
use lib.Dec.{eqb}
use lib.Seq.{length-take-le}
use lib.ListN.{length, get_or, set, length-set}
use lib.Seq.{get_or-set_other}
use borrow.Author.Tests.{eqb-true, eqb-false, ne_eqb, leb-false, not-false}
use Rattle.sizes.specs.declared.sizes.Sizes.{Sizes}
use Rattle.sizes.specs.Sizes.{max_clients, max_files, Permitted, nobody, in_force}
use Rattle.sizes.proofs.InForce.{in_force_permitted, client_fits, file_fits}
use Rattle.decision.specs.Lists.{stored, filled}
use Rattle.decision.specs.Callback.{asks_nothing}
use Rattle.decision.proofs.Storing.{length_stored, get_d_stored}
use Rattle.decision.proofs.Finding.{none_found}
use Rattle.protocol.specs.declared.entry.Entry.{Entry}
use Rattle.protocol.specs.declared.reply.Reply.{Reply}
use Rattle.protocol.specs.declared.step.Step.{Step}
use Rattle.protocol.specs.declared.step.Step.TheVariants.{Open, Close, Read, Write, Flush, Answer, Crash, Report, End}
use Rattle.protocol.specs.declared.step.Step.TheVariants.{Restart, Embargo, Lift}
use Rattle.protocol.specs.Entry.{call_to, crashed_entry, reported_entry, forgotten_entry}
use Rattle.protocol.specs.Clash.{clashes_on, Agree}
use Rattle.protocol.proofs.View.{at}
use Rattle.blocks.specs.declared.stores.Stores.{Stores}
use Rattle.file.specs.FileStep.{FileAfter, after_forgetting}
use Rattle.table.specs.TableStep.{no_entry}
use Rattle.words.specs.Words.{record_held}
use Rattle.words.specs.Rows.{word_at, entry_held}
use Rattle.words.proofs.Listing.{length_listed, get_d_listed}
use Rattle.service.specs.declared.service.Service.{Service}
use Rattle.service.specs.declared.outcome.Outcome.{Outcome}
use Rattle.service.specs.Contents.{sizes_of, table_in, entry_at, reported_at, embargoed_at, client_at, with_space}
use Rattle.service.specs.Demand3.{refused, after}
use Rattle.service.specs.Embargo.{marked, forgotten_file, forgotten_on, forgotten_below, put_aside, dropped_below, told}
use Rattle.service.specs.Lent.{lent_flags, service_held}
use Rattle.service.specs.Reports.{AcceptedAgree, AgreeAlong, RecoveryAgrees}
use Rattle.service.specs.Served.{Serves}
use Rattle.service.specs.Step.{step_of}
use Rattle.service.proofs.Tests.{split, conflict, when}
use Rattle.service.proofs.Lists.{get_d_set}
use Rattle.service.proofs.Accepted.{Passed, tests_of, done_of, when_accepted, done_but_store, crash_accepted, refused_changes_nothing}
use Rattle.service.proofs.Forgotten.{kept, told-silent}
use Rattle.service.proofs.Accepting.{Accepting, crash_accepts, report-accepts, nothing_accepts, forget_accepts, uncalled}

-- a service of which nothing is known but the lengths of its lists
pub record Made (z : Sizes) (s : Service) : Type 0 where
  pub sizes : sizes_of s ≡ z
  pub entries : length (table_in s).files ≡ max_files
  pub reports : length (table_in s).reported ≡ max_clients
  pub records : (f : ℕ) → f < z.files → z.clients ≤ length (entry_at s f).records

-- the invariant: nobody under embargo has reported, and what is accepted of the others agrees
pub record Agreeing (z : Sizes) (s : Service) : Type 0 where
  pub sizes : sizes_of s ≡ z
  pub entries : length (table_in s).files ≡ max_files
  pub reports : length (table_in s).reported ≡ max_clients
  pub state : (table_in s).recovering ≡ true
  pub silent : (i : ℕ) → i < z.clients → embargoed_at s i ≡ true → reported_at s i ≡ false
  pub accepting : (f : ℕ) → f < z.files → Accepting z.clients (reported_at s) (entry_at s f)

-- the store does not matter to it
agreeing_stored :
    {z : Sizes} (s : Service) (used : List Bool) (free : ℕ) → Agreeing z s → Agreeing z (with_space s used free)
agreeing_stored s used free h =
    record {
      sizes = h.sizes;
      entries = h.entries;
      reports = h.reports;
      state = h.state;
      silent = h.silent;
      accepting = h.accepting;
    }

-- who has reported, once client i has
heard_also :
    (l : List Bool) (i : ℕ) → i < length l → ◌≡◌ {A = ℕ → Bool} (λ j. get_or (set l i true) j false) (at i true (λ j. get_or l j false))
heard_also l i room =
    fun_ext
    (λ j.
    split (eqb j i)
    (λ e. get_d_set l i j true false true room e ∙ sym (ap (λ (b : Bool). cond b true (get_or l j false)) e))
    (λ e. get_d_set l i j true false false room e ∙ sym (ap (λ (b : Bool). cond b true (get_or l j false)) e)))

module _ {z : Sizes} (most : Permitted z) where
  bound : z.clients ≤ nobody
  bound = let few = most.clients in omega (arith, few)

  entry_stored :
      (l : List Entry) (entry : ℕ → Entry) (f : ℕ)
      → length l ≡ max_files
      → f < z.files
      → get_or (stored z.files (λ g. g) entry l) f no_entry ≡ entry f
  entry_stored l entry f long hf =
      get_d_stored z.files (λ g. g) entry l no_entry f hf (rw long (file_fits most hf)) (λ g above _. omega arith)

  -- ---- a crash

  pub crash_agrees : (s : Service) → Made z s → Agreeing z (done_of z s Crash).service
  crash_agrees s m =
      let n = z.clients in
      let none : (i : ℕ) → i < n → get_or (filled n false (table_in s).reported) i false ≡ false =
      λ i hi.
      get_d_stored n (λ j. j) (λ j. false) (table_in s).reported false i hi
      (rw m.reports (client_fits most hi)) (λ j above _. omega arith) in
      record {
        sizes = m.sizes;
        entries = length_stored z.files (λ f. f) (λ f. crashed_entry n (entry_at s f)) (table_in s).files ∙ m.entries;
        reports = length_stored n (λ j. j) (λ j. false) (table_in s).reported ∙ m.reports;
        state = refl;
        silent = λ i hi _. none i hi;
        accepting =
            λ f hf.
            subst⁻¹ (λ (e : Entry). Accepting n (λ j. get_or (filled n false (table_in s).reported) j false) e)
            (entry_stored (table_in s).files (λ g. crashed_entry n (entry_at s g)) f m.entries hf)
            (crash_accepts n (λ j. get_or (filled n false (table_in s).reported) j false) (entry_at s f) bound (m.records f hf) none);
      }

  module _ (s : Service) (h : Agreeing z s) where
    made : Made z s
    made =
        record { sizes = h.sizes; entries = h.entries; reports = h.reports; records = λ f hf. (h.accepting f hf).room }

    abbrev n : ℕ
    n = z.clients

    room : (i : ℕ) → i < n → i < length (table_in s).reported
    room i hi = rw h.reports (client_fits most hi)

    -- ---- a report

    report-agrees : (i : ℕ) → Passed (tests_of z s (Report i)) → Agreeing z (done_of z s (Report i)).service
    report-agrees i (client, (unbarred, (_, (again, (clear, _))))) =
        let hi : i < n = leb-false n i client in
        record {
          sizes = h.sizes;
          entries =
              length_stored z.files (λ f. f) (λ f. reported_entry (entry_at s f) i (client_at s i f)) (table_in s).files ∙ h.entries;
          reports = length-set (table_in s).reported i true ∙ h.reports;
          state = h.state;
          silent =
              λ j hj out.
              let away : eqb j i ≡ false =
              split (eqb j i)
              (λ e. conflict (subst (λ k. embargoed_at s k ≡ true) (eqb-true j i e) out) unbarred)
              (λ e. e) in
              get_d_set (table_in s).reported i j true false false (room i hi) away ∙ h.silent j hj out;
          accepting =
              λ f hf.
              subst⁻¹ (λ (a : ℕ → Bool). Accepting n a (get_or (stored z.files (λ g. g) (λ g. reported_entry (entry_at s g) i (client_at s i g)) (table_in s).files) f no_entry))
              (heard_also (table_in s).reported i (room i hi))
              (subst⁻¹ (λ (e : Entry). Accepting n (at i true (reported_at s)) e)
              (entry_stored (table_in s).files (λ g. reported_entry (entry_at s g) i (client_at s i g)) f h.entries hf)
              (report-accepts (h.accepting f hf) (client_at s i f)
              (none_found z.files (λ g. clashes_on n (reported_at s) (entry_at s g) (client_at s i g)) clear f hf)
              i hi again));
        }

    -- ---- a client is told: nothing was accepted of it, or it was forgotten

    told-agrees :
        (s' : Service) (i : ℕ)
        → i < n
        → sizes_of s' ≡ z
        → length (table_in s').files ≡ max_files
        → length (table_in s').reported ≡ max_clients
        → (table_in s').recovering ≡ true
        → ((j : ℕ) → j < n → eqb j i ≡ false → embargoed_at s' j ≡ true → reported_at s' j ≡ false)
        → ((f : ℕ) → f < z.files → Accepting n (at i true (reported_at s')) (entry_at s' f))
        → Agreeing z (told z s' i)
    told-agrees s' i hi size long reports state silent accepting =
        let same = kept z i z.files s' in
        let d = dropped_below z i z.files s' in
        let recovers : (table_in d).recovering ≡ true = same.recovering ∙ state in
        let flags : cond (table_in d).recovering (set (table_in d).reported i true) (table_in d).reported ≡ set (table_in s').reported i true =
        when _ _ recovers ∙ ap (λ (l : List Bool). set l i true) same.reports in
        record {
          sizes = ap in_force same.sizes ∙ size;
          entries = ap length same.entries ∙ long;
          reports = ap length flags ∙ length-set (table_in s').reported i true ∙ reports;
          state = recovers;
          silent = (told-silent z i s' silent (λ runs. conflict state runs)).aside;
          accepting =
              λ f hf.
              subst⁻¹ (λ (l : List Bool). Accepting n (λ j. get_or l j false) (entry_at (told z s' i) f)) flags
              (subst⁻¹ (λ (a : ℕ → Bool). Accepting n a (entry_at (told z s' i) f))
              (heard_also (table_in s').reported i (rw reports (client_fits most hi)))
              (subst⁻¹ (λ (l : List Entry). Accepting n (at i true (reported_at s')) (get_or l f no_entry)) same.entries
              (accepting f hf)));
        }

    lift-agrees : (i : ℕ) → Passed (tests_of z s (Lift i)) → Agreeing z (told z s i)
    lift-agrees i (client, (out, _)) =
        let hi : i < n = leb-false n i client in
        let new : reported_at s i ≡ false = h.silent i hi (not-false (embargoed_at s i) out) in
        told-agrees s i hi h.sizes h.entries h.reports h.state (λ j hj _. h.silent j hj)
        (λ f hf. nothing_accepts (h.accepting f hf) i hi ((h.accepting f hf).unheard i hi new))

    -- ---- the server forgets client i, file by file

    module _ (i : ℕ) (hi : i < n) where
      record Swept (k : ℕ) (s' : Service) : Type 0 where
        sizes : s'.sizes ≡ s.sizes
        long : length (table_in s').files ≡ max_files
        recovering : (table_in s').recovering ≡ (table_in s).recovering
        reports : (table_in s').reported ≡ (table_in s).reported
        embargoes : (table_in s').embargoed ≡ (table_in (marked s i)).embargoed
        forgotten : (f : ℕ) → f < k → f < z.files → Accepting n (at i true (reported_at s)) (entry_at s' f)
        left : (f : ℕ) → k ≤ f → f < z.files → entry_at s' f ≡ entry_at s f

      -- no call goes with it
      entry-forgotten :
          (s' : Service) (k : ℕ)
          → call_to n (forgotten_entry n (entry_at s' k) i) i ≡ 0
          → (forgotten_file z i s' k).file.entry ≡ forgotten_entry n (entry_at s' k) i
      unfolding after_forgetting
      entry-forgotten s' k none = ap (λ (o : FileAfter). o.file.entry) (when _ _ (ap asks_nothing none))

      swept-next : (k : ℕ) (s' : Service) → k < z.files → Swept k s' → Swept (suc k) (forgotten_on z i s' k)
      swept-next k s' hk w =
          let entry : Entry = (forgotten_file z i s' k).file.entry in
          let there : k < length (table_in s').files = rw w.long (file_fits most hk) in
          let before : entry_at s' k ≡ entry_at s k = w.left k (omega arith) hk in
          let here : Accepting n (reported_at s) (entry_at s' k) =
          subst⁻¹ (λ (e : Entry). Accepting n (reported_at s) e) before (h.accepting k hk) in
          let is : entry ≡ forgotten_entry n (entry_at s' k) i = entry-forgotten s' k (uncalled here i hi) in
          record {
            sizes = w.sizes;
            long = length-set (table_in s').files k entry ∙ w.long;
            recovering = w.recovering;
            reports = w.reports;
            embargoes = w.embargoes;
            forgotten =
                λ f low hf.
                split (eqb f k)
                (λ e.
                subst⁻¹ (λ (x : Entry). Accepting n (at i true (reported_at s)) x)
                (get_d_set (table_in s').files k f entry no_entry true there e ∙ is)
                (forget_accepts here i hi bound))
                (λ e.
                let away : f ≡ k → ⊥ = eqb-false f k e in
                subst⁻¹ (λ (x : Entry). Accepting n (at i true (reported_at s)) x)
                (get_d_set (table_in s').files k f entry no_entry false there e)
                (w.forgotten f (omega (arith, low, away)) hf));
            left =
                λ f past hf.
                get_d_set (table_in s').files k f entry no_entry false there (ne_eqb f k (λ e. omega (arith, past, e)))
                ∙ w.left f (omega arith) hf;
          }

      swept : (k : ℕ) → k ≤ z.files → Swept k (forgotten_below z i k (marked s i))
      unfolding forgotten_below
      swept zero fits =
          record {
            sizes = refl;
            long = h.entries;
            recovering = refl;
            reports = refl;
            embargoes = refl;
            forgotten = λ f low. absurd (omega arith);
            left = λ f past hf. refl;
          }
      swept (suc k) fits = swept-next k (forgotten_below z i k (marked s i)) (omega arith) (swept k (omega arith))

      restart-agrees : Agreeing z (told z (put_aside z s i) i)
      restart-agrees =
          let p : Service = put_aside z s i in
          let w = swept z.files (omega arith) in
          told-agrees p i hi (ap in_force w.sizes ∙ h.sizes) w.long (ap length w.reports ∙ h.reports)
          (w.recovering ∙ h.state)
          (λ j hj other out.
          ap (λ (l : List Bool). get_or l j false) w.reports
          ∙ h.silent j hj
          (sym (get_or-set_other (table_in s).embargoed i j true false (eqb-false j i other))
          ∙ ap (λ (l : List Bool). get_or l j false) (sym w.embargoes)
          ∙ out))
          (λ f hf.
          subst⁻¹ (λ (l : List Bool). Accepting n (at i true (λ j. get_or l j false)) (entry_at p f)) w.reports
          (w.forgotten f hf hf))

    -- ---- every step of the recovery

    accepted-agrees :
        (x : Step)
        → Passed (tests_of z s x)
        → (table_in (done_of z s x).service).recovering ≡ true
        → Agreeing z (done_of z s x).service
    accepted-agrees (Open mode i f) (_, (_, (_, (runs, _)))) recovers = conflict h.state runs
    accepted-agrees (Close mode i f) (_, (_, (_, (runs, _)))) recovers = conflict h.state runs
    accepted-agrees (Flush i f b) (_, (_, (_, (_, (runs, _))))) recovers = conflict h.state runs
    accepted-agrees (Answer i f) (_, (_, (_, (runs, _)))) recovers = conflict h.state runs
    accepted-agrees (Embargo i f) (_, (_, (runs, _))) recovers = conflict h.state runs
    accepted-agrees (Read i f b) passed recovers =
        record {
          sizes = h.sizes;
          entries = h.entries;
          reports = h.reports;
          state = h.state;
          silent = h.silent;
          accepting = h.accepting;
        }
    accepted-agrees (Write i f b v) passed recovers =
        record {
          sizes = h.sizes;
          entries = h.entries;
          reports = h.reports;
          state = h.state;
          silent = h.silent;
          accepting = h.accepting;
        }
    accepted-agrees Crash passed recovers = crash_agrees s made
    accepted-agrees (Report i) passed recovers = report-agrees i passed
    accepted-agrees End passed recovers = conflict recovers refl
    accepted-agrees (Restart i) (client, _) recovers = restart-agrees i (leb-false n i client)
    accepted-agrees (Lift i) passed recovers = lift-agrees i passed

    after-agrees : (x : Step) → (table_in (after s x)).recovering ≡ true → Agreeing z (after s x)
    after-agrees x recovers =
        split (refused s x)
        (λ e. subst⁻¹ (Agreeing z) (refused_changes_nothing s x e) h)
        (λ e.
        let (passed, done) = when_accepted s x h.sizes e in
        done_but_store (λ t. (table_in t).recovering ≡ true → Agreeing z t)
        (λ t used free h recovers. agreeing_stored t used free (h recovers))
        z s x done (accepted-agrees x passed) recovers)

    agree-now : AcceptedAgree s
    agree-now =
        subst⁻¹ (λ (z : Sizes). (f : ℕ) → f < z.files → Agree z.clients (reported_at s) (entry_at s f)) h.sizes
        (λ f hf. (h.accepting f hf).agree)

  along : (s : Service) → Agreeing z s → (steps : List Step) → AgreeAlong s steps
  along s h [] = agree-now s h
  along s h (x ∷ steps) = (agree-now s h, λ recovers. along (after s x) (after-agrees s h x recovers) steps)

-- from the crash of any service
pub recovery_agrees : (s : Service) → Made (sizes_of s) s → RecoveryAgrees (after s Crash)
recovery_agrees s made =
    let most = in_force_permitted s.sizes in
    let (_, done) = when_accepted s Crash refl (crash_accepted s) in
    record {
      always =
          along most (after s Crash)
          (done_but_store (Agreeing (sizes_of s)) agreeing_stored (sizes_of s) s Crash done (crash_agrees most s made));
    }

-- and so of the one that any arrays hold
held_agrees :
    (given : Sizes) (t : List ℕ) (flags : List Bool) (a : Stores)
    → length flags ≡ lent_flags
    → RecoveryAgrees (after (service_held given t flags a) Crash)
held_agrees given t flags a long =
    let most = in_force_permitted given in
    recovery_agrees (service_held given t flags a)
    (record {
      sizes = refl;
      entries = length_listed max_files (λ f. entry_held t f);
      reports = length-take-le max_clients flags (omega (arith, long));
      records =
          λ f hf.
          subst⁻¹ (λ (e : Entry). (in_force given).clients ≤ length e.records)
          (get_d_listed max_files (λ g. entry_held t g) no_entry f (file_fits most hf))
          (subst⁻¹ (λ k. (in_force given).clients ≤ k) (length_listed max_clients (λ i. record_held (word_at t f (2 + i)))) most.clients);
    })

-- a crash in the arrays of a service
pub held_crash :
    {sizes : Sizes} {t t' : List ℕ} {flags flags' : List Bool} {a a' : Stores} {reply : Reply} {calls : List ℕ}
    (given : Sizes) (self r : Service)
    → Serves sizes Crash t flags a t' flags' a' reply calls
    → sizes ≡ in_force given
    → r ≡ service_held given t' flags' a'
    → service_held given t flags a ≡ self
    → length flags ≡ lent_flags
    → (r ≡ (step_of self Crash).service) × RecoveryAgrees r
held_crash {t = t} {flags = flags} {a = a} given self r s force made of long =
    let is : r ≡ after (service_held given t flags a) Crash = made ∙ ap (λ (o : Outcome). o.service) (s.taken given force) in (
      is ∙ ap (λ (s : Service). (step_of s Crash).service) of,
      subst⁻¹ RecoveryAgrees is (held_agrees given t flags a long),
    )

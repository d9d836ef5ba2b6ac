-- A client restarts: it has nothing of the file any more, its writes at risk are lost, and its call is answered.
-- By L3 and L4 nobody else has a copy of the latest version where it had a write at risk, so that no copy is wrong. It
-- leads to the promises restarts, restarts_back and restarts_cut_off. Assumes nothing.
use Prim.Native.Nat.{ℕ, ◌<◌, ◌≤◌}
use mathlib.Core.Path.{◌≡◌, refl, sym, ◌∙◌, ap, subst, fun_ext}
use mathlib.Core.Bool.{Bool, true, false, cond, false≢true}
use mathlib.Core.Logic.{⊎_elim}
use mathlib.Core.List.{List}
use native.Mathlib.Omega.{arith}
use lib.Dec.{eqb, ltb}
use lib.ListN.{length, get_or, set, length-set}
use borrow.Author.Tests.{eqb-true, eqb-false, eq-eqb, le-ltb}
use Rattle.records.specs.declared.record.Mode.{Mode}
use Rattle.records.specs.declared.record.Mode.TheVariants.{Read}
use Rattle.records.specs.declared.record.ClientRecord.{ClientRecord}
use Rattle.records.specs.declared.version.Version.{Version}
use Rattle.protocol.specs.declared.client.ClientFile.{ClientFile}
use Rattle.protocol.specs.declared.entry.Entry.{Entry}
use Rattle.sizes.specs.Sizes.{nobody}
use Rattle.records.specs.Version.{number_of}
use Rattle.decision.specs.Lists.{filled}
use Rattle.records.specs.Record.{not_open, is_write}
use Rattle.decision.specs.State.{record_in}
use Rattle.decision.specs.Callback.{writes_back, invalidates, asks_nothing}
use Rattle.protocol.specs.Book.{History, came, lost}
use Rattle.protocol.specs.Client.{no_client}
use Rattle.protocol.specs.Entry.{waits, kind_of, call_to, calls_out, forgotten_entry}
use Rattle.protocol.specs.Table.{Row, without}
use Rattle.sizes.proofs.Choosing.{when, unless}
use Rattle.decision.proofs.Storing.{length_stored}
use Rattle.protocol.proofs.View.{View, at, forgotten_view, call_answered_view, answer_view, restarted_view, waiter_granted_view, Backs}
use Rattle.protocol.proofs.Invariant.{may_cache, has_writers, is_latest, Own, Apart, Copied, Sound, LastWriter, Agrees, Waiting, Running, Recovering}
use Rattle.protocol.proofs.Invariant.Flags.{conflict, is_false, split, cases, other_sym, change, at_other}
use Rattle.protocol.proofs.Invariant.Change.{clients_at}
use Rattle.protocol.proofs.Invariant.Last.{last_none}
use Rattle.protocol.proofs.Invariant.Book.{booked_lost, latest_lost, came_clears, unrisked}
use Rattle.protocol.proofs.Invariant.Lists.{get_d_at}
use Rattle.protocol.proofs.Invariant.Answer.{answer_kept, answer_backs, backs_then}
use Rattle.protocol.proofs.Invariant.Open.{answer-last-kept, answer-last-backs}

-- who has nothing has no copy of the latest version
module _ (version : Version) (version_not_zero : eqb (number_of version) 0 ≡ false) where
  none_latest : is_latest version no_client ≡ true → ⊥
  none_latest f = conflict f (other_sym 0 (number_of version) version_not_zero)

  own_none : Own version no_client
  own_none =
      record {
        caching_is_open = λ p. absurd (false≢true p);
        marked_excludes = λ m. absurd (false≢true m);
        marked_open_caches = λ m. absurd (false≢true m);
        label_not_ahead = omega arith;
        caching_has_latest = λ x. absurd (⊎_elim false≢true false≢true x);
        writer_owns_latest = λ w. absurd (false≢true w);
      }

  none_to : (d : ClientFile) → Apart version no_client d
  none_to d =
      record {
        caching_writer_alone = λ p. absurd (false≢true p);
        marked_excludes = λ m. absurd (false≢true m);
        writer_bars_caching = λ w. absurd (false≢true w);
        writer_owns_latest = λ w. absurd (false≢true w);
        marked_owns_latest = λ m. absurd (false≢true m);
      }

  none_from : (d : ClientFile) → Apart version d no_client
  none_from d =
      record {
        caching_writer_alone = λ _ _ o. false≢true o;
        marked_excludes = λ _ x. ⊎_elim false≢true false≢true x;
        writer_bars_caching = λ _ p. false≢true p;
        writer_owns_latest = λ _ f. none_latest f;
        marked_owns_latest = λ _ f. none_latest f;
      }

-- Client i restarts; k is the latest write before, and l the one after, which is the same unless i had the block dirty.
sound_restarted :
    {n : ℕ} {version : Version} {client : ℕ → ClientFile} {copy : ℕ → ℕ} {held dirty : ℕ → Bool} {k l : ℕ} (i : ℕ)
    → i < n
    → (dirty i ≡ false → l ≡ k)
    → Sound n version client copy held dirty k
    → Sound n version (at i no_client client) (at i 0 copy) (at i false held) (at i false dirty) l
sound_restarted {n} {version} {client} {copy} {held} {dirty} {k} {l} i below same h =
    let clients = h.clients in
    let some = clients.version_not_zero in
    -- where i had the block dirty, another client's copy is not of the latest version
    let right : (s : ℕ) → eqb s i ≡ false → held s ≡ true → is_latest version (client s) ≡ true → copy s ≡ l =
    λ s e y f. split (dirty i)
    (λ d. let far = clients.apart i s e in
    absurd (⊎_elim (λ m. far.marked_owns_latest m f) (λ x. far.writer_owns_latest x.0 f) ((h.copied i).dirty_is_owned d)))
    (λ d. (h.copied s).held_is_right y f ∙ sym (same d)) in
    record {
      clients = clients_at clients version i no_client below some (own_none version some) (λ t _. clients.own t)
          (λ t _. none_to version some (client t))
          (λ t _. none_from version some (client t))
          clients.apart;
      copied = change (λ s b. Copied version (cond b no_client (client s)) (cond b 0 (copy s)) (cond b false (held s))
          (cond b false (dirty s)) l) i
          (record {
            dirty_is_held = λ d. d;
            dirty_is_owned = λ d. absurd (false≢true d);
            held_is_right = λ y. absurd (false≢true y);
          })
          (λ s e. record {
            dirty_is_held = (h.copied s).dirty_is_held;
            dirty_is_owned = (h.copied s).dirty_is_owned;
            held_is_right = right s e;
          });
    }

-- What a table has that has heard of the restart, and of the others what it had.
module _
    {n : ℕ}
    {records : List ClientRecord}
    {last : ℕ}
    {client : ℕ → ClientFile}
    {heard : ℕ → Bool}
    (i : ℕ)
    (below : i < n)
    (bound : n ≤ nobody)
    (h : Agrees n records last client heard)
  where
    last-forgotten : LastWriter n (cond (eqb last i) nobody last) (at i no_client client) (at i true heard)
    last-forgotten =
        cases (λ b. LastWriter n (cond b nobody last) (at i no_client client) (at i true heard)) (eqb last i)
        (λ e. last_none bound
        (change (λ s b. cond b true (heard s) ≡ true → (cond b no_client (client s)).marked ≡ true → ⊥) i
        (λ _ m. false≢true m)
        (λ s away t m. eqb-false s i away (sym (h.last_writer.named s t m) ∙ eqb-true last i e))))
        (λ e. record {
          named = change (λ s b. cond b true (heard s) ≡ true → (cond b no_client (client s)).marked ≡ true → last ≡ s) i
              (λ _ m. absurd (false≢true m)) (λ s _. h.last_writer.named s);
          holder = λ is. ap (λ c. c.marked) (at_other i last no_client client e) ∙ h.last_writer.holder is;
          unnamed = h.last_writer.unnamed;
        })

    agrees-forgotten :
        Agrees n (set records i not_open) (cond (eqb last i) nobody last) (at i no_client client) (at i true heard)
    agrees-forgotten =
        let fits : i < length records = subst (λ m. i < m) (sym h.size) below in
        record {
          size = length-set records i _ ∙ h.size;
          known = λ s t. get_d_at records i not_open not_open fits s
              ∙ change (λ j b. cond b true (heard j) ≡ true → cond b not_open (record_in records j) ≡ (cond b no_client (client j)).opens) i
              (λ _. refl) (λ j _. h.known j) s t;
          last_writer = last-forgotten;
        }

    -- where the table has heard everybody
    module _ (all : (s : ℕ) → heard s ≡ true) where
      heard_all : at i true heard ≡ heard
      heard_all = fun_ext (change (λ s b. cond b true (heard s) ≡ heard s) i (sym (all i)) (λ _ _. refl))

      agrees-all : Agrees n (set records i not_open) (cond (eqb last i) nobody last) (at i no_client client) heard
      agrees-all =
          subst (Agrees n (set records i not_open) (cond (eqb last i) nobody last) (at i no_client client)) heard_all agrees-forgotten

waiting_forgotten :
    {version : Version} {client : ℕ → ClientFile} {opener : ℕ} {mode : Mode} {calls : ℕ → ℕ} (i : ℕ)
    → Waiting version client opener mode calls
    → Waiting version (at i no_client client) opener mode calls
waiting_forgotten {version} {client} {opener} {mode} {calls} i h =
    record {
      uncalled = h.uncalled;
      marked = change (λ t b. eqb t opener ≡ false → (cond b no_client (client t)).marked ≡ true
          → writes_back (calls t) ≡ true) i
          (λ _ m. absurd (false≢true m)) (λ t _. h.marked t);
      writing = change (λ t b. eqb t opener ≡ false → may_cache (cond b no_client (client t)) ≡ true
          → has_writers (cond b no_client (client t)) ≡ true → calls t ≡ 3) i
          (λ _ p. absurd (false≢true p)) (λ t _. h.writing t);
      caching = change (λ t b. eqb t opener ≡ false → is_write mode ≡ true → may_cache (cond b no_client (client t)) ≡ true
          → invalidates (calls t) ≡ true) i
          (λ _ _ p. absurd (false≢true p)) (λ t _. h.caching t);
      alone = λ s t w. change (λ s b. eqb s t ≡ false → (cond b no_client (client s)).marked ≡ true → ⊥) i
          (λ _ m. false≢true m) (λ s _. h.alone s t w) s;
      version_left = h.version_left;
    }

module _ (n : ℕ) (e : Entry) (i : ℕ) where
  calls_size : length e.calls ≡ n → length (forgotten_entry n e i).calls ≡ n
  calls_size size =
      cases (λ b. length (cond b (filled n 0 e.calls) e.calls) ≡ n) (eqb e.waiter i)
      (λ _. length_stored n (λ j. j) (λ j. 0) e.calls ∙ size) (λ _. size)

  -- an open that waits after the client is forgotten has waited before, and is another client's
  waits_still : n ≤ nobody → waits n (forgotten_entry n e i) ≡ true → (waits n e ≡ true) × (eqb e.waiter i ≡ false)
  waits_still bound is =
      split (eqb e.waiter i)
      (λ own. let gone : (forgotten_entry n e i).waiter ≡ nobody = when nobody e.waiter own in
      absurd (conflict is (ap (λ x. ltb x n) gone ∙ le-ltb nobody n bound)))
      (λ other. let same : (forgotten_entry n e i).waiter ≡ e.waiter = unless nobody e.waiter other in
      (ap (λ x. ltb x n) (sym same) ∙ is, other))

-- who is forgotten is not marked, and nobody else changes
forget_backs : (n : ℕ) (v : View) (i : ℕ) → Backs v (forgotten_view n v i)
forget_backs n v i =
    change
    (λ j b.
    (cond b no_client (v.client j)).marked ≡ true
    → ((v.client j).marked ≡ true) × (v.dirty j ≡ true → cond b false (v.dirty j) ≡ true))
    i
    (λ m. absurd (false≢true m))
    (λ j _ m. (m, λ d. d))

-- the server runs, and client i has nothing dirty: its answer, if it has a call, changes no write
module _ (n : ℕ) (v : View) (k : History) (i : ℕ) (bound : n ≤ nobody) (h : Running n v k) (below : i < n) where
  -- the view with the call answered
  abbrev w : View
  w = call_answered_view n v i

  module _ (clean : v.dirty i ≡ false) where
    nothing-comes : came i k ≡ k
    nothing-comes = unrisked came_clears i h.booked.risker k h.booked.shape (sym (h.booked.risk i) ∙ clean)

    pub answer-view-kept : Running n (answer_view n v i) k
    answer-view-kept =
        subst (Running n (answer_view n v i)) nothing-comes
        (cases (λ b. Running n (cond b v (cond (eqb (calls_out n w.entry) 0) (waiter_granted_view n w) w)) (came i k))
        (asks_nothing (call_to n v.entry i))
        (λ _. subst (Running n v) (sym nothing-comes) h)
        (λ called.
        cases (λ b. Running n (cond b (waiter_granted_view n w) w) (came i k)) (eqb (calls_out n w.entry) 0)
        (λ none. (answer-last-kept n v k i bound h below called none).1)
        (λ _. answer_kept n v k i bound h below called)))

  pub answer_view_backs : Backs v (answer_view n v i)
  answer_view_backs =
      cases (λ b. Backs v (cond b v (cond (eqb (calls_out n w.entry) 0) (waiter_granted_view n w) w)))
      (asks_nothing (call_to n v.entry i))
      (λ _ j m. (m, λ d. d))
      (λ called.
      cases (λ b. Backs v (cond b (waiter_granted_view n w) w)) (eqb (calls_out n w.entry) 0)
      (λ none. answer-last-backs n v k i bound h below called none)
      (λ _. answer_backs n v k i h called))

-- client i restarts while the server runs
module _ (n : ℕ) (v : View) (k : History) (i : ℕ) (bound : n ≤ nobody) (h : Running n v k) (below : i < n) where
  abbrev e : Entry
  e = v.entry

  waiting_now :
      waits n (forgotten_entry n e i) ≡ true
      → let e' = forgotten_entry n e i in
      Waiting v.entry.version (at i no_client v.client) e'.waiter e'.mode (call_to n e')
  waiting_now is =
      let (was, other) = waits_still n e i bound is in
      let ws = waiting_forgotten i (h.waiting was) in
      subst (λ b. Waiting e.version (at i no_client v.client) (cond b nobody e.waiter) (cond b Read e.mode)
      (λ t. cond (ltb (cond b nobody e.waiter) n) (kind_of (get_or (cond b (filled n 0 e.calls) e.calls) t 0)) 0))
      (sym other) ws

  forget_kept : Running n (forgotten_view n v i) (lost i k)
  forget_kept =
      record {
        sound = sound_restarted i below (latest_lost h.booked i) h.sound;
        booked = booked_lost h.booked i;
        table = agrees-all i below bound h.table (λ _. refl);
        calls = calls_size n e i h.calls;
        waiting = waiting_now;
      }

  forgotten_clean : (forgotten_view n v i).dirty i ≡ false
  forgotten_clean = when false (v.dirty i) (eq-eqb i i refl)

  pub restart_kept : Running n (restarted_view n v i) (lost i k)
  restart_kept = answer-view-kept n (forgotten_view n v i) (lost i k) i bound forget_kept below forgotten_clean

  pub restart_backs : Backs v (restarted_view n v i)
  restart_backs =
      backs_then v (forgotten_view n v i) (restarted_view n v i) (forget_backs n v i)
      (answer_view_backs n (forgotten_view n v i) (lost i k) i bound forget_kept below)

-- in a recovery no open waits, so that a restart grants nothing
unanswered : (n : ℕ) (v : View) (i : ℕ) → n ≤ nobody → waits n v.entry ≡ false → restarted_view n v i ≡ forgotten_view n v i
unanswered n v i bound none =
    let e = v.entry in
    let off = is_false (waits n (forgotten_entry n e i)) (λ is. conflict (waits_still n e i bound is).0 none) in
    let uncalled : call_to n (forgotten_entry n e i) i ≡ 0 = unless _ 0 off in
    ap (λ c. let w = call_answered_view n (forgotten_view n v i) i in
    cond (asks_nothing c) (forgotten_view n v i) (cond (eqb (calls_out n w.entry) 0) (waiter_granted_view n w) w)) uncalled

-- client i restarts in a recovery: it counts as reported, and the table to give back has it no more
pub restart_cut_off_kept :
    (n : ℕ) (v : View) (k : History) (i : ℕ) (reported : ℕ → Bool) (row : Row)
    → n ≤ nobody
    → Recovering n v k reported row
    → i < n
    → Recovering n (restarted_view n v i) (lost i k) (at i true reported) (without i row)
restart_cut_off_kept n v k i reported row bound h below =
    let e = v.entry in
    subst (λ w. Recovering n w (lost i k) (at i true reported) (without i row)) (sym (unanswered n v i bound h.none_waits))
    (record {
      sound = sound_restarted i below (latest_lost h.booked i) h.sound;
      booked = booked_lost h.booked i;
      table = agrees-forgotten i below bound h.table;
      calls = calls_size n e i h.calls;
      none_waits = is_false (waits n (forgotten_entry n e i)) (λ is. conflict (waits_still n e i bound is).0 h.none_waits);
      before = agrees-all i below bound h.before (λ _. refl);
      version = h.version;
    })

pub restart_cut_off_backs :
    (n : ℕ) (v : View) (k : History) (i : ℕ) (reported : ℕ → Bool) (row : Row)
    → n ≤ nobody
    → Recovering n v k reported row
    → Backs v (restarted_view n v i)
restart_cut_off_backs n v k i reported row bound h =
    subst (Backs v) (sym (unanswered n v i bound h.none_waits)) (forget_backs n v i)

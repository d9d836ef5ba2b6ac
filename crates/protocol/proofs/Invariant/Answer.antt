-- A client answers its callback. By WS a marked client, and one with a dirty block, is called to write back; so nothing
-- dirty is lost, no other mark is cleared with the last writer, and what the answer leaves undone is still called for.
-- It leads to the promise answers, and with the grant to answers_last. Assumes nothing.
use Prim.Native.Nat.{ℕ, ◌<◌, ◌≤◌}
use mathlib.Core.Path.{◌≡◌, refl, sym, ◌∙◌, ap, subst, fun_ext}
use mathlib.Core.Bool.{Bool, true, false, cond, ◌&&◌, false≢true}
use mathlib.Core.Logic.{inl, ⊎_elim}
use native.Mathlib.Omega.{arith}
use lib.Dec.{eqb}
use lib.ListN.{length, get_or, length-set}
use borrow.Author.Tests.{eqb-false, ne_eqb}
use Rattle.records.specs.declared.record.Mode.{Mode}
use Rattle.records.specs.declared.version.Version.{Version}
use Rattle.protocol.specs.declared.client.ClientFile.{ClientFile}
use Rattle.protocol.specs.declared.entry.Entry.{Entry}
use Rattle.sizes.specs.Sizes.{nobody}
use Rattle.records.specs.Version.{no_version, number_of}
use Rattle.records.specs.Record.{uncached, is_write}
use Rattle.decision.specs.Callback.{writes_back, invalidates}
use Rattle.protocol.specs.Book.{History, came}
use Rattle.protocol.specs.Client.{answered_client}
use Rattle.protocol.specs.Entry.{record_at, waits, kind_of, call_to, answered_entry}
use Rattle.protocol.proofs.View.{View, at, call_answered_view, Backs}
use Rattle.protocol.proofs.Invariant.{may_cache, has_open, has_writers, is_latest, Own, Apart, Copied, Sound, Agrees, Waiting, everybody, Running}
use Rattle.protocol.proofs.Invariant.Flags.{conflict, is_false, split, cases, and_right, and_both, other_sym, change}
use Rattle.protocol.proofs.Invariant.Lists.{get_d_at}
use Rattle.protocol.proofs.Invariant.Change.{clients_at, known_at}
use Rattle.protocol.proofs.Invariant.Last.{last_none_at, last_same_at}
use Rattle.protocol.proofs.Invariant.Block.{dirty_is}
use Rattle.protocol.proofs.Invariant.Book.{latest_came, booked_came}
use Rattle.sizes.proofs.Choosing.{when, unless}

-- The client that answers, and the same afterwards.
module _ (kind : ℕ) (c : ClientFile) where
  abbrev answered : ClientFile
  answered = answered_client kind c

  -- its counts are the same
  open_same : has_open answered ≡ has_open c
  open_same = split (invalidates kind) (λ drops. cc) (λ stays. cc)

  writers_same : has_writers answered ≡ has_writers c
  writers_same = split (invalidates kind) (λ drops. cc) (λ stays. cc)

  -- where it was called to invalidate, permission and copy are gone, else they are the same
  permission_gone : invalidates kind ≡ true → may_cache answered ≡ false
  permission_gone drops = cc

  permission_same : invalidates kind ≡ false → may_cache answered ≡ may_cache c
  permission_same stays = cc

  copy_gone :
      (version : Version)
      → eqb (number_of version) 0 ≡ false
      → invalidates kind ≡ true
      → is_latest version answered ≡ false
  copy_gone version version_not_zero drops = cc (other_sym 0 (number_of version) version_not_zero)

  copy_same : (version : Version) → invalidates kind ≡ false → is_latest version answered ≡ is_latest version c
  copy_same version stays = cc

  -- and where a marked client was called to write back, it is not marked
  unmarked : (c.marked ≡ true → writes_back kind ≡ true) → answered.marked ≡ true → ⊥
  unmarked due m =
      split (writes_back kind) (λ sends. let gone : answered.marked ≡ false = cc in conflict m gone)
      (λ unsent. let same : answered.marked ≡ c.marked = cc in conflict (due (sym same ∙ m)) unsent)

  -- so who may still cache was not called to invalidate, and could before
  still_caches : may_cache answered ≡ true → invalidates kind ≡ false
  still_caches p = is_false (invalidates kind) (λ drops. conflict p (permission_gone drops))

  cached_before : may_cache answered ≡ true → may_cache c ≡ true
  cached_before p = sym (permission_same (still_caches p)) ∙ p

  -- The clauses on the client, on it with another client d, and on its copy.
  module _ (version : Version) (version_not_zero : eqb (number_of version) 0 ≡ false) where
    still-latest : is_latest version answered ≡ true → invalidates kind ≡ false
    still-latest f = is_false (invalidates kind) (λ drops. conflict f (copy_gone version version_not_zero drops))

    was-latest : is_latest version answered ≡ true → is_latest version c ≡ true
    was-latest f = sym (copy_same version (still-latest f)) ∙ f

    own-answered : (c.marked ≡ true → writes_back kind ≡ true) → Own version c → Own version answered
    own-answered due h =
        record {
          caching_is_open = λ p. open_same ∙ h.caching_is_open (cached_before p);
          marked_excludes = λ m. absurd (unmarked due m);
          marked_open_caches = λ m. absurd (unmarked due m);
          label_not_ahead = cases (λ b. number_of (cond b no_version c.label) ≤ number_of version) (invalidates kind)
              (λ _. omega arith) (λ _. h.label_not_ahead);
          caching_has_latest = ⊎_elim (λ p. copy_same version (still_caches p) ∙ h.caching_has_latest (inl (cached_before p))) (λ m. absurd (unmarked due m));
          writer_owns_latest = λ w f. permission_same (still-latest f) ∙ h.writer_owns_latest (sym writers_same ∙ w) (was-latest f);
        }

    answered-to :
        (d : ClientFile)
        → (c.marked ≡ true → writes_back kind ≡ true)
        → Apart version c d
        → Apart version answered d
    answered-to d due h =
        record {
          caching_writer_alone = λ p w. h.caching_writer_alone (cached_before p) (sym writers_same ∙ w);
          marked_excludes = λ m. absurd (unmarked due m);
          writer_bars_caching = λ w. h.writer_bars_caching (sym writers_same ∙ w);
          writer_owns_latest = λ w. h.writer_owns_latest (sym writers_same ∙ w);
          marked_owns_latest = λ m. absurd (unmarked due m);
        }

    answered-from :
        (d : ClientFile)
        → (c.marked ≡ true → writes_back kind ≡ true)
        → Apart version d c
        → Apart version d answered
    answered-from d due h =
        record {
          caching_writer_alone = λ p w o. h.caching_writer_alone p w (sym open_same ∙ o);
          marked_excludes = λ m. ⊎_elim (λ o. h.marked_excludes m (inl (sym open_same ∙ o))) (unmarked due);
          writer_bars_caching = λ w p. h.writer_bars_caching w (cached_before p);
          writer_owns_latest = λ w f. h.writer_owns_latest w (was-latest f);
          marked_owns_latest = λ m f. h.marked_owns_latest m (was-latest f);
        }

    copied-answered :
        {copy : ℕ} {held dirty : Bool} {k : ℕ}
        → Copied version c copy held dirty k
        → Copied version answered (cond (invalidates kind) 0 copy) (cond (invalidates kind) false held) false k
    copied-answered {copy} {held} {k = k} h =
        record {
          dirty_is_held = λ d. absurd (false≢true d);
          dirty_is_owned = λ d. absurd (false≢true d);
          held_is_right = λ y f. subst (λ b. cond b false held ≡ true → cond b 0 copy ≡ k) (sym (still-latest f))
              (λ y. h.held_is_right y (was-latest f)) y;
        }

-- Client i answers, and what WS says of it.
module _
    {n : ℕ}
    {client : ℕ → ClientFile}
    (i kind : ℕ)
    (below : i < n)
    (due : (client i).marked ≡ true → writes_back kind ≡ true)
  where
    sound-answered :
        {version : Version} {copy : ℕ → ℕ} {held dirty : ℕ → Bool} {k : ℕ}
        → Sound n version client copy held dirty k
        → Sound
        n
        version
        (at i (answered kind (client i)) client)
        (at i (cond (invalidates kind) 0 (copy i)) copy)
        (at i (cond (invalidates kind) false (held i)) held)
        (at i false dirty)
        k
    sound-answered {version} {copy} {held} {dirty} {k} h =
        let clients = h.clients in
        let c = client i in
        let drops = invalidates kind in
        record {
          clients = clients_at clients version i (answered kind c) below clients.version_not_zero
              (own-answered kind c version clients.version_not_zero due (clients.own i))
              (λ t _. clients.own t)
              (λ t e. answered-to kind c version clients.version_not_zero (client t) due (clients.apart i t e))
              (λ t e. answered-from kind c version clients.version_not_zero (client t) due (clients.apart t i (other_sym i t e)))
              clients.apart;
          copied = change (λ s b. Copied version (cond b (answered kind c) (client s))
              (cond b (cond drops 0 (copy i)) (copy s))
              (cond b (cond drops false (held i)) (held s)) (cond b false (dirty s)) k) i
              (copied-answered kind c version clients.version_not_zero (h.copied i)) (λ s _. h.copied s);
        }

    table-answered :
        (e : Entry)
        → n ≤ nobody
        → Agrees n e.records e.last client everybody
        → (writes_back kind ≡ true → (s : ℕ) → eqb s i ≡ false → (client s).marked ≡ true → ⊥)
        → let e' = answered_entry e i kind in
        Agrees n e'.records e'.last (at i (answered kind (client i)) client) everybody
    table-answered e bound h alone =
        let c = answered kind (client i) in
        let known : (s : ℕ) → everybody s ≡ true → record_at (answered_entry e i kind) s ≡ (at i c client s).opens
        = known_at h i _ c below (ap (λ r. cond (invalidates kind) (uncached r) r) (h.known i refl)) in
        record {
          size = length-set e.records i _ ∙ h.size;
          known = known;
          last_writer = split (writes_back kind)
              (λ sends. let is : (answered_entry e i kind).last ≡ nobody = cc in
              rw is (last_none_at client i c bound (unmarked kind (client i) due) (alone sends)))
              (λ unsent. let is : (answered_entry e i kind).last ≡ e.last = cc in
              rw is (last_same_at client i c h.last_writer cc));
        }

    -- the others' callbacks stay out, and what they are out for stays as it was
    waiting-answered :
        {version : Version} {opener : ℕ} {mode : Mode} {calls : ℕ → ℕ}
        → Waiting version client opener mode calls
        → (may_cache (client i) ≡ true → has_writers (client i) ≡ true → invalidates kind ≡ true)
        → (is_write mode ≡ true → may_cache (client i) ≡ true → invalidates kind ≡ true)
        → Waiting version (at i (answered kind (client i)) client) opener mode (at i 0 calls)
    waiting-answered {version} {opener} {mode} {calls} h both drops =
        let c = answered kind (client i) in
        let stays : may_cache c ≡ true → invalidates kind ≡ true → ⊥
        = λ p d. conflict d (still_caches kind (client i) p) in
        let gone = unmarked kind (client i) due in
        record {
          uncalled = change (λ s b. calls s ≡ 0 → cond b 0 (calls s) ≡ 0) i (λ _. refl) (λ _ _ z. z) opener
              h.uncalled;
          marked = change (λ t b. eqb t opener ≡ false → (cond b c (client t)).marked ≡ true
              → writes_back (cond b 0 (calls t)) ≡ true) i
              (λ _ m. absurd (gone m)) (λ t _. h.marked t);
          writing = change (λ t b. eqb t opener ≡ false → may_cache (cond b c (client t)) ≡ true
              → has_writers (cond b c (client t)) ≡ true → cond b 0 (calls t) ≡ 3) i
              (λ _ p w. absurd (stays p (both (cached_before kind (client i) p) (sym (writers_same kind (client i)) ∙ w))))
              (λ t _. h.writing t);
          caching = change (λ t b. eqb t opener ≡ false → is_write mode ≡ true → may_cache (cond b c (client t)) ≡ true
              → invalidates (cond b 0 (calls t)) ≡ true) i
              (λ _ w p. absurd (stays p (drops w (cached_before kind (client i) p)))) (λ t _. h.caching t);
          alone = λ s. change (λ t b. writes_back (cond b 0 (calls t)) ≡ true → eqb s t ≡ false
              → (at i c client s).marked ≡ true → ⊥) i
              (λ w. absurd (false≢true w))
              (λ t _ w. change (λ s b. eqb s t ≡ false → (cond b c (client s)).marked ≡ true → ⊥) i
              (λ _. gone) (λ s _. h.alone s t w) s);
          version_left = h.version_left;
        }

-- the callbacks that are out after client i has answered
pub calls_answered :
    (n : ℕ) (e : Entry) (i kind : ℕ)
    → i < length e.calls
    → call_to n (answered_entry e i kind) ≡ at i 0 (call_to n e)
calls_answered n e i kind fits =
    fun_ext (λ t. ap (λ k. cond (waits n e) (kind_of k) 0) (get_d_at e.calls i 0 0 fits t)
    ∙ change (λ s b. cond (waits n e) (kind_of (cond b 0 (get_or e.calls s 0))) 0 ≡ cond b 0 (call_to n e s)) i
    (cases (λ w. cond {A = ℕ} w 0 0 ≡ 0) (waits n e) (λ _. refl) (λ _. refl)) (λ _ _. refl) t)

-- who is called answers while an open waits
pub called_waits : (n : ℕ) (e : Entry) (i : ℕ) → eqb (call_to n e i) 0 ≡ false → waits n e ≡ true
called_waits n e i called =
    split (waits n e) (λ w. w)
    (λ off. let none : call_to n e i ≡ 0 = cc in absurd (eqb-false (call_to n e i) 0 called none))

-- and it is another client than the one that waits
called_away :
    (n : ℕ) (v : View) (k : History) (i : ℕ)
    → Running n v k
    → eqb (call_to n v.entry i) 0 ≡ false
    → eqb i v.entry.waiter ≡ false
called_away n v k i h called =
    let e = v.entry in
    let ws = h.waiting (called_waits n e i called) in
    ne_eqb i e.waiter (λ q. eqb-false (call_to n e i) 0 called (ap (call_to n e) q ∙ ws.uncalled))

pub answer_kept :
    (n : ℕ) (v : View) (k : History) (i : ℕ)
    → n ≤ nobody
    → Running n v k
    → i < n
    → eqb (call_to n v.entry i) 0 ≡ false
    → Running n (call_answered_view n v i) (came i k)
answer_kept n v k i bound h below called =
    let e = v.entry in
    let kind = call_to n e i in
    let ws = h.waiting (called_waits n e i called) in
    let away = called_away n v k i h called in
    let due = ws.marked i away in
    let saved : v.dirty i ≡ true → writes_back kind ≡ true
    = λ d. ⊎_elim due (λ x. ap writes_back (ws.writing i away x.1 x.0)) ((h.sound.copied i).dirty_is_owned d) in
    let fits : i < length e.calls = subst (λ m. i < m) (sym h.calls) below in
    record {
      sound = rw (latest_came i k) (sound-answered i kind below due h.sound);
      booked = booked_came h.booked i
          (λ d. when (v.copy i) v.block (and_both (saved d) d) ∙ dirty_is h.sound i d)
          (λ clean. unless (v.copy i) v.block (is_false (writes_back kind && v.dirty i) (λ e. conflict (and_right (writes_back kind) _ e) clean)));
      table = table-answered i kind below due e bound h.table (λ w s. ws.alone s i w);
      calls = length-set e.calls i 0 ∙ h.calls;
      waiting = λ _. rw (calls_answered n e i kind fits)
          (waiting-answered i kind below due ws (λ p w. ap invalidates (ws.writing i away p w)) (ws.caching i away));
    }

-- who has answered is not marked, and nobody else changes
pub answer_backs :
    (n : ℕ) (v : View) (k : History) (i : ℕ)
    → Running n v k
    → eqb (call_to n v.entry i) 0 ≡ false
    → Backs v (call_answered_view n v i)
answer_backs n v k i h called =
    let kind = call_to n v.entry i in
    let due = (h.waiting (called_waits n v.entry i called)).marked i (called_away n v k i h called) in
    change
    (λ j b.
    (cond b (answered kind (v.client i)) (v.client j)).marked ≡ true
    → ((v.client j).marked ≡ true) × (v.dirty j ≡ true → cond b false (v.dirty j) ≡ true))
    i
    (λ m. absurd (unmarked kind (v.client i) due m))
    (λ j _ m. (m, λ d. d))

-- one after the other
pub backs_then : (u v w : View) → Backs u v → Backs v w → Backs u w
backs_then u v w p q j m = let (marked, kept) = q j m in let (before, kept') = p j marked in (before, λ d. kept (kept' d))

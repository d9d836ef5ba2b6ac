-- A close: counts and permission only fall, and a client that loses its last writer count while it may cache is marked
-- then just if a block of the file is dirty there. It leads to the promises closes and closes_back. Assumes nothing.
use Prim.Native.Nat.{ℕ, ◌<◌, ◌≤◌, ◌-◌}
use mathlib.Core.Path.{◌≡◌, refl, sym, ◌∙◌, ap}
use mathlib.Core.Bool.{Bool, true, false, cond, false≢true}
use mathlib.Core.Logic.{◌⊎◌, inl, inr, ⊎_elim}
use native.Mathlib.Omega.{arith}
use lib.Dec.{eqb, ltb}
use lib.ListN.{length-set}
use borrow.Author.Tests.{eqb-true, eq-eqb, ltb-true, ltb-false, lt-ltb}
use Rattle.records.specs.declared.record.Mode.{Mode}
use Rattle.records.specs.declared.record.Mode.TheVariants.{Read, Write}
use Rattle.records.specs.declared.record.ClientRecord.{ClientRecord}
use Rattle.records.specs.declared.version.Version.{Version}
use Rattle.protocol.specs.declared.client.ClientFile.{ClientFile}
use Rattle.protocol.specs.declared.entry.Entry.{Entry}
use Rattle.sizes.specs.Sizes.{nobody}
use Rattle.records.specs.Record.{is_open, lowered, closed, ends_writing}
use Rattle.protocol.specs.Book.{History, latest}
use Rattle.protocol.specs.Client.{closed_client}
use Rattle.protocol.specs.Entry.{record_at, waits, closed_entry}
use Rattle.protocol.proofs.View.{View, at, closed_view}
use Rattle.protocol.proofs.Invariant.{may_cache, has_open, has_writers, Own, Apart, Copied, Clients, Agrees, everybody, Running}
use Rattle.protocol.proofs.Invariant.Flags.{conflict, split, and_left, and_right, and_both, or_left, or_cases, other_sym, change}
use Rattle.protocol.proofs.Invariant.Change.{writers_open, clients_at, known_at}
use Rattle.protocol.proofs.Invariant.Last.{last_one_at, last_none_at, last_same_at}

less : (x : ℕ) → ltb 0 (x - 1) ≡ true → ltb 0 x ≡ true
less x e = let h = ltb-true 0 (x - 1) e in lt-ltb 0 x (omega arith)

-- The record of a client, and the same after the close.
module _ (r : ClientRecord) where
  less_written : (mode : Mode) → ltb 0 (lowered mode r).writers ≡ true → ltb 0 r.writers ≡ true
  less_written Read w = w
  less_written Write w = less r.writers w

  less_open : (mode : Mode) → is_open (lowered mode r) ≡ true → is_open r ≡ true
  less_open Read o =
      ⊎_elim (λ e. or_left _ (less r.readers e)) (λ e. writers_open r e) (or_cases (ltb 0 (r.readers - 1)) _ o)
  less_open Write o =
      ⊎_elim (λ e. or_left _ e) (λ e. writers_open r (less r.writers e)) (or_cases (ltb 0 r.readers) _ o)

  permission_same : (mode : Mode) → (lowered mode r).caching ≡ r.caching
  permission_same Read = refl
  permission_same Write = refl

  -- every caching writer that has no writers left leaves as last writer
  writes_or_leaves :
      (mode : Mode)
      → ltb 0 r.writers ≡ true
      → r.caching ≡ true
      → (ltb 0 (lowered mode r).writers ≡ true) ⊎ (ends_writing mode r ≡ true)
  writes_or_leaves Read w c = inl w
  writes_or_leaves Write w c =
      split (ltb 0 (r.writers - 1)) (λ more. inl more)
      (λ none. let some = ltb-true 0 r.writers w in
      let last = ltb-false 0 (r.writers - 1) none in
      inr (and_both (eq-eqb r.writers 1 (omega arith)) c))

  -- and who does so had writers and permission, and has no writers left
  leaver_wrote : (mode : Mode) → ends_writing mode r ≡ true → ltb 0 r.writers ≡ true
  leaver_wrote Read l = absurd (false≢true l)
  leaver_wrote Write l =
      let single = eqb-true r.writers 1 (and_left _ r.caching l) in
      lt-ltb 0 r.writers (omega arith)

  leaver_caching : (mode : Mode) → ends_writing mode r ≡ true → r.caching ≡ true
  leaver_caching Read l = absurd (false≢true l)
  leaver_caching Write l = and_right (eqb r.writers 1) _ l

  leaver_done : (mode : Mode) → ends_writing mode r ≡ true → ltb 0 (lowered mode r).writers ≡ true → ⊥
  leaver_done Read l w = false≢true l
  leaver_done Write l w =
      let single = eqb-true r.writers 1 (and_left _ r.caching l) in
      let more = ltb-true 0 (r.writers - 1) w in
      omega arith

-- The client, and the same after the close, where a block of the file is dirty or not.
module _ (mode : Mode) (is_dirty : Bool) (c : ClientFile) where
  abbrev after : ClientFile
  after = closed_client mode is_dirty c

  abbrev leaves : Bool
  leaves = ends_writing mode c.opens

  wrote : has_writers after ≡ true → has_writers c ≡ true
  wrote w = less_written c.opens mode w

  was_open : has_open after ≡ true → has_open c ≡ true
  was_open o = less_open c.opens mode o

  keeps_permission_lem : has_open after ≡ true → may_cache c ≡ true → may_cache after ≡ true
  keeps_permission_lem o p = and_both o (permission_same c.opens mode ∙ p)

  had_permission : may_cache after ≡ true → may_cache c ≡ true
  had_permission p = sym (permission_same c.opens mode) ∙ and_right (is_open (lowered mode c.opens)) _ p

  leaver_marked : leaves ≡ true → after.marked ≡ is_dirty
  leaver_marked l = cc

  else_same : leaves ≡ false → after.marked ≡ c.marked
  else_same stays = cc

  still_marked : is_dirty ≡ true → c.marked ≡ true → after.marked ≡ true
  still_marked d m = split leaves (λ l. leaver_marked l ∙ d) (λ stays. else_same stays ∙ m)

  was_marked : after.marked ≡ true → (leaves ≡ true) ⊎ (c.marked ≡ true)
  was_marked m = split leaves (λ l. inl l) (λ stays. inr (sym (else_same stays) ∙ m))

  leaver_open : leaves ≡ true → has_open c ≡ true
  leaver_open l = writers_open c.opens (leaver_wrote c.opens mode l)

  -- The clauses on it, on it with another client d, and on its copy.
  module _ {version : Version} where
    own-closed : Own version c → Own version after
    own-closed h =
        record {
          caching_is_open = λ p. and_left (is_open (lowered mode c.opens)) _ p;
          marked_excludes = λ m w. ⊎_elim (λ l. leaver_done c.opens mode l w) (λ x. h.marked_excludes x (wrote w)) (was_marked m);
          marked_open_caches = λ m o. keeps_permission_lem o
              (⊎_elim (leaver_caching c.opens mode) (λ x. h.marked_open_caches x (was_open o)) (was_marked m));
          label_not_ahead = h.label_not_ahead;
          caching_has_latest = λ x. h.caching_has_latest (⊎_elim (λ p. inl (had_permission p))
              (λ m. ⊎_elim (λ l. inl (leaver_caching c.opens mode l)) (λ y. inr y) (was_marked m)) x);
          writer_owns_latest = λ w f. keeps_permission_lem (writers_open after.opens w) (h.writer_owns_latest (wrote w) f);
        }

    closed-to : (d : ClientFile) → Apart version c d → Apart version d c → Apart version after d
    closed-to d h back =
        record {
          caching_writer_alone = λ p w. h.caching_writer_alone (had_permission p) (wrote w);
          marked_excludes = λ m x. ⊎_elim
              (λ l. ⊎_elim (h.caching_writer_alone (leaver_caching c.opens mode l) (leaver_wrote c.opens mode l))
              (λ y. back.marked_excludes y (inl (leaver_open l))) x)
              (λ y. h.marked_excludes y x) (was_marked m);
          writer_bars_caching = λ w. h.writer_bars_caching (wrote w);
          writer_owns_latest = λ w. h.writer_owns_latest (wrote w);
          marked_owns_latest = λ m f. ⊎_elim (λ l. h.writer_owns_latest (leaver_wrote c.opens mode l) f) (λ y. h.marked_owns_latest y f) (was_marked m);
        }

    closed-from : (d : ClientFile) → Apart version d c → Apart version d after
    closed-from d h =
        record {
          caching_writer_alone = λ p w o. h.caching_writer_alone p w (was_open o);
          marked_excludes = λ m x. h.marked_excludes m (⊎_elim (λ o. inl (was_open o))
              (λ y. ⊎_elim (λ l. inl (leaver_open l)) (λ z. inr z) (was_marked y)) x);
          writer_bars_caching = λ w p. h.writer_bars_caching w (had_permission p);
          writer_owns_latest = h.writer_owns_latest;
          marked_owns_latest = h.marked_owns_latest;
        }

    copied-closed :
        {copy : ℕ} {held dirty : Bool} {k : ℕ}
        → (dirty ≡ true → is_dirty ≡ true)
        → Copied version c copy held dirty k
        → Copied version after copy held dirty k
    copied-closed stays h =
        record {
          dirty_is_held = h.dirty_is_held;
          dirty_is_owned = λ d. ⊎_elim (λ m. inl (still_marked (stays d) m))
              (λ x. ⊎_elim (λ w. inr (w, keeps_permission_lem (writers_open after.opens w) x.1))
              (λ l. inl (leaver_marked l ∙ stays d))
              (writes_or_leaves c.opens mode x.0 x.1)) (h.dirty_is_owned d);
          held_is_right = h.held_is_right;
        }

-- The table learns of the close as the client does.
table_closed :
    {n : ℕ} {version : Version} {client : ℕ → ClientFile}
    → Clients n version client
    → (e : Entry) (mode : Mode) (dirty : Bool) (i : ℕ)
    → n ≤ nobody
    → i < n
    → Agrees n e.records e.last client everybody
    → let e' = closed_entry e i mode dirty in
    Agrees n e'.records e'.last (at i (closed_client mode dirty (client i)) client) everybody
table_closed {client = client} clients e mode dirty i bound below h =
    let c = closed_client mode dirty (client i) in
    let is = h.known i refl in
    let heard : ends_writing mode (record_at e i) ≡ leaves mode dirty (client i) = ap (ends_writing mode) is in
    let alone : leaves mode dirty (client i) ≡ true → (s : ℕ) → eqb s i ≡ false → (client s).marked ≡ true → ⊥ =
    λ l s away m. (clients.apart s i (other_sym i s away)).marked_excludes m (inl (leaver_open mode dirty (client i) l)) in
    record {
      size = length-set e.records i _ ∙ h.size;
      known = known_at h i _ c below (ap (closed mode) is);
      last_writer = split (leaves mode dirty (client i))
          (λ l. split dirty
          (λ d. let now : (closed_entry e i mode dirty).last ≡ i = cc in
          rw now (last_one_at client i c below (leaver_marked mode dirty (client i) l ∙ d) (alone l)))
          (λ d. let now : (closed_entry e i mode dirty).last ≡ nobody = cc in
          rw now (last_none_at client i c bound (λ m. conflict m (leaver_marked mode dirty (client i) l ∙ d)) (alone l))))
          (λ stays. let now : (closed_entry e i mode dirty).last ≡ e.last = cc in
          rw now (last_same_at client i c h.last_writer (else_same mode dirty (client i) stays)));
    }

pub close_kept :
    (n : ℕ) (v : View) (k : History) (i : ℕ) (mode : Mode) (dirty : Bool)
    → n ≤ nobody
    → Running n v k
    → i < n
    → waits n v.entry ≡ false
    → (v.dirty i ≡ true → dirty ≡ true)
    → Running n (closed_view v i mode dirty) k
close_kept n v k i mode dirty bound h below quiet stays =
    let c = v.client i in
    let version = v.entry.version in
    let clients = h.sound.clients in
    record {
      sound = record {
        clients = clients_at clients version i (closed_client mode dirty c) below clients.version_not_zero
            (own-closed mode dirty c (clients.own i))
            (λ t _. clients.own t)
            (λ t e. closed-to mode dirty c (v.client t) (clients.apart i t e) (clients.apart t i (other_sym i t e)))
            (λ t e. closed-from mode dirty c (v.client t) (clients.apart t i (other_sym i t e)))
            clients.apart;
        copied = change (λ s b. Copied version (cond b (closed_client mode dirty c) (v.client s)) (v.copy s) (v.held s)
            (v.dirty s) (latest k)) i
            (copied-closed mode dirty c stays (h.sound.copied i)) (λ s _. h.sound.copied s);
      };
      booked = h.booked;
      table = table_closed clients v.entry mode dirty i bound below h.table;
      calls = h.calls;
      waiting = λ is. absurd (conflict is quiet);
    }

-- who is marked after a close was so before, or has closed with a dirty block
pub close_backs :
    (v : View) (i j : ℕ) (mode : Mode) (dirty : Bool)
    → ((closed_view v i mode dirty).client j).marked ≡ true
    → ((v.client j).marked ≡ true) ⊎ ((eqb j i ≡ true) × (dirty ≡ true))
close_backs v i j mode dirty =
    let c = v.client i in
    change
    (λ j b.
    (cond b (closed_client mode dirty c) (v.client j)).marked ≡ true
    → ((v.client j).marked ≡ true) ⊎ ((b ≡ true) × (dirty ≡ true)))
    i
    (λ m. split (leaves mode dirty c)
    (λ l. inr (refl, sym (leaver_marked mode dirty c l) ∙ m))
    (λ stays. inl (sym (else_same mode dirty c stays) ∙ m)))
    (λ j _ m. inl m)
    j

-- Reads, writes, and blocks that are sent: they change copies of the block and the server's block, and no client's record. It leads
-- to the promises reads, writes, sends, reads_own and writes_own. Assumes nothing.
use Prim.Native.Nat.{ℕ}
use mathlib.Core.Path.{◌≡◌, refl}
use mathlib.Core.Bool.{Bool, true, false, cond, not, ◌&&◌, false≢true}
use mathlib.Core.Logic.{inl, inr, ⊎_elim}
use lib.Dec.{eqb}
use borrow.Author.Tests.{eqb-true, not-true, not-false}
use Rattle.records.specs.declared.version.Version.{Version}
use Rattle.protocol.specs.declared.client.ClientFile.{ClientFile}
use Rattle.protocol.specs.Client.{read_needs_server, write_needs_server}
use Rattle.protocol.specs.Book.{History, latest, wrote, came}
use Rattle.protocol.specs.Table.{Row}
use Rattle.protocol.proofs.View.{View, at, value_in, read_view, written_view, sent_view}
use Rattle.protocol.proofs.Invariant.{may_cache, has_open, has_writers, is_latest, Copied, Sound, Booked, Running, Recovering}
use Rattle.protocol.proofs.Invariant.Flags.{conflict, split, cases, and_left, and_right, and_both, positive, other_sym, change}
use Rattle.protocol.proofs.Invariant.Change.{writers_open}
use Rattle.protocol.proofs.Invariant.Book.{latest_came, clean_is, booked_alike, booked_delayed, booked_sent, booked_came}

module _
    {n : ℕ}
    {version : Version}
    {client : ℕ → ClientFile}
    {copy : ℕ → ℕ}
    {held dirty : ℕ → Bool}
    {k : ℕ}
    (h : Sound n version client copy held dirty k)
  where
    -- a dirty block is of the latest version, and so the reference memory's number
    pub dirty-latest : (s : ℕ) → dirty s ≡ true → is_latest version (client s) ≡ true
    dirty-latest s d = (h.clients.own s).caching_has_latest (⊎_elim (λ m. inr m) (λ x. inl x.1) ((h.copied s).dirty_is_owned d))

    pub dirty_is : (s : ℕ) → dirty s ≡ true → copy s ≡ k
    dirty_is s d = (h.copied s).held_is_right ((h.copied s).dirty_is_held d) (dirty-latest s d)

    -- where i is open, no other client has the block dirty
    other-clean : (i s : ℕ) → has_open (client i) ≡ true → eqb s i ≡ false → dirty s ≡ true → ⊥
    other-clean i s o e d =
        let far = h.clients.apart s i (other_sym i s e) in
        ⊎_elim (λ m. far.marked_excludes m (inl o)) (λ x. far.caching_writer_alone x.1 x.0 o) ((h.copied s).dirty_is_owned d)

    -- so nobody has it, unless i has it dirty
    all-clean : (i : ℕ) → has_open (client i) ≡ true → (dirty i ≡ true → ⊥) → (s : ℕ) → dirty s ≡ true → ⊥
    all-clean i o clean = change (λ s _. dirty s ≡ true → ⊥) i clean (λ s. other-clean i s o)

    -- and i has not, where it has writers and may not cache
    unwritten-clean : (i : ℕ) → has_writers (client i) ≡ true → may_cache (client i) ≡ false → dirty i ≡ true → ⊥
    unwritten-clean i w p d =
        ⊎_elim (λ m. (h.clients.own i).marked_excludes m w) (λ x. conflict x.1 p) ((h.copied i).dirty_is_owned d)

    -- an open client that does not read its own copy has no dirty block
    unread-clean : (i : ℕ) → has_open (client i) ≡ true → (may_cache (client i) && held i) ≡ false → dirty i ≡ true → ⊥
    unread-clean i o e d =
        let caches = ⊎_elim (λ m. (h.clients.own i).marked_open_caches m o) (λ x. x.1) ((h.copied i).dirty_is_owned d) in
        conflict (and_both caches ((h.copied i).dirty_is_held d)) e

    read_is :
        {block : ℕ}
        → (((s : ℕ) → dirty s ≡ true → ⊥) → block ≡ k)
        → (i : ℕ)
        → has_open (client i) ≡ true
        → cond (may_cache (client i) && held i) (copy i) block ≡ k
    read_is {block} right i o =
        cases (λ b. cond b (copy i) block ≡ k) (may_cache (client i) && held i)
        (λ e. (h.copied i).held_is_right (and_right (may_cache (client i)) _ e)
        ((h.clients.own i).caching_has_latest (inl (and_left _ (held i) e))))
        (λ e. right (all-clean i o (unread-clean i o e)))

    sound-read :
        {block : ℕ}
        → (((s : ℕ) → dirty s ≡ true → ⊥) → block ≡ k)
        → (i : ℕ)
        → has_open (client i) ≡ true
        → let fetch = may_cache (client i) && not (held i) in
        Sound n version client (at i (cond fetch block (copy i)) copy) (at i (cond fetch true (held i)) held)
        dirty k
    sound-read {block} right i o =
        let fetch = may_cache (client i) && not (held i) in
        let unheld : fetch ≡ true → held i ≡ false = λ e. not-true (held i) (and_right (may_cache (client i)) _ e) in
        let fetched : Copied version (client i) (cond fetch block (copy i)) (cond fetch true (held i)) (dirty i) k
        = cases (λ b. Copied version (client i) (cond b block (copy i)) (cond b true (held i)) (dirty i) k) fetch
        (λ e. record {
          dirty_is_held = λ _. refl;
          dirty_is_owned = (h.copied i).dirty_is_owned;
          held_is_right = λ _ _. right (all-clean i o (λ d. conflict ((h.copied i).dirty_is_held d) (unheld e)));
        })
        (λ _. h.copied i) in
        record {
          clients = h.clients;
          copied = change (λ s b. Copied version (client s) (cond b (cond fetch block (copy i)) (copy s))
              (cond b (cond fetch true (held i)) (held s)) (dirty s) k) i fetched (λ s _. h.copied s);
        }

    -- a write at i: another client has no copy of the latest version, and i has one only if it may cache
    sound-written :
        (i x : ℕ)
        → has_writers (client i) ≡ true
        → let own = may_cache (client i) in
        Sound n version client (at i (cond own x (copy i)) copy) (at i (cond own true (held i)) held)
        (at i (cond own true (dirty i)) dirty) x
    sound-written i x w =
        let own = may_cache (client i) in
        let written = cases
        (λ b. Copied version (client i) (cond b x (copy i)) (cond b true (held i)) (cond b true (dirty i)) x) own
        (λ p. record { dirty_is_held = λ _. refl; dirty_is_owned = λ _. inr (w, p); held_is_right = λ _ _. refl })
        (λ p. record {
          dirty_is_held = (h.copied i).dirty_is_held;
          dirty_is_owned = (h.copied i).dirty_is_owned;
          held_is_right = λ _ f. absurd (conflict ((h.clients.own i).writer_owns_latest w f) p);
        }) in
        record {
          clients = h.clients;
          copied = change (λ s b. Copied version (client s) (cond b (cond own x (copy i)) (copy s))
              (cond b (cond own true (held i)) (held s)) (cond b (cond own true (dirty i)) (dirty s)) x) i written
              (λ s e. record {
                dirty_is_held = (h.copied s).dirty_is_held;
                dirty_is_owned = (h.copied s).dirty_is_owned;
                held_is_right = λ _ f. absurd ((h.clients.apart i s e).writer_owns_latest w f);
              });
        }

    booked-written :
        {block : ℕ} {l : History} (i x : ℕ)
        → has_writers (client i) ≡ true
        → Booked block dirty l
        → let own = may_cache (client i) in
        Booked (cond own block x) (at i (cond own true (dirty i)) dirty) (wrote i x own l)
    booked-written {block} {l} i x w b =
        let o = writers_open (client i).opens w in
        cases (λ own. Booked (cond own block x) (at i (cond own true (dirty i)) dirty) (wrote i x own l)) (may_cache (client i))
        (λ _. booked_delayed b i x
        (λ s d. split (eqb s i) (eqb-true s i) (λ away. absurd (other-clean i s o away d))))
        (λ p. booked_alike (booked_sent b i x (all-clean i o (unwritten-clean i w p)))
        (change (λ s b. cond b (dirty i) (dirty s) ≡ dirty s) i refl (λ _ _. refl)))

    sound-sent : (i : ℕ) → Sound n version client copy held (at i false dirty) k
    sound-sent i =
        record {
          clients = h.clients;
          copied = change (λ s b. Copied version (client s) (copy s) (held s) (cond b false (dirty s)) k) i
              (record { dirty_is_held = λ e. absurd (false≢true e); dirty_is_owned = λ e. absurd (false≢true e); held_is_right = (h.copied i).held_is_right })
              (λ s _. h.copied s);
        }

pub read_kept :
    (n : ℕ) (v : View) (k : History) (i : ℕ)
    → Running n v k
    → has_open (v.client i) ≡ true
    → (value_in v i ≡ latest k) × Running n (read_view v i) k
read_kept n v k i h o = (
  read_is h.sound (clean_is h.booked) i o,
  record { sound = sound-read h.sound (clean_is h.booked) i o; booked = h.booked; table = h.table; calls = h.calls; waiting = h.waiting },
)

pub write_kept :
    (n : ℕ) (v : View) (k : History) (i x : ℕ)
    → Running n v k
    → eqb (v.client i).opens.writers 0 ≡ false
    → Running n (written_view v i x) (wrote i x (may_cache (v.client i)) k)
write_kept n v k i x h w =
    let writing = positive (v.client i).opens.writers w in
    record {
      sound = sound-written h.sound i x writing;
      booked = booked-written h.sound i x writing h.booked;
      table = h.table;
      calls = h.calls;
      waiting = h.waiting;
    }

pub send_kept : (n : ℕ) (v : View) (k : History) (i : ℕ) → Running n v k → v.dirty i ≡ true → Running n (sent_view v i) (came i k)
send_kept n v k i h d =
    record {
      sound = rw (latest_came i k) (sound-sent h.sound i);
      booked = booked_came h.booked i (dirty_is h.sound i) (λ clean. conflict d clean);
      table = h.table;
      calls = h.calls;
      waiting = h.waiting;
    }

-- In a recovery, where the step needs no server.
pub own_read_is :
    (n : ℕ) (v : View) (k : History) (i : ℕ) (reported : ℕ → Bool) (row : Row)
    → Recovering n v k reported row
    → read_needs_server (v.client i) (v.held i) ≡ false
    → value_in v i ≡ latest k
own_read_is n v k i reported row h own =
    let c = v.client i in
    let all = not-false (has_open c && may_cache c && v.held i) own in
    read_is h.sound (clean_is h.booked) i (and_left (has_open c) (may_cache c) (and_left _ (v.held i) all))

pub own_write_kept :
    (n : ℕ) (v : View) (k : History) (i x : ℕ) (reported : ℕ → Bool) (row : Row)
    → Recovering n v k reported row
    → write_needs_server (v.client i) ≡ false
    → Recovering n (written_view v i x) (wrote i x (may_cache (v.client i)) k) reported row
own_write_kept n v k i x reported row h own =
    let c = v.client i in
    let writing = and_left (has_writers c) (may_cache c) (not-false (has_writers c && may_cache c) own) in
    record {
      sound = sound-written h.sound i x writing;
      booked = booked-written h.sound i x writing h.booked;
      table = h.table;
      calls = h.calls;
      none_waits = h.none_waits;
      before = h.before;
      version = h.version;
    }

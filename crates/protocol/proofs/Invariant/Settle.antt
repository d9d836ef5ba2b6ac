-- A flush of some block: a client that has no dirty block of the file left is marked no more, and is not the last writer.
-- It leads to the promises settles and settles_back. Assumes nothing.
use Prim.Native.Nat.{ℕ, ◌<◌, ◌≤◌}
use mathlib.Core.Path.{◌≡◌, refl, sym, ◌∙◌, ap}
use mathlib.Core.Bool.{Bool, true, false, cond, not, ◌&&◌, false≢true}
use mathlib.Core.Logic.{inl, inr, ⊎_elim}
use lib.Dec.{eqb, ltb}
use borrow.Author.Tests.{eqb-true, eqb-false}
use Rattle.records.specs.declared.record.Mode.{Mode}
use Rattle.records.specs.declared.record.ClientRecord.{ClientRecord}
use Rattle.records.specs.declared.version.Version.{Version}
use Rattle.protocol.specs.declared.client.ClientFile.{ClientFile}
use Rattle.sizes.specs.Sizes.{nobody}
use Rattle.protocol.specs.Book.{History, latest}
use Rattle.protocol.specs.Client.{flushed_client}
use Rattle.protocol.proofs.View.{View, at, settled_view}
use Rattle.protocol.proofs.Invariant.{Own, Apart, Copied, LastWriter, Waiting, everybody, Running}
use Rattle.protocol.proofs.Invariant.Flags.{is_false, split, and_left, and_right, and_both, other_sym, change}
use Rattle.protocol.proofs.Invariant.Change.{clients_at}
use Rattle.protocol.proofs.Invariant.Last.{last_none_at, last_same_at}

-- The client, and the same after the flush.
module _ (left : Bool) (c : ClientFile) where
  abbrev after : ClientFile
  after = flushed_client left c

  was_marked : after.marked ≡ true → c.marked ≡ true
  was_marked m = and_right left _ m

  module _ {version : Version} where
    own-settled : Own version c → Own version after
    own-settled h =
        record {
          caching_is_open = h.caching_is_open;
          marked_excludes = λ m. h.marked_excludes (was_marked m);
          marked_open_caches = λ m. h.marked_open_caches (was_marked m);
          label_not_ahead = h.label_not_ahead;
          caching_has_latest = λ x. h.caching_has_latest (⊎_elim (λ p. inl p) (λ m. inr (was_marked m)) x);
          writer_owns_latest = h.writer_owns_latest;
        }

    settled-to : (d : ClientFile) → Apart version c d → Apart version after d
    settled-to d h =
        record {
          caching_writer_alone = h.caching_writer_alone;
          marked_excludes = λ m. h.marked_excludes (was_marked m);
          writer_bars_caching = h.writer_bars_caching;
          writer_owns_latest = h.writer_owns_latest;
          marked_owns_latest = λ m. h.marked_owns_latest (was_marked m);
        }

    settled-from : (d : ClientFile) → Apart version d c → Apart version d after
    settled-from d h =
        record {
          caching_writer_alone = h.caching_writer_alone;
          marked_excludes = λ m x. h.marked_excludes m (⊎_elim (λ o. inl o) (λ y. inr (was_marked y)) x);
          writer_bars_caching = h.writer_bars_caching;
          writer_owns_latest = h.writer_owns_latest;
          marked_owns_latest = h.marked_owns_latest;
        }

    copied-settled :
        {copy : ℕ} {held dirty : Bool} {k : ℕ}
        → (dirty ≡ true → left ≡ true)
        → Copied version c copy held dirty k
        → Copied version after copy held dirty k
    copied-settled stays h =
        record {
          dirty_is_held = h.dirty_is_held;
          dirty_is_owned = λ d. ⊎_elim (λ m. inl (and_both (stays d) m)) (λ x. inr x) (h.dirty_is_owned d);
          held_is_right = h.held_is_right;
        }

-- Client i among the others.
module _ (client : ℕ → ClientFile) (i : ℕ) (left : Bool) where
  abbrev now : ℕ → ClientFile
  now = at i (flushed_client left (client i)) client

  same_opens : (s : ℕ) → (now s).opens ≡ (client s).opens
  same_opens = change (λ s b. (cond b (flushed_client left (client i)) (client s)).opens ≡ (client s).opens) i refl (λ _ _. refl)

  fewer_marked : (s : ℕ) → (now s).marked ≡ true → (client s).marked ≡ true
  fewer_marked =
      change (λ s b. (cond b (flushed_client left (client i)) (client s)).marked ≡ true → (client s).marked ≡ true) i
      (was_marked left (client i)) (λ _ _ m. m)

  last_settled :
      {n last : ℕ}
      → n ≤ nobody
      → LastWriter n last client everybody
      → LastWriter n (cond (not left && eqb last i) nobody last) now everybody
  last_settled {n} {last} bound h =
      let c = flushed_client left (client i) in
      split left
      (λ l. let is : cond (not left && eqb last i) nobody last ≡ last = cc in
      rw is (last_same_at client i c h cc))
      (λ l.
      let unmarked : c.marked ≡ false = cc in
      split (eqb last i)
      (λ e. let is : cond (not left && eqb last i) nobody last ≡ nobody = cc in
      rw is (last_none_at client i c bound (λ m. false≢true (sym unmarked ∙ m))
      (λ s away m. eqb-false s i away (sym (h.named s refl m) ∙ eqb-true last i e))))
      (λ e. let is : cond (not left && eqb last i) nobody last ≡ last = cc in
      rw is (last_same_at client i c h
      (unmarked ∙ sym (is_false (client i).marked (λ m. eqb-false last i e (h.named i refl m)))))))

  waiting_settled :
      {version : Version} {opener : ℕ} {mode : Mode} {calls : ℕ → ℕ}
      → Waiting version client opener mode calls
      → Waiting version now opener mode calls
  waiting_settled {mode = mode} {calls = calls} h =
      record {
        uncalled = h.uncalled;
        marked = λ t e m. h.marked t e (fewer_marked t m);
        writing = λ t e p w.
            h.writing t e (ap (λ (r : ClientRecord). r.caching) (sym (same_opens t)) ∙ p)
            (ap (λ (r : ClientRecord). ltb 0 r.writers) (sym (same_opens t)) ∙ w);
        caching = λ t e w p. h.caching t e w (ap (λ (r : ClientRecord). r.caching) (sym (same_opens t)) ∙ p);
        alone = λ s t w e m. h.alone s t w e (fewer_marked s m);
        version_left = h.version_left;
      }

pub settle_kept :
    (n : ℕ) (v : View) (k : History) (i : ℕ) (left : Bool)
    → n ≤ nobody
    → Running n v k
    → i < n
    → (v.dirty i ≡ true → left ≡ true)
    → Running n (settled_view v i left) k
settle_kept n v k i left bound h below stays =
    let c = v.client i in
    let version = v.entry.version in
    let clients = h.sound.clients in
    record {
      sound = record {
        clients = clients_at clients version i (flushed_client left c) below clients.version_not_zero
            (own-settled left c (clients.own i))
            (λ t _. clients.own t)
            (λ t e. settled-to left c (v.client t) (clients.apart i t e))
            (λ t e. settled-from left c (v.client t) (clients.apart t i (other_sym i t e)))
            clients.apart;
        copied = change (λ s b. Copied version (cond b (flushed_client left c) (v.client s)) (v.copy s) (v.held s)
            (v.dirty s) (latest k)) i
            (copied-settled left c stays (h.sound.copied i)) (λ s _. h.sound.copied s);
      };
      booked = h.booked;
      table = record {
        size = h.table.size;
        known = λ s t. h.table.known s t ∙ sym (same_opens v.client i left s);
        last_writer = last_settled v.client i left bound h.table.last_writer;
      };
      calls = h.calls;
      waiting = λ is. waiting_settled v.client i left (h.waiting is);
    }

-- who is marked after a flush was so before, and if it is the client that has flushed, a block is left
pub settle_backs :
    (v : View) (i j : ℕ) (left : Bool)
    → ((settled_view v i left).client j).marked ≡ true
    → ((v.client j).marked ≡ true) × (eqb j i ≡ true → left ≡ true)
settle_backs v i j left =
    change
    (λ j b.
    (cond b (flushed_client left (v.client i)) (v.client j)).marked ≡ true
    → ((v.client j).marked ≡ true) × (b ≡ true → left ≡ true))
    i
    (λ m. (was_marked left (v.client i) m, λ _. and_left left (v.client i).marked m))
    (λ j _ m. (m, λ e. absurd (false≢true e)))
    j

-- What a grant does to each clause of the invariant, where no callback is out (WS with no calls). It leads to the one
-- grant lemma, `Granting`. Assumes nothing.
use Prim.Native.Nat.{ℕ, ◌+◌, ◌<◌, ◌≤◌}
use mathlib.Core.Path.{◌≡◌, refl, sym, ◌∙◌, ap}
use mathlib.Core.Bool.{Bool, true, false, cond, ◌||◌, false≢true}
use mathlib.Core.Logic.{◌⊎◌, inl, inr, ⊎_elim}
use native.Mathlib.Nat.{le_trans}
use native.Mathlib.Omega.{arith}
use lib.Dec.{eqb, ltb}
use lib.ListN.{length-set}
use borrow.Author.Tests.{eqb-true, eq-eqb, lt-ltb}
use Rattle.records.specs.declared.record.Mode.{Mode}
use Rattle.records.specs.declared.record.Mode.TheVariants.{Read, Write}
use Rattle.records.specs.declared.version.Version.{Version}
use Rattle.protocol.specs.declared.client.ClientFile.{ClientFile}
use Rattle.protocol.specs.declared.entry.Entry.{Entry}
use Rattle.protocol.specs.declared.reply.Grant.{Grant}
use Rattle.sizes.specs.Sizes.{nobody}
use Rattle.records.specs.Version.{no_version, number_of}
use Rattle.records.specs.Record.{is_write, raised, opened}
use Rattle.decision.specs.Callback.{writes_back, invalidates}
use Rattle.protocol.specs.Entry.{granted_entry}
use Rattle.protocol.specs.Client.{granted_client, keeps_blocks}
use Rattle.sizes.proofs.Choosing.{when}
use Rattle.protocol.proofs.View.{at}
use Rattle.protocol.proofs.Invariant.{may_cache, has_open, has_writers, is_latest, Own, Apart, Copied, Clients}
use Rattle.protocol.proofs.Invariant.{Sound, Agrees, Waiting, everybody}
use Rattle.protocol.proofs.Invariant.Flags.{conflict, is_false, split, cases, and_left, and_right, and_both}
use Rattle.protocol.proofs.Invariant.Flags.{or_left, or_right, or_cases, other_sym, change}
use Rattle.protocol.proofs.Invariant.Change.{clients_at, known_at}
use Rattle.protocol.proofs.Invariant.Last.{last_none_at, last_same_at}
use Rattle.protocol.proofs.Invariant.Block.{dirty-latest}
use Rattle.protocol.proofs.Invariant.Permission.{Permitted}
use Rattle.protocol.proofs.Invariant.Latest.{Latest}

-- What WS says of another client once no callback is out.
pub record Ready (client : ℕ → ClientFile) (opener : ℕ) (mode : Mode) : Type 0 where
  pub marked : (t : ℕ) → eqb t opener ≡ false → (client t).marked ≡ true → ⊥
  pub writing : (t : ℕ) → eqb t opener ≡ false → may_cache (client t) ≡ true → has_writers (client t) ≡ true → ⊥
  pub caching : (t : ℕ) → eqb t opener ≡ false → is_write mode ≡ true → may_cache (client t) ≡ true → ⊥

pub ready :
    {version : Version} {client : ℕ → ClientFile} {opener : ℕ} {mode : Mode} {calls : ℕ → ℕ}
    → Waiting version client opener mode calls
    → ((t : ℕ) → calls t ≡ 0)
    → Ready client opener mode
ready h out =
    record {
      marked = λ t e m. false≢true (ap writes_back (sym (out t)) ∙ h.marked t e m);
      writing = λ t e p w. let three = sym (h.writing t e p w) ∙ out t in omega arith;
      caching = λ t e w p. false≢true (ap invalidates (sym (out t)) ∙ h.caching t e w p);
    }

some_raised : (x : ℕ) → ltb 0 (raised x) ≡ true
some_raised x =
    cases (λ b. ltb 0 (cond b x (x + 1)) ≡ true) (eqb x 255)
    (λ e. let full = eqb-true x 255 e in lt-ltb 0 x (omega arith))
    (λ e. lt-ltb 0 (x + 1) (omega arith))

-- The opener, and the same after the grant.
module _ (g : Grant) (c : ClientFile) where
  is_opened : (mode : Mode) → has_open (granted_client mode g c) ≡ true
  is_opened Read = or_left _ (some_raised c.opens.readers)
  is_opened Write = or_right (ltb 0 c.opens.readers) (some_raised c.opens.writers)

  writers_are : (mode : Mode) → has_writers (granted_client mode g c) ≡ (is_write mode || has_writers c)
  writers_are Read = refl
  writers_are Write = some_raised c.opens.writers

  permission_is : (mode : Mode) → may_cache (granted_client mode g c) ≡ g.caching
  permission_is Read = refl
  permission_is Write = refl

  unmarked_by_write : (mode : Mode) → is_write mode ≡ true → (granted_client mode g c).marked ≡ false
  unmarked_by_write mode w = cc

  marked_as_before : (mode : Mode) → is_write mode ≡ false → (granted_client mode g c).marked ≡ c.marked
  marked_as_before mode r = cc

  -- its copy is of the latest version just where it may cache
  current_is :
      (mode : Mode)
      → eqb (number_of g.latest) 0 ≡ false
      → is_latest g.latest (granted_client mode g c) ≡ g.caching
  current_is mode version_not_zero =
      let same = eq-eqb (number_of g.latest) (number_of g.latest) refl in
      let unlike = other_sym 0 (number_of g.latest) version_not_zero in
      split g.caching (λ p. cc) (λ p. cc)

module _
    {n : ℕ}
    {version : Version}
    {client : ℕ → ClientFile}
    (h : Clients n version client)
    (i : ℕ)
    (mode : Mode)
    (g : Grant)
    (next : Latest version mode g.latest)
    (may : Permitted client i mode g.caching)
    (free : Ready client i mode)
  where
    abbrev granted : ClientFile
    granted = granted_client mode g (client i)

    permission : may_cache granted ≡ true → g.caching ≡ true
    permission p = sym (permission_is g (client i) mode) ∙ p

    current : is_latest g.latest granted ≡ g.caching
    current = current_is g (client i) mode next.version_not_zero

    opened-to-read : granted.marked ≡ true → is_write mode ≡ false
    opened-to-read m = is_false (is_write mode) (λ w. conflict m (unmarked_by_write g (client i) mode w))

    pub was_marked : granted.marked ≡ true → (client i).marked ≡ true
    was_marked m = sym (marked_as_before g (client i) mode (opened-to-read m)) ∙ m

    was-writing : has_writers granted ≡ true → (is_write mode ≡ true) ⊎ (has_writers (client i) ≡ true)
    was-writing w = or_cases (is_write mode) _ (sym (writers_are g (client i) mode) ∙ w)

    own_granted : Own g.latest granted
    own_granted =
        record {
          caching_is_open = λ _. is_opened g (client i) mode;
          marked_excludes = λ m w. ⊎_elim (λ x. conflict x (opened-to-read m)) ((h.own i).marked_excludes (was_marked m)) (was-writing w);
          marked_open_caches = λ m _. permission_is g (client i) mode ∙ may.marked (was_marked m);
          label_not_ahead = cases (λ b. number_of (cond b g.latest no_version) ≤ number_of g.latest) g.caching
              (λ _. omega arith) (λ _. omega arith);
          caching_has_latest = λ x. current ∙ ⊎_elim permission (λ m. may.marked (was_marked m)) x;
          writer_owns_latest = λ _ f. permission_is g (client i) mode ∙ (sym current ∙ f);
        }

    own-others : (t : ℕ) → eqb t i ≡ false → Own g.latest (client t)
    own-others t e =
        let own = h.own t in
        record {
          caching_is_open = own.caching_is_open;
          marked_excludes = own.marked_excludes;
          marked_open_caches = own.marked_open_caches;
          label_not_ahead = le_trans own.label_not_ahead next.rises;
          caching_has_latest = ⊎_elim
              (λ p. split (is_write mode) (λ w. absurd (free.caching t e w p))
              (λ r. next.is (client t).label r (own.caching_has_latest (inl p))))
              (λ m. absurd (free.marked t e m));
          writer_owns_latest = λ w f. own.writer_owns_latest w (next.was (client t).label own.label_not_ahead f);
        }

    granted-to : (t : ℕ) → eqb t i ≡ false → Apart g.latest granted (client t)
    granted-to t e =
        let far = h.apart i t e in
        let was = next.was (client t).label (h.own t).label_not_ahead in
        record {
          caching_writer_alone = λ p w. may.alone (permission p) (sym (writers_are g (client i) mode) ∙ w) t e;
          marked_excludes = λ m. far.marked_excludes (was_marked m);
          writer_bars_caching = λ w p. ⊎_elim (λ x. free.caching t e x p) (λ y. far.writer_bars_caching y p) (was-writing w);
          writer_owns_latest = λ w f. ⊎_elim (next.unwritten (client t).label (h.own t).label_not_ahead f) (λ y. far.writer_owns_latest y (was f))
              (was-writing w);
          marked_owns_latest = λ m f. far.marked_owns_latest (was_marked m) (was f);
        }

    granted-from : (t : ℕ) → eqb t i ≡ false → Apart g.latest (client t) granted
    granted-from t e =
        record {
          caching_writer_alone = λ p w. absurd (free.writing t e p w);
          marked_excludes = λ m. absurd (free.marked t e m);
          writer_bars_caching = λ w p. may.unwritten (permission p) t e w;
          writer_owns_latest = λ w f. may.unwritten (sym current ∙ f) t e w;
          marked_owns_latest = λ m. absurd (free.marked t e m);
        }

    apart-others : (s t : ℕ) → eqb t s ≡ false → Apart g.latest (client s) (client t)
    apart-others s t e =
        let far = h.apart s t e in
        let was = next.was (client t).label (h.own t).label_not_ahead in
        record {
          caching_writer_alone = far.caching_writer_alone;
          marked_excludes = far.marked_excludes;
          writer_bars_caching = far.writer_bars_caching;
          writer_owns_latest = λ w f. far.writer_owns_latest w (was f);
          marked_owns_latest = λ m f. far.marked_owns_latest m (was f);
        }

    -- the copy check: what is kept was of the latest version
    copied-granted :
        {copy : ℕ} {held dirty : Bool} {k : ℕ}
        → Copied version (client i) copy held dirty k
        → let keep = keeps_blocks mode g (client i) in
        Copied g.latest granted (cond keep copy 0) (cond keep held false) (cond keep dirty false) k
    copied-granted {copy} {held} {dirty} {k} was =
        cases (λ b. Copied g.latest granted (cond b copy 0) (cond b held false) (cond b dirty false) k)
        (keeps_blocks mode g (client i))
        (λ keep.
        let p = permission_is g (client i) mode ∙ and_left g.caching _ keep in
        record {
          dirty_is_held = was.dirty_is_held;
          dirty_is_owned = λ d. ⊎_elim
              (λ m. split (is_write mode) (λ w. inr (writers_are g (client i) mode ∙ or_left _ w, p))
              (λ r. inl (marked_as_before g (client i) mode r ∙ m)))
              (λ x. inr (writers_are g (client i) mode ∙ or_right (is_write mode) x.0, p)) (was.dirty_is_owned d);
          held_is_right = λ y _. was.held_is_right y (next.kept (client i).label (h.own i).label_not_ahead (and_right g.caching _ keep));
        })
        (λ _. record {
          dirty_is_held = λ d. absurd (false≢true d);
          dirty_is_owned = λ d. absurd (false≢true d);
          held_is_right = λ y. absurd (false≢true y);
        })

    copied-others :
        (t : ℕ) {copy : ℕ} {held dirty : Bool} {k : ℕ}
        → Copied version (client t) copy held dirty k
        → Copied g.latest (client t) copy held dirty k
    copied-others t was =
        record { dirty_is_held = was.dirty_is_held; dirty_is_owned = was.dirty_is_owned; held_is_right = λ y f. was.held_is_right y (next.was (client t).label (h.own t).label_not_ahead f) }

    -- and a dirty block is kept: its client has permission, and its copy is of the latest version
    pub dirty-kept :
        {copy : ℕ → ℕ} {held dirty : ℕ → Bool} {k : ℕ}
        → Sound n version client copy held dirty k
        → dirty i ≡ true
        → keeps_blocks mode g (client i) ≡ true
    dirty-kept s d =
        and_both (⊎_elim may.marked (λ x. may.writing x.1 x.0) ((s.copied i).dirty_is_owned d))
        (next.keeps (client i).label (dirty-latest s i d))

    pub sound-granted :
        {copy : ℕ → ℕ} {held dirty : ℕ → Bool} {k : ℕ}
        → Sound n version client copy held dirty k
        → i < n
        → let keep = keeps_blocks mode g (client i) in
        Sound n g.latest (at i granted client) (at i (cond keep (copy i) 0) copy)
        (at i (cond keep (held i) false) held)
        (at i (cond keep (dirty i) false) dirty) k
    sound-granted {copy} {held} {dirty} {k} s below =
        let keep = keeps_blocks mode g (client i) in
        record {
          clients = clients_at h g.latest i granted below next.version_not_zero own_granted own-others granted-to granted-from
              apart-others;
          copied = change (λ j b. Copied g.latest (cond b granted (client j))
              (cond b (cond keep (copy i) 0) (copy j))
              (cond b (cond keep (held i) false) (held j)) (cond b (cond keep (dirty i) false) (dirty j)) k) i
              (copied-granted (s.copied i)) (λ j _. copied-others j (s.copied j));
        }

    -- so the same clients have the block dirty
    pub dirty-alike :
        {copy : ℕ → ℕ} {held dirty : ℕ → Bool} {k : ℕ}
        → Sound n version client copy held dirty k
        → (s : ℕ)
        → at i (cond (keeps_blocks mode g (client i)) (dirty i) false) dirty s ≡ dirty s
    dirty-alike {dirty = dirty} s =
        change (λ j b. cond b (cond (keeps_blocks mode g (client i)) (dirty i) false) (dirty j) ≡ dirty j) i
        (split (dirty i) (λ d. when (dirty i) false (dirty-kept s d))
        (λ d. cases (λ b. cond b (dirty i) false ≡ dirty i) (keeps_blocks mode g (client i)) (λ _. refl) (λ _. sym d)))
        (λ _ _. refl)

    pub table-granted :
        (e : Entry)
        → i < n
        → n ≤ nobody
        → Agrees n e.records e.last client everybody
        → let e' = granted_entry n e i mode g in
        Agrees n e'.records e'.last (at i granted client) everybody
    table-granted e below bound a =
        record {
          size = length-set e.records i _ ∙ a.size;
          known = known_at a i _ granted below (ap (opened mode g.caching) (a.known i refl));
          last_writer = split (is_write mode)
              (λ w. let now : (granted_entry n e i mode g).last ≡ nobody = cc in
              rw now (last_none_at client i granted bound (λ m. conflict m (unmarked_by_write g (client i) mode w))
              free.marked))
              (λ r. let now : (granted_entry n e i mode g).last ≡ e.last = cc in
              rw now (last_same_at client i granted a.last_writer (marked_as_before g (client i) mode r)));
        }

-- An entry that has nothing of client i has nothing of it after whatever another client does, and where the server has
-- forgotten it. Assumes nothing.
use Prim.Native.Nat.{ℕ, ◌≤◌, ◌<◌}
use mathlib.Core.Path.{◌≡◌, refl, sym, ap, ◌∙◌, subst⁻¹}
use mathlib.Core.Bool.{Bool, true, false, cond, not, ◌&&◌, ◌||◌}
use mathlib.Core.List.{List}
use native.Mathlib.Omega.{arith}
use lib.Dec.{eqb, ltb}
use lib.ListN.{length, get_or, set, length-set, get_or-eq_default}
use lib.Seq.{get_or-set_same, get_or-set_other}
use borrow.Author.Tests.{eqb-false, ne_eqb, le-ltb, ltb-true, ltb-false}
use Rattle.records.specs.declared.record.Mode.{Mode}
use Rattle.records.specs.declared.record.Mode.TheVariants.{Read as ForRead, Write as ForWrite}
use Rattle.records.specs.declared.record.ClientRecord.{ClientRecord}
use Rattle.records.specs.Record.{not_open, is_write, ends_writing, keeps_permission, opened, closed, uncached}
use Rattle.sizes.specs.Sizes.{nobody}
use Rattle.decision.specs.declared.state.FileState.{FileState}
use Rattle.decision.specs.declared.state.FileState.TheVariants.{Closed, ClosedDirty, OneReader, OneReaderDirty}
use Rattle.decision.specs.declared.state.FileState.TheVariants.{MultReaders, OneWriter, WriteShared}
use Rattle.decision.specs.Callback.{writes_back, invalidates, callback_kind, callback_due}
use Rattle.decision.specs.Lists.{stored, filled}
use Rattle.decision.specs.State.{state_of}
use Rattle.decision.proofs.Storing.{length_stored, get_d_stored}
use Rattle.protocol.specs.declared.client.ClientFile.{ClientFile}
use Rattle.protocol.specs.declared.entry.Entry.{Entry}
use Rattle.protocol.specs.declared.reply.Grant.{Grant}
use Rattle.protocol.specs.Entry.{record_at, waits, kind_of, call_to, waiting_entry, granted_entry, closed_entry}
use Rattle.protocol.specs.Entry.{flushed_entry, answered_entry, forgotten_entry, crashed_entry, reported_entry}
use Rattle.service.specs.Aside.{Unknown}
use Rattle.service.proofs.Tests.{split, when, unless}

-- what is stored for every one of n is what is found, or nothing if there is no room for it
stored_or {ℓ} :
    {A : Type ℓ} (n : ℕ) (v : ℕ → A) (l : List A) (d : A) (i : ℕ)
    → i < n
    → v i ≡ d
    → get_or (stored n (λ j. j) v l) i d ≡ d
stored_or n v l d i below is =
    split (ltb i (length l))
    (λ e. get_d_stored n (λ j. j) v l d i below (ltb-true i (length l) e) (λ j above _. omega arith) ∙ is)
    (λ e.
    get_or-eq_default (stored n (λ j. j) v l) d
    (subst⁻¹ (λ k. k ≤ i) (length_stored n (λ j. j) v l) (ltb-false i (length l) e)))

-- the default, stored where it may or may not have room
pub set_or {ℓ} : {A : Type ℓ} (l : List A) (i : ℕ) (d : A) → get_or (set l i d) i d ≡ d
set_or l i d =
    split (ltb i (length l))
    (λ e. get_or-set_same l i d d (ltb-true i (length l) e))
    (λ e. get_or-eq_default (set l i d) d (subst⁻¹ (λ k. k ≤ i) (length-set l i d) (ltb-false i (length l) e)))

-- who is neither open nor last writer is not called
uncalled_kind : (state : FileState) (mode : Mode) → callback_kind state mode not_open false ≡ 0
uncalled_kind Closed mode = refl
uncalled_kind ClosedDirty ForRead = refl
uncalled_kind ClosedDirty ForWrite = refl
uncalled_kind OneReader ForRead = refl
uncalled_kind OneReader ForWrite = refl
uncalled_kind OneReaderDirty ForRead = refl
uncalled_kind OneReaderDirty ForWrite = refl
uncalled_kind MultReaders ForRead = refl
uncalled_kind MultReaders ForWrite = refl
uncalled_kind OneWriter mode = refl
uncalled_kind WriteShared mode = refl

-- either way, not i
neither : (t : Bool) (a b i : ℕ) → eqb a i ≡ false → eqb b i ≡ false → eqb (cond t a b) i ≡ false
neither true a b i p q = p
neither false a b i p q = q

module _ (n i : ℕ) (bound : n ≤ nobody) (hi : i < n) where
  pub nobody_else : eqb nobody i ≡ false
  nobody_else = ne_eqb nobody i (λ e. omega arith)

  -- where nobody waits nobody is called
  quiet : (e : Entry) → e.waiter ≡ nobody → call_to n e i ≡ 0
  quiet e none = unless _ 0 (ap (λ w. ltb w n) none ∙ le-ltb nobody n bound)

  module _ (e : Entry) (h : Unknown n e i) where
    pub unknown-crashed : Unknown n (crashed_entry n e) i
    unknown-crashed =
        record {
          no_record = stored_or n (λ j. not_open) e.records not_open i hi refl;
          not_last = nobody_else;
          not_waiting = nobody_else;
          not_called = quiet (crashed_entry n e) refl;
        }

    -- what another client does
    module _ (j : ℕ) (other : eqb j i ≡ false) where
      apart : i ≡ j → ⊥
      apart is = eqb-false j i other (sym is)

      record-stays : (r : ClientRecord) → get_or (set e.records j r) i not_open ≡ not_open
      record-stays r = get_or-set_other e.records j i r not_open apart ∙ h.no_record

      uncalled : (mode : Mode) → callback_due n (record_at e) e.last j mode i ≡ 0
      uncalled mode =
          let state = state_of n (record_at e) e.last in
          let last : eqb i e.last ≡ false = ne_eqb i e.last (λ is. eqb-false e.last i h.not_last (sym is)) in
          (λ k.
          cond (keeps_permission mode (record_at e j) || eqb i j) 0 (callback_kind state mode (h.no_record k) (last k)))
          ∙ ap (λ x. cond (keeps_permission mode (record_at e j) || eqb i j) 0 x) (uncalled_kind state mode)
          ∙ both_zero (keeps_permission mode (record_at e j) || eqb i j)
        where
          both_zero : (t : Bool) → ◌≡◌ {A = ℕ} (cond t 0 0) 0
          both_zero true = refl
          both_zero false = refl

      pub unknown-waiting : (mode : Mode) → Unknown n (waiting_entry n e j mode) i
      unknown-waiting mode =
          record {
            no_record = h.no_record;
            not_last = h.not_last;
            not_waiting = other;
            not_called =
                ap (λ k. cond (ltb j n) (kind_of k) 0)
                (stored_or n (callback_due n (record_at e) e.last j mode) e.calls 0 i hi (uncalled mode))
                ∙ both-none (ltb j n);
          }
        where
          both-none : (t : Bool) → cond t (kind_of 0) 0 ≡ 0
          both-none true = refl
          both-none false = refl

      pub unknown-granted : (mode : Mode) (g : Grant) → Unknown n (granted_entry n e j mode g) i
      unknown-granted mode g =
          record {
            no_record = record-stays (opened mode g.caching (record_at e j));
            not_last = neither (is_write mode) nobody e.last i nobody_else h.not_last;
            not_waiting = nobody_else;
            not_called = quiet (granted_entry n e j mode g) refl;
          }

      pub unknown-closed : (mode : Mode) (dirty : Bool) → Unknown n (closed_entry e j mode dirty) i
      unknown-closed mode dirty =
          record {
            no_record = record-stays (closed mode (record_at e j));
            not_last =
                neither (ends_writing mode (record_at e j)) (cond dirty j nobody) e.last i
                (neither dirty j nobody i other nobody_else) h.not_last;
            not_waiting = h.not_waiting;
            not_called = h.not_called;
          }

      pub unknown-flushed : (left : Bool) → Unknown n (flushed_entry e j left) i
      unknown-flushed left =
          record {
            no_record = h.no_record;
            not_last = neither (not left && eqb e.last j) nobody e.last i nobody_else h.not_last;
            not_waiting = h.not_waiting;
            not_called = h.not_called;
          }

      pub unknown-answered : (kind : ℕ) → Unknown n (answered_entry e j kind) i
      unknown-answered kind =
          record {
            no_record = record-stays _;
            not_last = neither (writes_back kind) nobody e.last i nobody_else h.not_last;
            not_waiting = h.not_waiting;
            not_called =
                ap (λ k. cond (waits n e) (kind_of k) 0) (get_or-set_other e.calls j i 0 0 apart) ∙ h.not_called;
          }

      pub unknown-reported : (own : ClientFile) → Unknown n (reported_entry e j own) i
      unknown-reported own =
          record {
            no_record = record-stays own.opens;
            not_last = neither own.marked j e.last i other h.not_last;
            not_waiting = h.not_waiting;
            not_called = h.not_called;
          }

      pub unknown-forgotten : Unknown n (forgotten_entry n e j) i
      unknown-forgotten =
          record {
            no_record = record-stays not_open;
            not_last = neither (eqb e.last j) nobody e.last i nobody_else h.not_last;
            not_waiting = neither (eqb e.waiter j) nobody e.waiter i nobody_else h.not_waiting;
            not_called = by-own (eqb e.waiter j);
          }
        where
          by-own :
              (own : Bool)
              → cond (ltb (cond own nobody e.waiter) n)
              (kind_of (get_or (cond own (filled n 0 e.calls) e.calls) i 0)) 0
              ≡ 0
          by-own true = unless _ 0 (le-ltb nobody n bound)
          by-own false = h.not_called

  -- ---- the server forgets client i itself

  module _ (e : Entry) where
    not-i : (x : ℕ) → eqb (cond (eqb x i) nobody x) i ≡ false
    not-i x =
        split (eqb x i)
        (λ own. ap (λ y. eqb y i) (when nobody x own) ∙ nobody_else)
        (λ away. ap (λ y. eqb y i) (unless nobody x away) ∙ away)

    -- it has no call
    pub forgets-uncalled : call_to n (forgotten_entry n e i) i ≡ 0 → Unknown n (forgotten_entry n e i) i
    forgets-uncalled none =
        record {
          no_record = set_or e.records i not_open;
          not_last = not-i e.last;
          not_waiting = not-i e.waiter;
          not_called = none;
        }

    -- or its call counts as answered
    pub forgets-answered : (kind : ℕ) → Unknown n (answered_entry (forgotten_entry n e i) i kind) i
    forgets-answered kind =
        let e' = forgotten_entry n e i in
        record {
          no_record =
              ap (λ (r : ClientRecord). get_or (set e'.records i (cond (invalidates kind) (uncached r) r)) i not_open)
              (set_or e.records i not_open)
              ∙ ap (λ (r : ClientRecord). get_or (set e'.records i r) i not_open) (still-closed (invalidates kind))
              ∙ set_or e'.records i not_open;
          not_last = neither (writes_back kind) nobody e'.last i nobody_else (not-i e.last);
          not_waiting = not-i e.waiter;
          not_called =
              ap (λ k. cond (waits n e') (kind_of k) 0) (set_or e'.calls i 0) ∙ both-none (waits n e');
        }
      where
        still-closed : (t : Bool) → cond t (uncached not_open) not_open ≡ not_open
        still-closed true = refl
        still-closed false = refl

        both-none : (t : Bool) → cond t (kind_of 0) 0 ≡ 0
        both-none true = refl
        both-none false = refl

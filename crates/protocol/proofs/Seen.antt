-- What lies past the n clients of an entry is neither looked at nor changed: every decision on the entry is that on
-- the seen part of it, and every step on it shows as the same step on that part. It leads to the service, whose entries
-- have room for more clients than there are. Assumes nothing.
use Prim.Native.Nat.{ℕ, zero, suc, ◌<◌, ◌≤◌}
use mathlib.Core.Path.{◌≡◌, refl, sym, ap, ◌∙◌}
use mathlib.Core.Bool.{Bool, true, false, cond, not, ◌&&◌, ◌||◌}
use mathlib.Core.List.{List, ◌∷◌}
use native.Mathlib.Nat.{le_refl}
use native.Mathlib.Omega.{arith}
use lib.Dec.{eqb, ltb}
use lib.ListN.{set, take, replicate}
use lib.Seq.{get_or-take, take-set-lt}
use Rattle.records.specs.declared.record.Mode.{Mode}
use Rattle.records.specs.declared.record.ClientRecord.{ClientRecord}
use Rattle.protocol.specs.declared.client.ClientFile.{ClientFile}
use Rattle.protocol.specs.declared.entry.Entry.{Entry}
use Rattle.records.specs.Version.{no_version}
use Rattle.records.specs.Record.{not_open, is_write, opened, closed, uncached, ends_writing}
use Rattle.sizes.specs.Sizes.{nobody}
use Rattle.decision.specs.Lists.{stored, filled}
use Rattle.decision.specs.Callback.{asks_nothing, callback_due, writes_back, invalidates}
use Rattle.decision.proofs.Counting.{count_agree}
use Rattle.decision.proofs.Finding.{first_agree}
use Rattle.decision.proofs.Agreeing.{due-agree, calls-agree, permission-agree}
use Rattle.decision.proofs.Storing.{stored_agree}
use Rattle.protocol.specs.Entry.{record_at, waits, kind_of, call_to, calls_out, calls_for, calls_due, waiting_entry}
use Rattle.protocol.specs.Entry.{grant_of}
use Rattle.protocol.specs.Entry.{granted_entry, closed_entry, answered_entry, crashed_entry, fresh_entry}
use Rattle.protocol.specs.Entry.{reported_entry, forgotten_entry}
use Rattle.protocol.specs.Table.{seen}
use Rattle.protocol.specs.Client.{no_client}
use Rattle.protocol.specs.Clash.{clash, says_anything, accepted_of, clashes_on}

-- storing into a list, and taking the places that are stored
take_stored {ℓ} : {A : Type ℓ} (m n : ℕ) (v : ℕ → A) (l : List A)
    → m ≤ n → take n (stored m (λ i. i) v l) ≡ stored m (λ i. i) v (take n l)
unfolding stored
take_stored zero n v l fits = refl
take_stored (suc m) n v l fits =
    take-set-lt n (stored m (λ i. i) v l) m (v m) (omega arith)
    ∙ ap (λ (x : List _). set x m (v m)) (take_stored m n v l (omega arith))

take_replicate {ℓ} : {A : Type ℓ} (n m : ℕ) (a : A) → n ≤ m → take n (replicate m a) ≡ replicate n a
take_replicate zero m a fits = refl
take_replicate (suc n) zero a fits = absurd (omega arith)
take_replicate (suc n) (suc m) a fits = ap (λ (l : List _). a ∷ l) (take_replicate n m a (omega arith))

-- the entry at the start, with room for m clients
pub fresh_seen : (n m : ℕ) → n ≤ m → seen n (fresh_entry m) ≡ fresh_entry n
fresh_seen n m fits =
    λ k.
    record {
      records = take_replicate n m not_open fits k;
      version = (fresh_entry m).version;
      last = nobody;
      waiter = nobody;
      mode = (fresh_entry m).mode;
      calls = take_replicate n m 0 fits k;
    }

module _ (n : ℕ) (e : Entry) where
  -- ---- what is decided

  record_seen : (i : ℕ) → i < n → record_at (seen n e) i ≡ record_at e i
  record_seen i below = get_or-take n e.records i not_open below

  pub call_seen : (i : ℕ) → i < n → call_to n (seen n e) i ≡ call_to n e i
  call_seen i below = ap (λ k. cond (waits n e) (kind_of k) 0) (get_or-take n e.calls i 0 below)

  pub calls_out_seen : calls_out n (seen n e) ≡ calls_out n e
  calls_out_seen = count_agree n _ _ (λ i below. ap (λ k. not (asks_nothing k)) (call_seen i below))

  -- what is accepted of a client, and with whom it clashes
  accepted_seen : (i : ℕ) → i < n → accepted_of (seen n e) i ≡ accepted_of e i
  accepted_seen i below =
      ap (λ (r : ClientRecord). record { opens = r; marked = eqb e.last i; label = no_version }) (record_seen i below)

  pub clashes_seen :
      (accepted : ℕ → Bool) (own : ClientFile) → clashes_on n accepted (seen n e) own ≡ clashes_on n accepted e own
  clashes_seen accepted own =
      ap (λ k. says_anything own && (clash own no_client || ltb k n))
      (first_agree n (λ j. accepted j && clash own (accepted_of (seen n e) j)) (λ j. accepted j && clash own (accepted_of e j))
      (λ j below. ap (λ (d : ClientFile). accepted j && clash own d) (accepted_seen j below)))

  -- ---- what a step makes of it

  -- one record is changed
  set_seen :
      (i : ℕ) (change : ClientRecord → ClientRecord)
      → i < n
      → take n (set e.records i (change (record_at e i)))
      ≡ set (take n e.records) i (change (record_at (seen n e) i))
  set_seen i change below =
      take-set-lt n e.records i (change (record_at e i)) below
      ∙ ap (λ r. set (take n e.records) i (change r)) (sym (record_seen i below))

  pub crashed_seen : seen n (crashed_entry n e) ≡ crashed_entry n (seen n e)
  crashed_seen =
      λ k.
      record {
        records = take_stored n n (λ i. not_open) e.records (le_refl n) k;
        version = e.version;
        last = nobody;
        waiter = nobody;
        mode = (crashed_entry n e).mode;
        calls = take_stored n n (λ i. 0) e.calls (le_refl n) k;
      }

  -- Client i takes the step.
  module _ (i : ℕ) (below : i < n) where
    pub calls-for-seen : (mode : Mode) → calls_for n (seen n e) i mode ≡ calls_for n e i mode
    calls-for-seen mode = calls-agree n (record_at (seen n e)) (record_at e) record_seen i mode below e.last

    pub grant-seen : (mode : Mode) → grant_of n (seen n e) i mode ≡ grant_of n e i mode
    grant-seen mode =
        λ k.
        record {
          latest = (grant_of n e i mode).latest;
          previous = (grant_of n e i mode).previous;
          caching = permission-agree n (record_at (seen n e)) (record_at e) record_seen i mode below k;
        }

    pub waiting-seen : (mode : Mode) → seen n (waiting_entry n e i mode) ≡ waiting_entry n (seen n e) i mode
    waiting-seen mode =
        λ k.
        record {
          records = take n e.records;
          version = e.version;
          last = e.last;
          waiter = i;
          mode = mode;
          calls = calls k;
        }
      where
        calls : take n (calls_due n e i mode e.calls) ≡ calls_due n (seen n e) i mode (take n e.calls)
        calls =
            take_stored n n (callback_due n (record_at e) e.last i mode) e.calls (le_refl n)
            ∙ stored_agree n (λ j. j) _ _ (take n e.calls)
            (λ j is. sym (due-agree n (record_at (seen n e)) (record_at e) record_seen i mode below e.last j is))

    -- the grant is the one that is told on the seen part
    pub granted-seen :
        (mode : Mode)
        → seen n (granted_entry n e i mode (grant_of n e i mode))
        ≡ granted_entry n (seen n e) i mode (grant_of n (seen n e) i mode)
    granted-seen mode =
        λ k.
        record {
          records = records k;
          version = cond (is_write mode) (grant_of n e i mode).latest e.version;
          last = cond (is_write mode) nobody e.last;
          waiter = nobody;
          mode = (crashed_entry n e).mode;
          calls = take_stored n n (λ j. 0) e.calls (le_refl n) k;
        }
      where
        records :
            take n (set e.records i (opened mode (grant_of n e i mode).caching (record_at e i)))
            ≡ set (take n e.records) i (opened mode (grant_of n (seen n e) i mode).caching (record_at (seen n e) i))
        records =
            set_seen i (opened mode (grant_of n e i mode).caching) below
            ∙ ap (λ g. set (take n e.records) i (opened mode g.caching (record_at (seen n e) i)))
            (sym (grant-seen mode))

    pub closed-seen :
        (mode : Mode) (dirty : Bool) → seen n (closed_entry e i mode dirty) ≡ closed_entry (seen n e) i mode dirty
    closed-seen mode dirty =
        λ k.
        record {
          records = set_seen i (closed mode) below k;
          version = e.version;
          last = cond (ends_writing mode (sym (record_seen i below) k)) (cond dirty i nobody) e.last;
          waiter = e.waiter;
          mode = e.mode;
          calls = take n e.calls;
        }

    pub answered-seen : (kind : ℕ) → seen n (answered_entry e i kind) ≡ answered_entry (seen n e) i kind
    answered-seen kind =
        λ k.
        record {
          records = set_seen i (λ r. cond (invalidates kind) (uncached r) r) below k;
          version = e.version;
          last = cond (writes_back kind) nobody e.last;
          waiter = e.waiter;
          mode = e.mode;
          calls = take-set-lt n e.calls i 0 below k;
        }

    pub forgotten-seen : seen n (forgotten_entry n e i) ≡ forgotten_entry n (seen n e) i
    forgotten-seen =
        λ k.
        record {
          records = take-set-lt n e.records i not_open below k;
          version = e.version;
          last = (forgotten_entry n e i).last;
          waiter = (forgotten_entry n e i).waiter;
          mode = (forgotten_entry n e i).mode;
          calls = calls (eqb e.waiter i) k;
        }
      where
        calls :
            (own : Bool)
            → take n (cond own (filled n 0 e.calls) e.calls) ≡ cond own (filled n 0 (take n e.calls)) (take n e.calls)
        calls true = take_stored n n (λ j. 0) e.calls (le_refl n)
        calls false = refl

    pub reported-seen : (own : ClientFile) → seen n (reported_entry e i own) ≡ reported_entry (seen n e) i own
    reported-seen own =
        λ k.
        record {
          records = take-set-lt n e.records i own.opens below k;
          version = e.version;
          last = cond own.marked i e.last;
          waiter = e.waiter;
          mode = e.mode;
          calls = take n e.calls;
        }

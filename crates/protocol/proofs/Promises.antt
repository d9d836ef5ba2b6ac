-- What the protocol of one file promises, step by step: the interface between the protocol and the theorem on whole
-- lists of steps. `Running v k` says that the view v is sound and the server is running, `Recovering v k reported row`
-- that a recovery is under way which must give the row back; k is what the reference memory has for the
-- block.
use Prim.Native.Nat.{ℕ, ◌<◌}
use mathlib.Core.Path.{◌≡◌}
use mathlib.Core.Bool.{Bool, true, false, ◌&&◌}
use mathlib.Core.Logic.{◌⊎◌}
use mathlib.Core.List.{[]}
use lib.Dec.{eqb, ltb}
use Rattle.records.specs.declared.record.Mode.{Mode}
use Rattle.records.specs.Version.{is_last_version}
use Rattle.records.specs.Record.{is_open, is_write, count_of}
use Rattle.protocol.specs.Entry.{waits, call_to, calls_out, calls_for}
use Rattle.protocol.specs.Client.{no_client, read_needs_server, write_needs_server}
use Rattle.protocol.specs.Clash.{clashes_on}
use Rattle.protocol.specs.Book.{History, latest, wrote, came, lost}
use Rattle.protocol.specs.Table.{Row, row_of, without}
use Rattle.protocol.proofs.View.{View, at, fresh_view, waiting_view, granted_view, closed_view, value_in, read_view}
use Rattle.protocol.proofs.View.{written_view, sent_view, settled_view, call_answered_view, waiter_granted_view}
use Rattle.protocol.proofs.View.{crashed_view, reported_view, restarted_view, Backs}

pub record Promises
    (n : ℕ)
    (Running : View → History → Type 0)
    (Recovering : View → History → (ℕ → Bool) → Row → Type 0) : Type 0 where
  pub fresh : Running (fresh_view n) []
  -- running
  pub opens :
      (v : View) (k : History) (i : ℕ) (mode : Mode)
      → Running v k
      → i < n
      → waits n v.entry ≡ false
      → eqb (count_of mode (v.client i).opens) 255 ≡ false
      → (is_write mode && is_last_version v.entry.version) ≡ false
      → eqb (calls_for n v.entry i mode) 0 ≡ true
      → Running (granted_view n v i mode) k
  pub waits_for :
      (v : View) (k : History) (i : ℕ) (mode : Mode)
      → Running v k
      → i < n
      → waits n v.entry ≡ false
      → eqb (count_of mode (v.client i).opens) 255 ≡ false
      → (is_write mode && is_last_version v.entry.version) ≡ false
      → Running (waiting_view n v i mode) k
  pub closes :
      (v : View) (k : History) (i : ℕ) (mode : Mode) (dirty : Bool)
      → Running v k
      → i < n
      → waits n v.entry ≡ false
      → eqb (count_of mode (v.client i).opens) 0 ≡ false
      → (v.dirty i ≡ true → dirty ≡ true)
      → Running (closed_view v i mode dirty) k
  pub reads :
      (v : View) (k : History) (i : ℕ)
      → Running v k
      → i < n
      → is_open (v.client i).opens ≡ true
      → (value_in v i ≡ latest k) × Running (read_view v i) k
  pub writes :
      (v : View) (k : History) (i x : ℕ)
      → Running v k
      → i < n
      → eqb (v.client i).opens.writers 0 ≡ false
      → Running (written_view v i x) (wrote i x (v.client i).opens.caching k)
  pub sends : (v : View) (k : History) (i : ℕ) → Running v k → i < n → v.dirty i ≡ true → Running (sent_view v i) (came i k)
  pub settles :
      (v : View) (k : History) (i : ℕ) (left : Bool)
      → Running v k
      → i < n
      → (v.dirty i ≡ true → left ≡ true)
      → Running (settled_view v i left) k
  pub answers :
      (v : View) (k : History) (i : ℕ)
      → Running v k
      → i < n
      → eqb (call_to n v.entry i) 0 ≡ false
      → eqb (calls_out n (call_answered_view n v i).entry) 0 ≡ false
      → Running (call_answered_view n v i) (came i k)
  pub answers_last :
      (v : View) (k : History) (i : ℕ)
      → Running v k
      → i < n
      → eqb (call_to n v.entry i) 0 ≡ false
      → eqb (calls_out n (call_answered_view n v i).entry) 0 ≡ true
      → (v.entry.waiter < n) × Running (waiter_granted_view n (call_answered_view n v i)) (came i k)
  -- what a close, a flush, a grant and an answer do to marks and dirty blocks
  pub closes_back :
      (v : View) (i j : ℕ) (mode : Mode) (dirty : Bool)
      → ((closed_view v i mode dirty).client j).marked ≡ true
      → ((v.client j).marked ≡ true) ⊎ ((eqb j i ≡ true) × (dirty ≡ true))
  pub settles_back :
      (v : View) (i j : ℕ) (left : Bool)
      → ((settled_view v i left).client j).marked ≡ true
      → ((v.client j).marked ≡ true) × (eqb j i ≡ true → left ≡ true)
  pub opens_back :
      (v : View) (k : History) (i : ℕ) (mode : Mode)
      → Running v k
      → i < n
      → (is_write mode && is_last_version v.entry.version) ≡ false
      → eqb (calls_for n v.entry i mode) 0 ≡ true
      → Backs v (granted_view n v i mode)
  pub answers_back :
      (v : View) (k : History) (i : ℕ)
      → Running v k
      → i < n
      → eqb (call_to n v.entry i) 0 ≡ false
      → Backs v (call_answered_view n v i)
  pub answers_last_back :
      (v : View) (k : History) (i : ℕ)
      → Running v k
      → i < n
      → eqb (call_to n v.entry i) 0 ≡ false
      → eqb (calls_out n (call_answered_view n v i).entry) 0 ≡ true
      → Backs v (waiter_granted_view n (call_answered_view n v i))
  -- a client that is last writer, or marked, is marked and has no writers
  pub owes :
      (v : View) (k : History) (i : ℕ)
      → Running v k
      → i < n
      → (v.entry.last ≡ i) ⊎ ((v.client i).marked ≡ true)
      → ((v.client i).marked ≡ true) × (ltb 0 (v.client i).opens.writers ≡ true → ⊥)
  -- a restart takes the client's writes at risk away, and where it is the last to answer the waiting open is granted
  pub restarts :
      (v : View) (k : History) (i : ℕ) → Running v k → i < n → Running (restarted_view n v i) (lost i k)
  pub restarts_back : (v : View) (k : History) (i : ℕ) → Running v k → i < n → Backs v (restarted_view n v i)
  -- the table after a crash has heard those that have nothing of the file, since it has nothing of them
  pub crashes :
      (v : View) (k : History) (heard : ℕ → Bool)
      → Running v k
      → ((i : ℕ) → heard i ≡ true → v.client i ≡ no_client)
      → Recovering (crashed_view n v) k heard (row_of v.entry)
  -- recovering
  pub crashes_again :
      (v : View) (k : History) (reported heard : ℕ → Bool) (row : Row)
      → Recovering v k reported row
      → ((i : ℕ) → heard i ≡ true → v.client i ≡ no_client)
      → Recovering (crashed_view n v) k heard row
  pub reads_own :
      (v : View) (k : History) (i : ℕ) (reported : ℕ → Bool) (row : Row)
      → Recovering v k reported row
      → i < n
      → read_needs_server (v.client i) (v.held i) ≡ false
      → value_in v i ≡ latest k
  pub writes_own :
      (v : View) (k : History) (i x : ℕ) (reported : ℕ → Bool) (row : Row)
      → Recovering v k reported row
      → i < n
      → write_needs_server (v.client i) ≡ false
      → Recovering (written_view v i x) (wrote i x (v.client i).opens.caching k) reported row
  pub reports :
      (v : View) (k : History) (i : ℕ) (reported : ℕ → Bool) (row : Row)
      → Recovering v k reported row
      → i < n
      → reported i ≡ false
      → Recovering (reported_view v i) k (at i true reported) row
  -- what a client reports does not clash with what was accepted before
  pub never_clashes :
      (v : View) (k : History) (i : ℕ) (reported accepted : ℕ → Bool) (row : Row)
      → Recovering v k reported row
      → reported i ≡ false
      → ((j : ℕ) → j < n → accepted j ≡ true → reported j ≡ true)
      → clashes_on n accepted v.entry (v.client i) ≡ false
  pub restarts_cut_off :
      (v : View) (k : History) (i : ℕ) (reported : ℕ → Bool) (row : Row)
      → Recovering v k reported row
      → i < n
      → Recovering (restarted_view n v i) (lost i k) (at i true reported) (without i row)
  pub restarts_cut_off_back :
      (v : View) (k : History) (i : ℕ) (reported : ℕ → Bool) (row : Row)
      → Recovering v k reported row
      → Backs v (restarted_view n v i)
  pub owes_still :
      (v : View) (k : History) (i : ℕ) (reported : ℕ → Bool) (row : Row)
      → Recovering v k reported row
      → i < n
      → (v.entry.last ≡ i) ⊎ ((v.client i).marked ≡ true)
      → ((v.client i).marked ≡ true) × (ltb 0 (v.client i).opens.writers ≡ true → ⊥)
  pub ends :
      (v : View) (k : History) (reported : ℕ → Bool) (row : Row)
      → Recovering v k reported row
      → ((i : ℕ) → i < n → reported i ≡ true)
      → Running v k × (row_of v.entry ≡ row) × (waits n v.entry ≡ false)

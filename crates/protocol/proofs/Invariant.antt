-- The inductive invariant of one file and one block: `Running` between the steps of a running server, `Recovering`
-- between a crash and the end of its recovery. `Kept` proves that every step keeps them. A marked client is one whose
-- last-writer flag is set (document 01: mark); another client than s is a number t with `eqb t s ≡ false`. A letter and
-- a number name each clause.
use Prim.Native.Nat.{ℕ, ◌≤◌, ◌<◌}
use mathlib.Core.Path.{◌≡◌}
use mathlib.Core.Bool.{Bool, true, false, cond, not, ◌&&◌}
use mathlib.Core.Logic.{◌⊎◌}
use mathlib.Core.List.{List, [], ◌∷◌}
use lib.Dec.{eqb}
use lib.ListN.{length}
use Rattle.records.specs.declared.record.Mode.{Mode}
use Rattle.records.specs.declared.record.ClientRecord.{ClientRecord}
use Rattle.records.specs.declared.version.Version.{Version}
use Rattle.protocol.specs.declared.client.ClientFile.{ClientFile}
use Rattle.sizes.specs.Sizes.{nobody}
use Rattle.records.specs.Version.{number_of, same_version, is_last_version}
use Rattle.records.specs.Record.{is_write}
use Rattle.decision.specs.State.{record_in}
use Rattle.decision.specs.Callback.{writes_back, invalidates}
use Rattle.protocol.specs.Entry.{waits, call_to}
use Rattle.protocol.specs.Client.{no_client}
use Rattle.protocol.specs.Book.{HistoryOf, History, latest, risked_by}
use Rattle.protocol.specs.Table.{Row}
pub use Rattle.protocol.specs.Clash.{has_open, may_cache, has_writers}
use Rattle.protocol.proofs.View.{View}
pub mod Flags
pub mod Lists
pub mod Count
pub mod Change
pub mod Last
pub mod Book
pub mod Fresh
pub mod Block
pub mod Permission
pub mod Latest
pub mod Grant
pub mod Granting
pub mod Kind
pub mod Due
pub mod Close
pub mod Settle
pub mod Owing
pub mod Answer
pub mod Open
pub mod Recovery
pub mod Restart
pub mod Clash
pub mod Summary

abbrev pub is_latest : Version → ClientFile → Bool
is_latest version c = same_version c.label version

-- The clauses on one client.
pub record Own (version : Version) (c : ClientFile) : Type 0 where
  -- S1: a client that may cache is open.
  pub caching_is_open : may_cache c ≡ true → has_open c ≡ true
  -- S3: a marked client has no writers.
  pub marked_excludes : c.marked ≡ true → has_writers c ≡ true → ⊥
  -- S4: a marked client that is open may cache.
  pub marked_open_caches : c.marked ≡ true → has_open c ≡ true → may_cache c ≡ true
  -- L1: no copy is of a later version than the file's.
  pub label_not_ahead : number_of c.label ≤ number_of version
  -- L2: a client that may cache, or is marked, has a copy of the latest version.
  pub caching_has_latest : (may_cache c ≡ true) ⊎ (c.marked ≡ true) → is_latest version c ≡ true
  -- L3: a client with writers and a copy of the latest version may cache.
  pub writer_owns_latest : has_writers c ≡ true → is_latest version c ≡ true → may_cache c ≡ true

-- The clauses on a client c and another one, d.
pub record Apart (version : Version) (c d : ClientFile) : Type 0 where
  -- S2: where c has writers and may cache, d is not open.
  pub caching_writer_alone : may_cache c ≡ true → has_writers c ≡ true → has_open d ≡ true → ⊥
  -- S3: where c is marked, d is neither open nor marked.
  pub marked_excludes : c.marked ≡ true → (has_open d ≡ true) ⊎ (d.marked ≡ true) → ⊥
  -- S5: where c has writers, d may not cache.
  pub writer_bars_caching : has_writers c ≡ true → may_cache d ≡ true → ⊥
  -- L3: where c has writers, d has no copy of the latest version.
  pub writer_owns_latest : has_writers c ≡ true → is_latest version d ≡ true → ⊥
  -- L4: where c is marked, d has no copy of the latest version.
  pub marked_owns_latest : c.marked ≡ true → is_latest version d ≡ true → ⊥

-- The clauses on a client's copy of the block.
pub record Copied (version : Version) (c : ClientFile) (copy : ℕ) (held dirty : Bool) (k : ℕ) : Type 0 where
  -- D1: a dirty block is held.
  pub dirty_is_held : dirty ≡ true → held ≡ true
  -- D2: a client with a dirty block is marked, or has writers and may cache.
  pub dirty_is_owned : dirty ≡ true → (c.marked ≡ true) ⊎ ((has_writers c ≡ true) × (may_cache c ≡ true))
  -- D3: a held block of the latest version is the reference memory's number.
  pub held_is_right : held ≡ true → is_latest version c ≡ true → copy ≡ k

-- What always holds of the clients' own records, so that no crash can touch it.
pub record Clients (n : ℕ) (version : Version) (client : ℕ → ClientFile) : Type 0 where
  -- The stored version is not 0, so that it is the version as read.
  pub version_not_zero : eqb (number_of version) 0 ≡ false
  -- From n on there is no client.
  pub beyond : (s : ℕ) → n ≤ s → client s ≡ no_client
  pub own : (s : ℕ) → Own version (client s)
  pub apart : (s t : ℕ) → eqb t s ≡ false → Apart version (client s) (client t)

-- What always holds, running or not.
pub record Sound
    (n : ℕ)
    (version : Version)
    (client : ℕ → ClientFile)
    (copy : ℕ → ℕ)
    (held dirty : ℕ → Bool)
    (k : ℕ) : Type 0 where
  pub clients : Clients n version client
  pub copied : (s : ℕ) → Copied version (client s) (copy s) (held s) (dirty s) k

-- All writes of the history are safe.
abbrev pub AllSafe : {A : Type 0} → HistoryOf A → Type 0
AllSafe [] = Unit {0}
AllSafe (w ∷ ws) = (w.safe ≡ true) × AllSafe ws

-- It is some writes at risk, all of the client, and then safe ones.
abbrev pub Risks : {A : Type 0} → ℕ → HistoryOf A → Type 0
Risks i [] = Unit {0}
Risks i (w ∷ ws) = ((w.safe ≡ true) × AllSafe ws) ⊎ ((w.safe ≡ false) × (w.client ≡ i) × Risks i ws)

-- the latest safe write, 0 where there is none
abbrev pub latest_safe : History → ℕ
latest_safe [] = 0
latest_safe (w ∷ ws) = cond w.safe w.value (latest_safe ws)

-- What the reference memory says of the server's block and of who has it dirty, running or not.
pub record Booked (block : ℕ) (dirty : ℕ → Bool) (k : History) : Type 0 where
  -- D4: only one client has writes at risk.
  pub risker : ℕ
  pub shape : Risks risker k
  -- D5: the server's block is the latest safe write.
  pub server : block ≡ latest_safe k
  -- D6: the block is dirty at a client just where the latest write is at risk, and that client's.
  pub risk : (s : ℕ) → dirty s ≡ risked_by s k

-- A2, B3, B4: the last writer is the marked client, as far as the table has heard them: all clients while the server runs,
-- those that have reported while it recovers.
pub record LastWriter (n last : ℕ) (client : ℕ → ClientFile) (heard : ℕ → Bool) : Type 0 where
  -- Where a client that the table has heard is marked, it is the last writer.
  pub named : (s : ℕ) → heard s ≡ true → (client s).marked ≡ true → last ≡ s
  -- Where the last writer is a client, that one is marked.
  pub holder : last < n → (client last).marked ≡ true
  -- Where there is none, `nobody` stands for it.
  pub unnamed : n ≤ last → last ≡ nobody

-- What a table says of the clients that it has heard.
pub record Agrees
    (n : ℕ)
    (records : List ClientRecord)
    (last : ℕ)
    (client : ℕ → ClientFile)
    (heard : ℕ → Bool) : Type 0 where
  -- There is a record for each client.
  pub size : length records ≡ n
  -- A1, B2, B4: the record of a client is its own.
  pub known : (s : ℕ) → heard s ≡ true → record_in records s ≡ (client s).opens
  pub last_writer : LastWriter n last client heard

-- WS and W6: what holds while the opener waits for an open in the mode, where t has still to answer a callback of the
-- kind `calls t`, 0 for none. With no call out it is what a grant needs.
pub record Waiting
    (version : Version)
    (client : ℕ → ClientFile)
    (opener : ℕ)
    (mode : Mode)
    (calls : ℕ → ℕ) : Type 0 where
  -- The opener itself is not called.
  pub uncalled : calls opener ≡ 0
  -- Another client that is marked is called to write back.
  pub marked : (t : ℕ) → eqb t opener ≡ false → (client t).marked ≡ true → writes_back (calls t) ≡ true
  -- Another client that has writers and may cache is called for both.
  pub writing :
      (t : ℕ)
      → eqb t opener ≡ false
      → may_cache (client t) ≡ true
      → has_writers (client t) ≡ true
      → calls t ≡ 3
  -- For a write open, another client that may cache is called to invalidate.
  pub caching :
      (t : ℕ)
      → eqb t opener ≡ false
      → is_write mode ≡ true
      → may_cache (client t) ≡ true
      → invalidates (calls t) ≡ true
  -- Where t is called to write back, no other client is marked.
  pub alone : (s t : ℕ) → writes_back (calls t) ≡ true → eqb s t ≡ false → (client s).marked ≡ true → ⊥
  -- W6: there is a version left for a write open.
  pub version_left : (is_write mode && is_last_version version) ≡ false

-- the table has heard everybody
abbrev pub everybody : ℕ → Bool
everybody s = true

-- While the server runs, the table agrees with everybody.
pub record Running (n : ℕ) (v : View) (k : History) : Type 0 where
  pub sound : Sound n v.entry.version v.client v.copy v.held v.dirty (latest k)
  pub booked : Booked v.block v.dirty k
  pub table : Agrees n v.entry.records v.entry.last v.client everybody
  -- There is a place for each client's callback.
  pub calls : length v.entry.calls ≡ n
  pub waiting :
      waits n v.entry ≡ true
      → Waiting v.entry.version v.client v.entry.waiter v.entry.mode (call_to n v.entry)

-- While it recovers, the table agrees with those that have reported, and the row that must be given back with everybody.
pub record Recovering (n : ℕ) (v : View) (k : History) (reported : ℕ → Bool) (row : Row) : Type 0 where
  pub sound : Sound n v.entry.version v.client v.copy v.held v.dirty (latest k)
  pub booked : Booked v.block v.dirty k
  pub table : Agrees n v.entry.records v.entry.last v.client reported
  pub calls : length v.entry.calls ≡ n
  -- B1: no open waits.
  pub none_waits : waits n v.entry ≡ false
  -- B4: the row of the table just before the crash is what the clients would tell, at the file's version.
  pub before : Agrees n row.records row.last v.client everybody
  pub version : row.version ≡ v.entry.version

-- One file and one block, with what every client has of them: the view that the protocol's invariant speaks of, and how
-- each step changes it. There is no list of files, blocks or clients here; a client is any number below n. It leads to
-- `Promises`, in which the theorem on whole lists of steps finds all that it needs of the protocol.
use Prim.Native.Nat.{ℕ}
use mathlib.Core.Path.{◌≡◌}
use mathlib.Core.Bool.{Bool, true, false, cond, not, ◌&&◌}
use lib.Dec.{eqb}
use Rattle.records.specs.declared.record.Mode.{Mode}
use Rattle.protocol.specs.declared.entry.Entry.{Entry}
use Rattle.protocol.specs.declared.client.ClientFile.{ClientFile}
use Rattle.decision.specs.Callback.{writes_back, invalidates, asks_nothing}
use Rattle.protocol.specs.Entry.{call_to, calls_out, waiting_entry, grant_of, granted_entry, closed_entry, flushed_entry, answered_entry}
use Rattle.protocol.specs.Entry.{crashed_entry, fresh_entry, reported_entry, forgotten_entry}
use Rattle.protocol.specs.Client.{no_client, granted_client, keeps_blocks, closed_client, flushed_client, answered_client}

pub record View : Type 0 where
  -- the server's entry and its block
  pub entry : Entry
  pub block : ℕ
  -- each client's side of the file, and its copy of the block
  pub client : ℕ → ClientFile
  pub copy : ℕ → ℕ
  pub held : ℕ → Bool
  pub dirty : ℕ → Bool

-- the function g with another value at i
abbrev pub at {ℓ} : {A : Type ℓ} → ℕ → A → (ℕ → A) → ℕ → A
at i a g j = cond (eqb j i) a (g j)

abbrev pub fresh_view : ℕ → View
fresh_view n =
    record {
      entry = fresh_entry n;
      block = 0;
      client = λ i. no_client;
      copy = λ i. 0;
      held = λ i. false;
      dirty = λ i. false;
    }

abbrev pub with_entry : View → Entry → View
with_entry v e =
    record { entry = e; block = v.block; client = v.client; copy = v.copy; held = v.held; dirty = v.dirty }

abbrev pub waiting_view : ℕ → View → ℕ → Mode → View
waiting_view n v i mode = with_entry v (waiting_entry n v.entry i mode)

abbrev pub granted_view : ℕ → View → ℕ → Mode → View
granted_view n v i mode =
    let g = grant_of n v.entry i mode in
    let keep = keeps_blocks mode g (v.client i) in
    record {
      entry = granted_entry n v.entry i mode g;
      block = v.block;
      client = at i (granted_client mode g (v.client i)) v.client;
      copy = at i (cond keep (v.copy i) 0) v.copy;
      held = at i (cond keep (v.held i) false) v.held;
      dirty = at i (cond keep (v.dirty i) false) v.dirty;
    }

-- `dirty` says whether a block of the file is dirty at client i, be it this one or another
abbrev pub closed_view : View → ℕ → Mode → Bool → View
closed_view v i mode dirty =
    record {
      entry = closed_entry v.entry i mode dirty;
      block = v.block;
      client = at i (closed_client mode dirty (v.client i)) v.client;
      copy = v.copy;
      held = v.held;
      dirty = v.dirty;
    }

-- what a read gives, and the view after it
abbrev pub value_in : View → ℕ → ℕ
value_in v i = cond ((v.client i).opens.caching && v.held i) (v.copy i) v.block

abbrev pub read_view : View → ℕ → View
read_view v i =
    let fetch = (v.client i).opens.caching && not (v.held i) in
    record {
      entry = v.entry;
      block = v.block;
      client = v.client;
      copy = at i (cond fetch v.block (v.copy i)) v.copy;
      held = at i (cond fetch true (v.held i)) v.held;
      dirty = v.dirty;
    }

abbrev pub written_view : View → ℕ → ℕ → View
written_view v i x =
    let caches = (v.client i).opens.caching in
    record {
      entry = v.entry;
      block = cond caches v.block x;
      client = v.client;
      copy = at i (cond caches x (v.copy i)) v.copy;
      held = at i (cond caches true (v.held i)) v.held;
      dirty = at i (cond caches true (v.dirty i)) v.dirty;
    }

-- A flush of the block sends it; then, with a flush of any block of the file, mark and last writer follow: `left` says
-- whether a block of the file is still dirty at client i.
abbrev pub sent_view : View → ℕ → View
sent_view v i =
    record {
      entry = v.entry;
      block = v.copy i;
      client = v.client;
      copy = v.copy;
      held = v.held;
      dirty = at i false v.dirty;
    }

abbrev pub settled_view : View → ℕ → Bool → View
settled_view v i left =
    record {
      entry = flushed_entry v.entry i left;
      block = v.block;
      client = at i (flushed_client left (v.client i)) v.client;
      copy = v.copy;
      held = v.held;
      dirty = v.dirty;
    }

abbrev pub answered_view : View → ℕ → ℕ → View
answered_view v i kind =
    record {
      entry = answered_entry v.entry i kind;
      block = cond (writes_back kind && v.dirty i) (v.copy i) v.block;
      client = at i (answered_client kind (v.client i)) v.client;
      copy = at i (cond (invalidates kind) 0 (v.copy i)) v.copy;
      held = at i (cond (invalidates kind) false (v.held i)) v.held;
      dirty = at i false v.dirty;
    }

-- client i answers the callback that it has
abbrev pub call_answered_view : ℕ → View → ℕ → View
call_answered_view n v i = answered_view v i (call_to n v.entry i)

-- the waiting open is granted
abbrev pub waiter_granted_view : ℕ → View → View
waiter_granted_view n v = granted_view n v v.entry.waiter v.entry.mode

abbrev pub crashed_view : ℕ → View → View
crashed_view n v = with_entry v (crashed_entry n v.entry)

abbrev pub reported_view : View → ℕ → View
reported_view v i = with_entry v (reported_entry v.entry i (v.client i))

-- client i has restarted: both sides have nothing of it
abbrev pub forgotten_view : ℕ → View → ℕ → View
forgotten_view n v i =
    record {
      entry = forgotten_entry n v.entry i;
      block = v.block;
      client = at i no_client v.client;
      copy = at i 0 v.copy;
      held = at i false v.held;
      dirty = at i false v.dirty;
    }

-- an answer of client i, if it has a call: where it is the last, the open that waits is granted
abbrev pub answer_view : ℕ → View → ℕ → View
answer_view n v i =
    let w = call_answered_view n v i in
    cond (asks_nothing (call_to n v.entry i)) v (cond (eqb (calls_out n w.entry) 0) (waiter_granted_view n w) w)

-- "Then a call on it counts as replied to"
abbrev pub restarted_view : ℕ → View → ℕ → View
restarted_view n v i = answer_view n (forgotten_view n v i) i

-- From v to w client j does not become marked, and if it is, the block stays dirty there; and so for every client.
abbrev pub BacksAt : ℕ → View → View → Type 0
BacksAt j v w = (w.client j).marked ≡ true → ((v.client j).marked ≡ true) × (v.dirty j ≡ true → w.dirty j ≡ true)

abbrev pub Backs : View → View → Type 0
Backs v w = (j : ℕ) → BacksAt j v w

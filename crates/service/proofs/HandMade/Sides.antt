-- Hand-made states in which the two sides of a file differ, and the flags of a copy: rows of docs/DECISIONS.md,
-- "Hand-made states", by evaluation. Assumes nothing.
use Prim.Native.Nat.{ℕ}
use mathlib.Core.Path.{◌≡◌, refl}
use mathlib.Core.Bool.{true, false}
use Rattle.records.specs.declared.record.ClientRecord.{ClientRecord}
use Rattle.records.specs.declared.record.Mode.TheVariants.{Read}
use Rattle.protocol.specs.declared.reply.Reply.TheVariants.{Granted, Value, Refused, AnsweredGrant}
use Rattle.sizes.specs.Sizes.{nobody}
use Rattle.decision.specs.Lists.{count, stored, first_below}
use Rattle.records.specs.Record.{not_open}
use Rattle.decision.specs.State.{state_of}
use Rattle.decision.specs.Permission.{permission_at_grant}
use Rattle.service.specs.declared.service.Service.{Service}
use Rattle.file.specs.FileStep.{file_step}
use Rattle.access.specs.BlockStep.{block_step}
use Rattle.table.specs.TableStep.{table_step}
use Rattle.service.specs.Step.{moved, step_of}
use Rattle.service.specs.Space.{spaced, any_below, sum_below}
use Rattle.service.specs.Fresh.{fresh}
use Rattle.service.proofs.Run.{fresh_default, OR, CR, CW, RD, WR, FL, AN, grant, grant_uncached}
use Rattle.service.proofs.Making.{opens, reading, reading_uncached, writing, writing_uncached}
use Rattle.service.proofs.Making.{side, entry, kinds, waiting}
use Rattle.service.proofs.Making.{with_file, with_side, with_copy, with_copy_of, in_recovery}
use Rattle.service.proofs.Making.{reply, entry_after, side_after, copy_after, block_after}

-- "The two sides apart", "The last writer", "A clean close beside another last writer", "The last flush of a client that
-- is not the last writer", "Blocks that are dirty past the sizes", "A close at a side whose count is 0", "The permission that a kept grant
-- tells where the two sides differ", "Permission at a client that is not open": the server's record of client 0, and
-- its own
abbrev sides : ClientRecord → ClientRecord → Service
sides known own = with_side 0 (side own false 1) (with_file (entry 1 known not_open nobody))

-- and block 0 is dirty there
abbrev dirtied : ClientRecord → ClientRecord → Service
dirtied known own = with_copy 7 true true (sides known own)

-- client 0 is marked, and this client is the last writer
abbrev marked : ClientRecord → ℕ → Service
marked r last = with_side 0 (side r true 1) (with_file (entry 1 r not_open last))

abbrev idle : Service
idle = with_copy 7 true false (sides not_open (opens 0 0 true))

pub record Apart : Type 0 where
  -- callbacks and grants go by the server's record
  pub table_calls : (step_of (sides writing not_open) (OR 1 0)).calls ≡ kinds 3 0
  pub table_grants : reply (sides not_open writing) (OR 1 0) ≡ Granted (grant 1 0)
  -- reads, writes and refusals 11 to 13 go by the client's own
  pub own_read : reply (sides writing not_open) (RD 0 0 0) ≡ Refused 11
  pub own_write : reply (sides writing reading) (WR 0 0 0 5) ≡ Refused 11
  pub own_close : reply (sides writing reading) (CW 0 0) ≡ Refused 11
  pub own_full : reply (sides not_open (opens 255 0 true)) (OR 0 0) ≡ Refused 12
  pub own_room : reply (sides (opens 255 0 true) not_open) (OR 0 0) ≡ Granted (grant 1 0)
  pub own_clean : reply (sides writing writing) (FL 0 0 0) ≡ Refused 13
  pub own_cached : copy_after (sides not_open writing) (WR 0 0 0 5) ≡ (5, true, true)
  pub own_uncached : block_after (sides writing writing_uncached) (WR 0 0 0 5) ≡ 5
  -- a close with a dirty block makes the last writer by the server's record, and the flag by the client's
  pub last_by_table : entry_after (dirtied writing writing_uncached) (CW 0 0) ≡ entry 1 not_open not_open 0
  pub last_unflagged : side_after (dirtied writing writing_uncached) (CW 0 0) 0 ≡ side not_open false 1
  pub no_last_by_table : entry_after (dirtied writing_uncached writing) (CW 0 0) ≡ entry 1 not_open not_open nobody
  pub no_last_flagged : side_after (dirtied writing_uncached writing) (CW 0 0) 0 ≡ side not_open true 1
  -- a close with none clears both, whoever the last writer was
  pub clean_last : entry_after (marked writing 1) (CW 0 0) ≡ entry 1 not_open not_open nobody
  pub clean_flag : side_after (marked writing 1) (CW 0 0) 0 ≡ side not_open false 1
  -- the last flush clears the flag, and the last writer if it is this client
  pub flushed_flag : side_after (with_copy 7 true true (marked not_open 1)) (FL 0 0 0) 0 ≡ side not_open false 1
  pub flushed_other : entry_after (with_copy 7 true true (marked not_open 1)) (FL 0 0 0) ≡ entry 1 not_open not_open 1
  pub flushed_own : entry_after (with_copy 7 true true (marked not_open 0)) (FL 0 0 0) ≡ entry 1 not_open not_open nobody
  -- a block that is dirty past the sizes does not count
  pub past_at_close : entry_after (with_copy_of 4 7 true true (sides writing writing)) (CW 0 0) ≡ entry 1 not_open not_open nobody
  pub past_at_flush : entry_after (with_copy_of 4 7 true true (with_copy 7 true true (marked not_open 0))) (FL 0 0 0) ≡ entry 1 not_open not_open nobody
  -- at a close a count of 0 stays 0 and leaves no last writer, and a record that is not open has no permission
  pub closed0 : entry_after (dirtied not_open writing) (CW 0 0) ≡ entry 1 not_open not_open nobody
  pub closed0_side : side_after (dirtied not_open writing) (CW 0 0) 0 ≡ side not_open true 1
  pub closed0_permission : entry_after (sides (opens 0 0 true) reading) (CR 0 0) ≡ entry 1 not_open not_open nobody
  -- a kept grant tells the server's permission, and the client takes it, with its label and its copy
  pub kept_uncached : reply (sides reading_uncached reading) (OR 0 0) ≡ Granted (grant_uncached 1 0)
  pub kept_uncached_side : side_after (sides reading_uncached reading) (OR 0 0) 0 ≡ side (opens 2 0 false) false 0
  pub kept_uncached_copy : copy_after (with_copy 7 true false (sides reading_uncached reading)) (OR 0 0) ≡ (0, false, false)
  pub kept : reply (sides reading reading_uncached) (OR 0 0) ≡ Granted (grant 1 0)
  pub kept_side : side_after (sides reading reading_uncached) (OR 0 0) 0 ≡ side (opens 2 0 true) false 1
  -- permission without an open gives nothing: 11 while the server runs, 5 while it recovers
  pub idle_running : reply idle (RD 0 0 0) ≡ Refused 11
  pub idle_recovering : reply (in_recovery true false idle) (RD 0 0 0) ≡ Refused 5

pub apart : Apart
unfolding fresh step_of moved spaced any_below sum_below file_step block_step table_step first_below state_of permission_at_grant count stored
apart =
    record {
      table_calls = refl;
      table_grants = refl;
      own_read = refl;
      own_write = refl;
      own_close = refl;
      own_full = refl;
      own_room = refl;
      own_clean = refl;
      own_cached = refl;
      own_uncached = refl;
      last_by_table = refl;
      last_unflagged = refl;
      no_last_by_table = refl;
      no_last_flagged = refl;
      clean_last = refl;
      clean_flag = refl;
      flushed_flag = refl;
      flushed_other = refl;
      flushed_own = refl;
      past_at_close = refl;
      past_at_flush = refl;
      closed0 = refl;
      closed0_side = refl;
      closed0_permission = refl;
      kept_uncached = refl;
      kept_uncached_side = refl;
      kept_uncached_copy = refl;
      kept = refl;
      kept_side = refl;
      idle_running = refl;
      idle_recovering = refl;
    }

-- "Dirty but not held", "Dirty at an invalidation alone", "Dirty at a client that is not open", "Held without
-- permission"
abbrev unheld : ℕ → Service
unheld kind =
    with_copy 7 false true
    (with_side 0 (side writing false 1)
    (with_file (waiting (entry 1 writing not_open nobody) 1 Read (kinds kind 0))))

abbrev uncached : Service
uncached = with_copy 7 true false (sides reading_uncached reading_uncached)

pub record Blocks : Type 0 where
  -- a flush and a write-back send a dirty block that is not held, and leave it clean and not held
  pub flushed : block_after (unheld 1) (FL 0 0 0) ≡ 7
  pub flushed_copy : copy_after (unheld 1) (FL 0 0 0) ≡ (7, false, false)
  pub sent : block_after (unheld 1) (AN 0 0) ≡ 7
  pub sent_counts : reply (unheld 1) (AN 0 0) ≡ AnsweredGrant 1 1 (grant_uncached 1 0)
  pub sent_copy : copy_after (unheld 1) (AN 0 0) ≡ (7, false, false)
  -- a read fetches over it and holds it, and it stays dirty
  pub fetched : reply (unheld 1) (RD 0 0 0) ≡ Value 0
  pub fetched_copy : copy_after (unheld 1) (RD 0 0 0) ≡ (0, true, true)
  -- kind 2 drops a dirty block and sends nothing
  pub dropped : block_after (unheld 2) (AN 0 0) ≡ 0
  pub dropped_counts : reply (unheld 2) (AN 0 0) ≡ AnsweredGrant 0 1 (grant_uncached 1 0)
  pub dropped_copy : copy_after (unheld 2) (AN 0 0) ≡ (0, false, false)
  -- a block that is dirty past the sizes is not sent and does not count
  pub past_counts : reply (with_copy_of 4 8 true true (unheld 1)) (AN 0 0) ≡ AnsweredGrant 1 1 (grant_uncached 1 0)
  -- a flush looks at the dirty flag alone: the client need not be open
  pub flushed_closed : block_after (with_copy 7 true true fresh_default) (FL 0 0 0) ≡ 7
  -- a copy held without permission is not read, and stays
  pub unread : reply uncached (RD 0 0 0) ≡ Value 0
  pub unread_copy : copy_after uncached (RD 0 0 0) ≡ (7, true, false)

pub blocks : Blocks
unfolding fresh step_of moved spaced any_below sum_below file_step block_step table_step first_below state_of permission_at_grant count stored
blocks =
    record {
      flushed = refl;
      flushed_copy = refl;
      sent = refl;
      sent_counts = refl;
      sent_copy = refl;
      fetched = refl;
      fetched_copy = refl;
      dropped = refl;
      dropped_counts = refl;
      dropped_copy = refl;
      past_counts = refl;
      flushed_closed = refl;
      unread = refl;
      unread_copy = refl;
    }

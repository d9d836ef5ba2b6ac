-- Hand-made services, for the examples, and what a step makes of one: a fresh service with another entry for a file,
-- another side of file 0 at a client, or another copy of one of its blocks at client 0. Assumes nothing.
use Prim.Native.Nat.{ℕ}
use mathlib.Core.Bool.{Bool, true, false}
use mathlib.Core.List.{List, ◌∷◌}
use lib.ListN.{set, replicate}
use Rattle.records.specs.declared.record.ClientRecord.{ClientRecord}
use Rattle.records.specs.declared.record.Mode.{Mode}
use Rattle.records.specs.declared.record.Mode.TheVariants.{Read}
use Rattle.protocol.specs.declared.client.ClientFile.{ClientFile}
use Rattle.protocol.specs.declared.entry.Entry.{Entry}
use Rattle.protocol.specs.declared.reply.Reply.{Reply}
use Rattle.protocol.specs.declared.step.Step.{Step}
use Rattle.sizes.specs.Sizes.{max_clients, nobody, cell}
use Rattle.records.specs.Version.{version_of}
use Rattle.records.specs.Record.{not_open}
use Rattle.protocol.specs.Client.{with_side as with_side_of}
use Rattle.service.specs.declared.service.Service.{Service}
use Rattle.service.specs.Contents.{table_in, entry_at, stores_of, block_at, sides_at, client_at}
use Rattle.service.specs.Contents.{copy_at, held_at, dirty_at, with_stores, with_table, with_file as with_file_at}
use Rattle.service.specs.Step.{step_of}
use Rattle.service.proofs.Run.{fresh_default}

-- a client's record: readers, writers, permission
abbrev pub opens : ℕ → ℕ → Bool → ClientRecord
opens r w p = record { readers = r; writers = w; caching = p }

abbrev pub reading : ClientRecord
reading = opens 1 0 true

abbrev pub reading_uncached : ClientRecord
reading_uncached = opens 1 0 false

abbrev pub writing : ClientRecord
writing = opens 0 1 true

abbrev pub writing_uncached : ClientRecord
writing_uncached = opens 0 1 false

-- a client's side of a file: its own record, the last-writer flag, the version of its copy
abbrev pub side : ClientRecord → Bool → ℕ → ClientFile
side r marked label = record { opens = r; marked = marked; label = version_of label }

-- an entry: the version, the server's records of clients 0 and 1, the last writer; no open waits
abbrev pub entry : ℕ → ClientRecord → ClientRecord → ℕ → Entry
entry version first second last =
    record {
      records = first ∷ second ∷ replicate 6 not_open;
      version = version_of version;
      last = last;
      waiter = nobody;
      mode = Read;
      calls = replicate max_clients 0;
    }

-- the kinds of the callbacks to clients 0 and 1
abbrev pub kinds : ℕ → ℕ → List ℕ
kinds first second = first ∷ second ∷ replicate 6 0

-- the entry, with an open of this client and mode that waits, and the callbacks that are out
abbrev pub waiting : Entry → ℕ → Mode → List ℕ → Entry
waiting e opener mode calls =
    record {
      records = e.records;
      version = e.version;
      last = e.last;
      waiter = opener;
      mode = mode;
      calls = calls;
    }

abbrev pub with_entry : ℕ → Entry → Service → Service
with_entry f e s = with_file_at s f (record { entry = e; sides = sides_at s f }) (stores_of s)

abbrev pub with_file : Entry → Service
with_file e = with_entry 0 e fresh_default

abbrev pub with_side : ℕ → ClientFile → Service → Service
with_side i c s = with_file_at s 0 (record { entry = entry_at s 0; sides = with_side_of (sides_at s 0) i c }) (stores_of s)

-- client 0's copy of block b: its value, held, dirty
abbrev pub with_copy_of : ℕ → ℕ → Bool → Bool → Service → Service
with_copy_of b x held dirty s =
    with_stores s
    (record {
      blocks = s.server.blocks;
      copies = set s.copies (cell 0 0 b) x;
      held = set s.held (cell 0 0 b) held;
      dirty = set s.dirty (cell 0 0 b) dirty;
    })

abbrev pub copy_of : Service → ℕ → ℕ × Bool × Bool
copy_of s b = (copy_at s 0 0 b, held_at s 0 0 b, dirty_at s 0 0 b)

abbrev pub with_copy : ℕ → Bool → Bool → Service → Service
with_copy x held dirty s = with_copy_of 0 x held dirty s

-- a service that recovers or runs, with all reports in or none
abbrev pub in_recovery : Bool → Bool → Service → Service
in_recovery recovering reported s =
    with_table s
    (record {
      files = (table_in s).files;
      recovering = recovering;
      reported = replicate max_clients reported;
      embargoed = (table_in s).embargoed;
    })

-- What a step gives: the reply, and of file 0 the entry, client i's side, client 0's copy of block 0 (its value, held,
-- dirty) and the server's block 0.
abbrev pub reply : Service → Step → Reply
reply s x = (step_of s x).reply

abbrev pub entry_after : Service → Step → Entry
entry_after s x = entry_at (step_of s x).service 0

abbrev pub side_after : Service → Step → ℕ → ClientFile
side_after s x i = client_at (step_of s x).service i 0

abbrev pub copy_after : Service → Step → ℕ × Bool × Bool
copy_after s x = copy_of (step_of s x).service 0

abbrev pub block_after : Service → Step → ℕ
block_after s x = block_at (step_of s x).service 0 0

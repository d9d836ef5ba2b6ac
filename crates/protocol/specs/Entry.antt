-- The server's side of one file: the entry of the state table, and how an open, a grant, a close, a flush, an answer,
-- a restart, a crash and a report change it. n is the number of clients; what lies past them in a list is neither
-- looked at nor changed.
use Rattle.std.specs.Prelude.{ℕ, Bool, cond, not, ◌&&◌, List, eqb, leb, ltb, get_or, set, replicate}
use Rattle.records.specs.declared.record.Mode.{Mode}
use Rattle.records.specs.declared.record.Mode.TheVariants.{Read}
use Rattle.records.specs.declared.record.ClientRecord.{ClientRecord}
use Rattle.protocol.specs.declared.entry.Entry.{Entry}
use Rattle.protocol.specs.declared.client.ClientFile.{ClientFile}
use Rattle.protocol.specs.declared.reply.Grant.{Grant}
use Rattle.sizes.specs.Sizes.{nobody}
use Rattle.decision.specs.Lists.{count, filled}
use Rattle.records.specs.Version.{first_version, latest_at, previous_version}
use Rattle.records.specs.Record.{not_open, is_write, opened, closed, uncached, ends_writing}
use Rattle.decision.specs.State.{record_in}
use Rattle.decision.specs.Callback.{callbacks_due, calls_caused, writes_back, invalidates, asks_nothing}
use Rattle.decision.specs.Permission.{permission_at_grant}

abbrev pub record_at : Entry → ℕ → ClientRecord
record_at e i = record_in e.records i

-- an open of the file waits: "a station field of 8 or more reads as none"
abbrev pub waits : ℕ → Entry → Bool
waits n e = ltb e.waiter n

-- a number that is no kind of callback is none
abbrev pub kind_of : ℕ → ℕ
kind_of k = cond (leb k 3) k 0

-- the kind of the callback that client i has still to answer, 0 for none; where no open waits there is none
abbrev pub call_to : ℕ → Entry → ℕ → ℕ
call_to n e i = cond (waits n e) (kind_of (get_or e.calls i 0)) 0

-- how many clients have still to answer
abbrev pub calls_out : ℕ → Entry → ℕ
calls_out n e = count n (λ i. not (asks_nothing (call_to n e i)))

-- how many clients a list of callbacks calls
abbrev pub calls_in : ℕ → List ℕ → ℕ
calls_in n calls = count n (λ i. not (asks_nothing (get_or calls i 0)))

-- how many clients an open in the mode calls, and the callbacks that it causes, in the list l of kinds
abbrev pub calls_for : ℕ → Entry → ℕ → Mode → ℕ
calls_for n e opener mode = calls_caused n (record_at e) e.last opener mode

abbrev pub calls_due : ℕ → Entry → ℕ → Mode → List ℕ → List ℕ
calls_due n e opener mode l = callbacks_due n (record_at e) e.last opener mode l

-- "else it waits": the open stands in the entry, with the callbacks that are out
abbrev pub waiting_entry : ℕ → Entry → ℕ → Mode → Entry
waiting_entry n e opener mode =
    record {
      records = e.records;
      version = e.version;
      last = e.last;
      waiter = opener;
      mode = mode;
      calls = calls_due n e opener mode e.calls;
    }

-- "The grant tells latest version, previous (latest less 1) and permission."
abbrev pub grant_of : ℕ → Entry → ℕ → Mode → Grant
grant_of n e opener mode =
    record {
      latest = latest_at mode e.version;
      previous = previous_version (latest_at mode e.version);
      caching = permission_at_grant n (record_at e) opener mode;
    }

-- "Grant: the count of that mode rises by 1. For write, the version rises by 1 and the last writer becomes none." A
-- read open leaves both as they are stored. After a grant no open waits.
abbrev pub granted_entry : ℕ → Entry → ℕ → Mode → Grant → Entry
granted_entry n e opener mode g =
    record {
      records = set e.records opener (opened mode g.caching (record_at e opener));
      version = cond (is_write mode) g.latest e.version;
      last = cond (is_write mode) nobody e.last;
      waiter = nobody;
      mode = Read;
      calls = filled n 0 e.calls;
    }

-- "Close in a mode lowers that count by 1." "a close of the last writer count with permission sets mark and last writer
-- if a block is dirty, else clears both" (document 02, Wish 4); `dirty` says whether a block of the file is dirty there
abbrev pub closed_entry : Entry → ℕ → Mode → Bool → Entry
closed_entry e i mode dirty =
    record {
      records = set e.records i (closed mode (record_at e i));
      version = e.version;
      last = cond (ends_writing mode (record_at e i)) (cond dirty i nobody) e.last;
      waiter = e.waiter;
      mode = e.mode;
      calls = e.calls;
    }

-- "the flush of the last dirty block clears the mark and, if the station is last writer, that"; `left` says whether a
-- block of the file is still dirty there
abbrev pub flushed_entry : Entry → ℕ → Bool → Entry
flushed_entry e i left =
    record {
      records = e.records;
      version = e.version;
      last = cond (not left && eqb e.last i) nobody e.last;
      waiter = e.waiter;
      mode = e.mode;
      calls = e.calls;
    }

-- "1 .. clears mark and last writer; 2 .. permission gone; 3 is 1, then 2. The table changes in that same step."
abbrev pub answered_entry : Entry → ℕ → ℕ → Entry
answered_entry e i kind =
    record {
      records = set e.records i (cond (invalidates kind) (uncached (record_at e i)) (record_at e i));
      version = e.version;
      last = cond (writes_back kind) nobody e.last;
      waiter = e.waiter;
      mode = e.mode;
      calls = set e.calls i 0;
    }

-- "Its counts, permissions, marks .. and any waiting open of its own go .., with the calls of that open" (document 02,
-- Wish 8): the server forgets client i
abbrev pub forgotten_entry : ℕ → Entry → ℕ → Entry
forgotten_entry n e i =
    let own = eqb e.waiter i in
    record {
      records = set e.records i not_open;
      version = e.version;
      last = cond (eqb e.last i) nobody e.last;
      waiter = cond own nobody e.waiter;
      mode = cond own Read e.mode;
      calls = cond own (filled n 0 e.calls) e.calls;
    }

-- "the server's readers, writers, permissions, last writers, waits .. are lost"; "Versions .. survive a crash"
abbrev pub crashed_entry : ℕ → Entry → Entry
crashed_entry n e =
    record {
      records = filled n not_open e.records;
      version = e.version;
      last = nobody;
      waiter = nobody;
      mode = Read;
      calls = filled n 0 e.calls;
    }

-- at the start, with so many records: "counts .. 0, versions 1 ..; no permission, .. last writer, wait, call"
abbrev pub fresh_entry : ℕ → Entry
fresh_entry n =
    record {
      records = replicate n not_open;
      version = first_version;
      last = nobody;
      waiter = nobody;
      mode = Read;
      calls = replicate n 0;
    }

-- "a station gives counts, permissions and marks for all files; the table takes them"
abbrev pub reported_entry : Entry → ℕ → ClientFile → Entry
reported_entry e i own =
    record {
      records = set e.records i own.opens;
      version = e.version;
      last = cond own.marked i e.last;
      waiter = e.waiter;
      mode = e.mode;
      calls = e.calls;
    }

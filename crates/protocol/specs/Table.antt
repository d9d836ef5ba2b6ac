-- The state table, as recovery must give it back.
use Rattle.std.specs.Prelude.{ℕ, List, cond, eqb, take, set}
use Rattle.records.specs.declared.record.ClientRecord.{ClientRecord}
use Rattle.records.specs.declared.version.Version.{Version}
use Rattle.protocol.specs.declared.entry.Entry.{Entry}
use Rattle.sizes.specs.Sizes.{nobody}
use Rattle.records.specs.Record.{not_open}

-- "The table is, for each file, the server's eight station records, its version and its last writer. A waiting open
-- and its calls are no part of it."
pub record Row : Type 0 where
  pub records : List ClientRecord
  pub version : Version
  pub last : ℕ

abbrev pub row_of : Entry → Row
row_of e = record { records = e.records; version = e.version; last = e.last }

-- "The recovered table is the one at the crash without that station" (document 02, Wish 8)
abbrev pub without : ℕ → Row → Row
without i r =
    record { records = set r.records i not_open; version = r.version; last = cond (eqb r.last i) nobody r.last }

-- "what lies past them isn't there" (document 02, Wish 7): the entry with the records and calls of n clients
abbrev pub seen : ℕ → Entry → Entry
seen n e =
    record {
      records = take n e.records;
      version = e.version;
      last = e.last;
      waiter = e.waiter;
      mode = e.mode;
      calls = take n e.calls;
    }

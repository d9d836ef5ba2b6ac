-- One client's opens of one file: "readers 0 to 255, writers 0 to 255, may-cache". The permission to cache is the
-- field `caching`.
use Rattle.std.specs.Prelude.{ℕ, ◌+◌, ◌-◌, Bool, true, false, cond, ◌&&◌, ◌||◌, eqb, ltb}
use Rattle.records.specs.declared.record.Mode.{Mode}
use Rattle.records.specs.declared.record.Mode.TheVariants.{Read, Write}
use Rattle.records.specs.declared.record.ClientRecord.{ClientRecord}

abbrev pub is_write : Mode → Bool
is_write Read = false
is_write Write = true

-- "at most 0 for read and 1 for write" (document 02, Wish 3): how many versions a copy that an open in this mode keeps
-- may be behind the latest
abbrev pub allowed_lag : Mode → ℕ
allowed_lag Read = 0
allowed_lag Write = 1

-- the record of a client that has not opened the file
abbrev pub not_open : ClientRecord
not_open = record { readers = 0; writers = 0; caching = false }

-- "A station is open on a file when its readers or writers are above 0."
abbrev pub is_open : ClientRecord → Bool
is_open r = ltb 0 r.readers || ltb 0 r.writers

abbrev pub count_of : Mode → ClientRecord → ℕ
count_of Read r = r.readers
count_of Write r = r.writers

-- "A station already open that opens for read, or that has writers and opens for either, causes no call and keeps its
-- permission."
abbrev pub keeps_permission : Mode → ClientRecord → Bool
keeps_permission Read r = is_open r
keeps_permission Write r = ltb 0 r.writers

-- "a grant that would pass the limit of 12 .. leaves that number"
abbrev pub raised : ℕ → ℕ
raised n = cond (eqb n 255) n (n + 1)

-- "the count of that mode rises by 1", with the permission that the grant tells
abbrev pub opened : Mode → Bool → ClientRecord → ClientRecord
opened Read p r = record { readers = raised r.readers; writers = r.writers; caching = p }
opened Write p r = record { readers = r.readers; writers = raised r.writers; caching = p }

-- "lowers that count by 1"; "a count of 0 stays 0", which is what `-` does
abbrev pub lowered : Mode → ClientRecord → ClientRecord
lowered Read r = record { readers = r.readers - 1; writers = r.writers; caching = r.caching }
lowered Write r = record { readers = r.readers; writers = r.writers - 1; caching = r.caching }

-- "A final close takes its permission away"
abbrev pub settled : ClientRecord → ClientRecord
settled r = record { readers = r.readers; writers = r.writers; caching = is_open r && r.caching }

abbrev pub closed : Mode → ClientRecord → ClientRecord
closed m r = settled (lowered m r)

-- "a close of the last writer count with permission" (document 02, Wish 4)
abbrev pub ends_writing : Mode → ClientRecord → Bool
ends_writing Read r = false
ends_writing Write r = eqb r.writers 1 && r.caching

-- "permission gone"
abbrev pub uncached : ClientRecord → ClientRecord
uncached r = record { readers = r.readers; writers = r.writers; caching = false }

-- The state of a file: "Names, first that fits". The number of clients n and a function r from client to record are
-- all that it looks at, with the last writer, which is a client only below n.
use Rattle.std.specs.Prelude.{ℕ, Bool, cond, not, ◌&&◌, List, eqb, ltb, leb, get_or}
use Rattle.records.specs.declared.record.ClientRecord.{ClientRecord}
use Rattle.decision.specs.declared.state.FileState.{FileState}
use Rattle.decision.specs.declared.state.FileState.TheVariants.{Closed, ClosedDirty, OneReader, OneReaderDirty}
use Rattle.decision.specs.declared.state.FileState.TheVariants.{MultReaders, OneWriter, WriteShared}
use Rattle.decision.specs.declared.state.Property.{Property}
use Rattle.decision.specs.declared.state.Property.TheVariants.{Open, Uncached, Writing}
use Rattle.decision.specs.declared.state.Tallies.{Tallies}
use Rattle.decision.specs.Lists.{count}
use Rattle.records.specs.Record.{not_open, is_open}

-- document 01's number of each state
abbrev pub code_of : FileState → ℕ
code_of Closed = 0
code_of ClosedDirty = 1
code_of OneReader = 2
code_of OneReaderDirty = 3
code_of MultReaders = 4
code_of OneWriter = 5
code_of WriteShared = 6

-- the record of client i in a list of records
abbrev pub record_in : List ClientRecord → ℕ → ClientRecord
record_in l i = get_or l i not_open

abbrev pub has : Property → ClientRecord → Bool
has Open r = is_open r
has Uncached r = is_open r && not r.caching
has Writing r = ltb 0 r.writers

-- how many of the n clients have the property, and how many of the others than i
abbrev pub tally : ℕ → (ℕ → ClientRecord) → Property → ℕ
tally n r p = count n (λ i. has p (r i))

abbrev pub others : ℕ → (ℕ → ClientRecord) → Property → ℕ → ℕ
others n r p i = count n (λ j. not (eqb j i) && has p (r j))

-- the tallies of the n clients, as the code counts them in one pass
abbrev pub tallies_of : ℕ → (ℕ → ClientRecord) → Tallies
tallies_of n r = record { «open» = tally n r Open; uncached = tally n r Uncached; writing = tally n r Writing }

-- "0 CLOSED: none open, no last writer. 1 CLOSED_DIRTY: none open, a last writer. 6 WRITE_SHARED: some open station
-- may not cache.
-- 5 ONE_WRITER: one open, writers above 0. 3 ONE_RDRDIRTY: one open, and it is the last writer. 2 ONE_READER: one
-- open.
-- 4 MULT_READERS: otherwise."
unfoldable pub state_of : ℕ → (ℕ → ClientRecord) → ℕ → FileState
state_of n r last =
    cond (eqb (tally n r Open) 0 && leb n last) Closed
    (cond (eqb (tally n r Open) 0) ClosedDirty
    (cond (ltb 0 (tally n r Uncached)) WriteShared
    (cond (eqb (tally n r Open) 1 && ltb 0 (tally n r Writing)) OneWriter
    (cond (eqb (tally n r Open) 1 && (ltb last n && is_open (r last))) OneReaderDirty
    (cond (eqb (tally n r Open) 1) OneReader
    MultReaders)))))

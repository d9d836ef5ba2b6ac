-- Phrases that the sentences are made of. A client is called a station there, as in document 01. docs/EXPLAIN.md has an
-- example of each sentence.
use Rattle.std.specs.Prelude.{ℕ, zero, suc, Bool, cond, List, [], ◌++◌, eqb}
use Rattle.decision.specs.Lists.{count}
use Rattle.decision.specs.declared.state.FileState.{FileState}
use Rattle.decision.specs.declared.state.FileState.TheVariants.{Closed, ClosedDirty, OneReader, OneReaderDirty}
use Rattle.decision.specs.declared.state.FileState.TheVariants.{MultReaders, OneWriter, WriteShared}
use Rattle.records.specs.declared.record.Mode.{Mode}
use Rattle.records.specs.declared.record.Mode.TheVariants.{Read, Write}
use Rattle.stepfile.specs.Text.{bytes, argument_text}

-- "station 5", " file 3", " file 3 block 0"
abbrev pub client_text : ℕ → List ℕ
client_text i = bytes "station" ++ argument_text i

abbrev pub file_text : ℕ → List ℕ
file_text f = bytes " file" ++ argument_text f

abbrev pub block_text : ℕ → ℕ → List ℕ
block_text f b = file_text f ++ (bytes " block" ++ argument_text b)

-- " for read" or " for write"
abbrev pub for_text : Mode → List ℕ
for_text Read = bytes " for read"
for_text Write = bytes " for write"

-- the mode of a step, by its kind (`numbers_of` in crates/protocol/specs/Step.antt): of opens, closes and writes
abbrev pub mode_by_kind : ℕ → Mode
mode_by_kind kind = cond (eqb kind 1) Write (cond (eqb kind 3) Write (cond (eqb kind 5) Write Read))

-- "station 2 has file 3 open for write"
abbrev pub open_text : Mode → ℕ → ℕ → List ℕ
open_text mode i f = client_text i ++ (bytes " has" ++ (file_text f ++ (bytes " open" ++ for_text mode)))

-- a client is under embargo since a line, which is 0 where no line put it there: the session began with an image
abbrev pub embargo_text : ℕ → List ℕ
embargo_text line =
    cond (eqb line 0)
    (bytes " is under embargo, as the image has it")
    (bytes " is under embargo since line" ++ argument_text line)

-- document 01's names of the states
abbrev pub state_text : FileState → List ℕ
state_text Closed = bytes "CLOSED"
state_text ClosedDirty = bytes "CLOSED_DIRTY"
state_text OneReader = bytes "ONE_READER"
state_text OneReaderDirty = bytes "ONE_RDRDIRTY"
state_text MultReaders = bytes "MULT_READERS"
state_text OneWriter = bytes "ONE_WRITER"
state_text WriteShared = bytes "WRITE_SHARED"

-- the numbers below n with the property, each after a space; " none" where there is none
unfoldable pub numbers_text : ℕ → (ℕ → Bool) → List ℕ
numbers_text zero p = []
numbers_text (suc n) p = numbers_text n p ++ cond (p n) (argument_text n) []

abbrev pub list_text : ℕ → (ℕ → Bool) → List ℕ
list_text n p = cond (eqb (count n p) 0) (bytes " none") (numbers_text n p)

-- The summary: "Then "files" and how many files are not CLOSED or not at version 1, and for each, ascending: file,
-- state code, version, last writer or "-"."
use Rattle.std.specs.Prelude.{ℕ, zero, suc, Bool, cond, not, ◌&&◌, List, [], ◌++◌, eqb, ltb, get_or}
use Rattle.protocol.specs.declared.entry.Entry.{Entry}
use Rattle.sizes.specs.declared.sizes.Sizes.{Sizes}
use Rattle.decision.specs.Lists.{count}
use Rattle.records.specs.Version.{number_of, as_read, is_first_version}
use Rattle.decision.specs.State.{code_of, state_of}
use Rattle.protocol.specs.Entry.{record_at}
use Rattle.table.specs.TableStep.{no_entry}
use Rattle.stepfile.specs.Text.{bytes, decimal, argument_text}

-- the state code of a file, where n is the number of clients, and its version: "a version of 0 [reads] as 1"
abbrev pub code_in : ℕ → Entry → ℕ
code_in n e = code_of (state_of n (record_at e) e.last)

abbrev pub version_in : Entry → ℕ
version_in e = number_of (as_read e.version)

-- "not CLOSED or not at version 1"
abbrev pub is_listed : ℕ → Entry → Bool
is_listed n e = not (eqb (code_in n e) 0 && is_first_version (as_read e.version))

-- "last writer or "-"": "a station field of 8 or more reads as none"
abbrev pub writer_text : ℕ → ℕ → List ℕ
writer_text n last = cond (ltb last n) (argument_text last) (bytes " -")

-- "for each ..: file, state code, version, last writer or "-""
abbrev pub fields_text : ℕ → ℕ → ℕ → ℕ → ℕ → List ℕ
fields_text n file code version last =
    decimal file ++ (argument_text code ++ (argument_text version ++ (writer_text n last ++ bytes "\n")))

-- the line of a file, if it is told
abbrev pub file_text : ℕ → ℕ → Entry → List ℕ
file_text n f e = cond (is_listed n e) (fields_text n f (code_in n e) (version_in e) e.last) []

-- the lines of the files below k, ascending
unfoldable pub files_text : ℕ → ℕ → List Entry → List ℕ
files_text n zero entries = []
files_text n (suc k) entries = files_text n k entries ++ file_text n k (get_or entries k no_entry)

-- how many of the files below k are told
abbrev pub listed_below : ℕ → ℕ → List Entry → ℕ
listed_below n k entries = count k (λ f. is_listed n (get_or entries f no_entry))

-- ""files" and how many files"
abbrev pub heading_text : ℕ → List ℕ
heading_text n = bytes "files" ++ (argument_text n ++ bytes "\n")

-- of the files in force
unfoldable pub summary_text : Sizes → List Entry → List ℕ
summary_text z entries =
    heading_text (listed_below z.clients z.files entries) ++ files_text z.clients z.files entries

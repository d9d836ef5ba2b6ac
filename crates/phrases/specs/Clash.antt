-- What is said of a report that cannot be true, or not beside one that was accepted before (document 02, Wish 10).
use Rattle.std.specs.Prelude.{ℕ, Bool, cond, List, ◌++◌}
use Rattle.records.specs.declared.record.ClientRecord.{ClientRecord}
use Rattle.protocol.specs.declared.client.ClientFile.{ClientFile}
use Rattle.stepfile.specs.Text.{bytes, argument_text}
use Rattle.phrases.specs.Phrase.{client_text, file_text}

abbrev pub caches_text : Bool → List ℕ
caches_text caching = cond caching (bytes ", may cache") (bytes ", may not cache")

abbrev pub mark_text : Bool → List ℕ
mark_text marked = cond marked (bytes ", a mark") (bytes ", no mark")

-- what client i says of a file: "counts, permissions and marks"
abbrev pub counts_text : ClientRecord → List ℕ
counts_text r =
    bytes " has readers" ++ (argument_text r.readers ++ (bytes ", writers" ++ argument_text r.writers))

abbrev pub says_text : ℕ → ClientFile → List ℕ
says_text i c = client_text i ++ (counts_text c.opens ++ (caches_text c.opens.caching ++ mark_text c.marked))

-- 22: "a report, alone .., breaks one of these"; `own` is what client i says of file f
abbrev pub untrue_text : ℕ → ℕ → ClientFile → List ℕ
untrue_text f i own = bytes "the report on" ++ (file_text f ++ (bytes " cannot be true: " ++ says_text i own))

-- "or with one accepted": `other` is what the server has accepted of client j
abbrev pub not_both_text : ℕ → ℕ → ClientFile → ℕ → ClientFile → List ℕ
not_both_text f i own j other =
    bytes "the reports on"
    ++ (file_text f ++ (bytes " cannot both be true: " ++ (says_text i own ++ (bytes "; " ++ says_text j other))))

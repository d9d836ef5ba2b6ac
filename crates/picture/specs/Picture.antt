-- The picture of the service at the end of what `explain` prints: "recovering or not and who has to report", the store,
-- the stations under embargo, the files, and the refusals by number. docs/EXPLAIN.md has an example.
use Rattle.std.specs.Prelude.{ℕ, zero, suc, Bool, cond, not, ◌||◌, List, [], ◌++◌, eqb, ltb}
use Rattle.records.specs.declared.record.ClientRecord.{ClientRecord}
use Rattle.records.specs.Record.{is_open}
use Rattle.sizes.specs.declared.sizes.Sizes.{Sizes}
use Rattle.decision.specs.Lists.{count}
use Rattle.decision.specs.State.{state_of}
use Rattle.protocol.specs.declared.client.ClientFile.{ClientFile}
use Rattle.protocol.specs.declared.client.Sides.{Sides}
use Rattle.protocol.specs.declared.entry.Entry.{Entry}
use Rattle.protocol.specs.Client.{side_of}
use Rattle.protocol.specs.Entry.{record_at, waits}
use Rattle.blocks.specs.declared.stores.Stores.{Stores}
use Rattle.blocks.specs.Stores.{held_in, dirty_in}
use Rattle.table.specs.declared.table.Table.{Table}
use Rattle.service.specs.Contents.{sizes_of, table_in, entry_at, free_of, embargoed_at, sides_at, stores_of}
use Rattle.stepfile.specs.Text.{bytes, argument_text}
use Rattle.stepfile.specs.Summary.{version_in, is_listed}
use Rattle.ledger.specs.declared.annotated.Annotated.{Annotated}
use Rattle.ledger.specs.declared.ledger.Ledger.{Ledger}
use Rattle.ledger.specs.Ledger.{copied_at, waiting_since, embargoed_since}
use Rattle.ledger.specs.Refusals.{refusal_numbers, times_refused}
use Rattle.phrases.specs.Phrase.{client_text, embargo_text, state_text, list_text}
use Rattle.phrases.specs.Accepted.{losses_text}
use Rattle.phrases.specs.Places.{places_text}
use Rattle.phrases.specs.Refusal.{missing_text, open_waits_text}

-- ---- the server

abbrev pub server_text : Sizes → Table → List ℕ
server_text z t =
    cond t.recovering
    (bytes "the server recovers" ++ missing_text z.clients t.reported t.embargoed)
    (bytes "the server runs")
    ++ bytes "\n"

-- ---- the store (document 02, Wish 13)

abbrev pub store_text : Sizes → List Bool → List Bool → List Bool → ℕ → List ℕ
store_text z used embargoed dirty free =
    places_text z used embargoed dirty ++ (bytes "; free:" ++ (argument_text free ++ bytes "\n"))

-- ---- the stations under embargo

-- what is lost of client i: "its dirty blocks and the cached writes it still makes" (document 02, Wish 9), each with
-- the line at which its copy was written
abbrev pub wasted_text : Sizes → Stores → Ledger → ℕ → List ℕ
wasted_text z a l i = losses_text (dirty_in a i) (copied_at l i) z.files z.blocks

abbrev pub aside_text : Sizes → Stores → Ledger → ℕ → ℕ → List ℕ
aside_text z a l i since =
    client_text i ++ (embargo_text since ++ (bytes "; writes lost:" ++ (wasted_text z a l i ++ bytes "\n")))

abbrev pub aside_if_text : Bool → Sizes → Stores → Ledger → ℕ → ℕ → List ℕ
aside_if_text aside z a l i since = cond aside (aside_text z a l i since) []

-- the clients below n, ascending
unfoldable pub asides_text : Annotated → ℕ → List ℕ
asides_text t zero = []
asides_text t (suc n) =
    let s = t.service in
    let l = t.ledger in
    asides_text t n ++ aside_if_text (embargoed_at s n) (sizes_of s) (stores_of s) l n (embargoed_since l n)

-- ---- a station, of one file

-- how many blocks of file f client i holds
abbrev pub held_blocks : Sizes → Stores → ℕ → ℕ → ℕ
held_blocks z a i f = count z.blocks (held_in a i f)

-- it has the file open, or holds a block of it
abbrev pub is_concerned : Sizes → Stores → ClientFile → ℕ → ℕ → Bool
is_concerned z a own i f = is_open own.opens || not (eqb (held_blocks z a i f) 0)

-- its counts and its permission, by its own record
abbrev pub opens_text : ClientRecord → List ℕ
opens_text r =
    bytes ": read opens"
    ++ (argument_text r.readers
    ++ (bytes ", write opens"
    ++ (argument_text r.writers ++ cond r.caching (bytes ", may cache") (bytes ", may not cache"))))

-- the blocks that it holds, and those that are dirty
abbrev pub copies_text : Sizes → Stores → ℕ → ℕ → List ℕ
copies_text z a i f =
    bytes "; blocks held:"
    ++ (list_text z.blocks (held_in a i f) ++ (bytes "; dirty:" ++ list_text z.blocks (dirty_in a i f)))

abbrev pub station_text : Sizes → Stores → ClientFile → ℕ → ℕ → List ℕ
station_text z a own i f =
    bytes "  " ++ (client_text i ++ (opens_text own.opens ++ (copies_text z a i f ++ bytes "\n")))

abbrev pub station_if_text : Sizes → Stores → Sides → ℕ → ℕ → List ℕ
station_if_text z a sides i f = cond (is_concerned z a (side_of sides i) i f) (station_text z a (side_of sides i) i f) []

-- the clients below n, ascending
unfoldable pub stations_text : Sizes → Stores → Sides → ℕ → ℕ → List ℕ
stations_text z a sides f zero = []
stations_text z a sides f (suc n) = stations_text z a sides f n ++ station_if_text z a sides n f

-- ---- a file

abbrev pub last_text : ℕ → ℕ → List ℕ
last_text n last = bytes "; last writer:" ++ cond (ltb last n) (argument_text last) (bytes " none")

abbrev pub head_text : ℕ → Entry → ℕ → List ℕ
head_text n e f =
    bytes "file"
    ++ (argument_text f
    ++ (bytes " is "
    ++ (state_text (state_of n (record_at e) e.last)
    ++ (bytes " at version" ++ (argument_text (version_in e) ++ (last_text n e.last ++ bytes "\n"))))))

-- the open that waits, in the words of refusal 9
abbrev pub wait_if_text : ℕ → Entry → ℕ → ℕ → List ℕ
wait_if_text n e f since = cond (waits n e) (bytes "  " ++ (open_waits_text n e f since ++ bytes "\n")) []

-- how many of the clients in force it concerns
abbrev pub concerned : Sizes → Stores → Sides → ℕ → ℕ
concerned z a sides f = count z.clients (λ i. is_concerned z a (side_of sides i) i f)

-- "not CLOSED at version 1", or a client has it open or holds a block of it
abbrev pub is_pictured : Sizes → Stores → Sides → Entry → ℕ → Bool
is_pictured z a sides e f = is_listed z.clients e || not (eqb (concerned z a sides f) 0)

abbrev pub file_text : Sizes → Stores → Sides → Entry → ℕ → ℕ → List ℕ
file_text z a sides e f since =
    head_text z.clients e f ++ (stations_text z a sides f z.clients ++ wait_if_text z.clients e f since)

abbrev pub file_if_text : Sizes → Stores → Sides → Entry → ℕ → ℕ → List ℕ
file_if_text z a sides e f since = cond (is_pictured z a sides e f) (file_text z a sides e f since) []

-- the files below k, ascending
unfoldable pub files_text : Annotated → ℕ → List ℕ
files_text t zero = []
files_text t (suc k) =
    let s = t.service in
    files_text t k ++ file_if_text (sizes_of s) (stores_of s) (sides_at s k) (entry_at s k) k (waiting_since t.ledger k)

-- ---- the refusals

abbrev pub refused_text : ℕ → ℕ → List ℕ
refused_text k times =
    cond (eqb times 0) []
    (bytes "refused with" ++ (argument_text k ++ (bytes ":" ++ (argument_text times ++ bytes "\n"))))

-- the numbers below k, ascending
unfoldable pub times_text : List ℕ → ℕ → List ℕ
times_text counts zero = []
times_text counts (suc k) = times_text counts k ++ refused_text k (times_refused counts k)

-- how many numbers were given
abbrev pub numbers_given : List ℕ → ℕ
numbers_given counts = count refusal_numbers (λ k. not (eqb (times_refused counts k) 0))

abbrev pub refusals_text : List ℕ → List ℕ
refusals_text counts =
    cond (eqb (numbers_given counts) 0) (bytes "nothing was refused\n") (times_text counts refusal_numbers)

-- ---- the whole

-- the last line, by which a script sees that the picture is whole
abbrev pub end_text : List ℕ
end_text = bytes "end of the picture\n"

unfoldable pub picture_text : Annotated → List ℕ
picture_text t =
    let s = t.service in
    server_text (sizes_of s) (table_in s)
    ++ (store_text (sizes_of s) s.server.used (table_in s).embargoed s.dirty (free_of s)
    ++ (asides_text t (sizes_of s).clients
    ++ (files_text t (sizes_of s).files ++ (refusals_text t.refusals ++ end_text))))

-- the room that the picture is given: more than it takes
abbrev pub picture_room : ℕ
picture_room = 620000

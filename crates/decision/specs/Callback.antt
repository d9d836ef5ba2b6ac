-- The callbacks (document 01: calls) that an open causes: "1 write-back, 2 invalidate, 3 both", 0 for none.
use Rattle.std.specs.Prelude.{ℕ, zero, suc, ◌<◌, ◌≡◌, Bool, cond, not, ◌&&◌, ◌||◌, List, [], ◌∷◌, ◌++◌, ◌↔◌, ◌≢◌, eqb, get_or}
use mathlib.Core.List.{Memᴰ as Member}
use Rattle.records.specs.declared.record.Mode.{Mode}
use Rattle.records.specs.declared.record.Mode.TheVariants.{Read, Write}
use Rattle.records.specs.declared.record.ClientRecord.{ClientRecord}
use Rattle.decision.specs.declared.state.FileState.{FileState}
use Rattle.decision.specs.declared.state.FileState.TheVariants.{Closed, ClosedDirty, OneReader, OneReaderDirty}
use Rattle.decision.specs.declared.state.FileState.TheVariants.{MultReaders, OneWriter, WriteShared}
use Rattle.decision.specs.Lists.{count, stored}
use Rattle.records.specs.Record.{is_open, keeps_permission}
use Rattle.decision.specs.State.{state_of}

-- a kind 1 or 3 writes back, a kind 2 or 3 invalidates, and 0 asks nothing
abbrev pub writes_back : ℕ → Bool
writes_back kind = eqb kind 1 || eqb kind 3

abbrev pub invalidates : ℕ → Bool
invalidates kind = eqb kind 2 || eqb kind 3

abbrev pub asks_nothing : ℕ → Bool
asks_nothing kind = eqb kind 0

-- The table of document 01, "Opening": what a client other than the opener is called for, from its record and whether
-- it is the last writer.
abbrev pub callback_kind : FileState → Mode → ClientRecord → Bool → ℕ
callback_kind Closed m r is_last = 0
callback_kind ClosedDirty Read r is_last = cond is_last 1 0
callback_kind ClosedDirty Write r is_last = cond is_last 3 0
callback_kind OneReaderDirty Read r is_last = cond is_last 1 0
callback_kind OneReaderDirty Write r is_last = cond is_last 3 0
callback_kind OneReader Read r is_last = 0
callback_kind OneReader Write r is_last = cond (is_open r) 2 0
callback_kind MultReaders Read r is_last = 0
callback_kind MultReaders Write r is_last = cond (is_open r) 2 0
callback_kind OneWriter m r is_last = cond (is_open r) 3 0
callback_kind WriteShared m r is_last = cond (is_open r && r.caching) 2 0

-- The callback that client i is due when the opener opens in the mode: none to the opener, and none where the opener
-- keeps its permission.
abbrev pub callback_due : ℕ → (ℕ → ClientRecord) → ℕ → ℕ → Mode → ℕ → ℕ
callback_due n r last opener mode i =
    cond (keeps_permission mode (r opener) || eqb i opener) 0 (callback_kind (state_of n r last) mode (r i) (eqb i last))

-- the callbacks that the open causes, one for each client, in the list l of kinds; what lies past the clients stays
abbrev pub callbacks_due : ℕ → (ℕ → ClientRecord) → ℕ → ℕ → Mode → List ℕ → List ℕ
callbacks_due n r last opener mode l = stored n (λ i. i) (callback_due n r last opener mode) l

-- how many clients the open calls
abbrev pub calls_caused : ℕ → (ℕ → ClientRecord) → ℕ → ℕ → Mode → ℕ
calls_caused n r last opener mode = count n (λ i. not (asks_nothing (callback_due n r last opener mode i)))

-- the callback to one client, as the client and the kind; none where the kind is 0
abbrev pub call_if : ℕ → ℕ → List (ℕ × ℕ)
call_if client kind = cond (asks_nothing kind) [] ((client, kind) ∷ [])

-- "They now go out, and are printed, in ascending station number" (document 02, Wish 1): the callbacks to the clients
-- below n, in the order in which they go out; from a kind for each client, as an outcome holds them.
unfoldable pub ordered_calls : ℕ → List ℕ → List (ℕ × ℕ)
ordered_calls zero kinds = []
ordered_calls (suc n) kinds = ordered_calls n kinds ++ call_if n (get_or kinds n 0)

-- What is promised of the list, for any number of clients and any kinds (`in_order`, proofs/CallOrder.antt): each
-- client is below all that follow, and the list holds exactly the clients that are called, each with its kind.
abbrev pub Ascending : List (ℕ × ℕ) → Type 0
Ascending [] = Unit {0}
Ascending (c ∷ cs) = ((later : ℕ × ℕ) → Member later cs → c.0 < later.0) × Ascending cs

pub record InOrder (n : ℕ) (kinds : List ℕ) : Type 0 where
  pub ascending : Ascending (ordered_calls n kinds)
  pub exactly :
      (client kind : ℕ)
      → Member (client, kind) (ordered_calls n kinds)
      ↔ ((client < n) × (kind ≡ get_or kinds client 0) × (kind ≢ 0))

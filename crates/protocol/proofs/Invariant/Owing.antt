-- Who is last writer, or marked, is marked and has no writers, running or not. It leads to the promises owes and
-- owes_still. Assumes nothing.
use Prim.Native.Nat.{ℕ, ◌<◌}
use mathlib.Core.Path.{◌≡◌, sym, subst}
use mathlib.Core.Bool.{Bool, true}
use mathlib.Core.Logic.{◌⊎◌, ⊎_elim}
use mathlib.Core.List.{List}
use Rattle.records.specs.declared.record.ClientRecord.{ClientRecord}
use Rattle.records.specs.declared.version.Version.{Version}
use Rattle.protocol.specs.declared.client.ClientFile.{ClientFile}
use Rattle.protocol.specs.Book.{History}
use Rattle.protocol.specs.Table.{Row}
use Rattle.protocol.proofs.View.{View}
use Rattle.protocol.proofs.Invariant.{has_writers, Clients, Agrees, Running, Recovering}

-- what a client owes, of one that is last writer or marked
abbrev Owes : (ℕ → ClientFile) → ℕ → ℕ → Type 0
Owes client last i =
    (last ≡ i) ⊎ ((client i).marked ≡ true) → ((client i).marked ≡ true) × (has_writers (client i) ≡ true → ⊥)

owes :
    {n : ℕ} {version : Version} {client : ℕ → ClientFile} {records : List ClientRecord} {last : ℕ} {heard : ℕ → Bool} (i : ℕ)
    → Clients n version client
    → Agrees n records last client heard
    → i < n
    → Owes client last i
owes {n} {client = client} {last = last} i clients table below x =
    let holder : last ≡ i → (client i).marked ≡ true =
    λ e. subst (λ j. (client j).marked ≡ true) e (table.last_writer.holder (subst (λ j. j < n) (sym e) below)) in
    let marked = ⊎_elim holder (λ m. m) x in
    (marked, (clients.own i).marked_excludes marked)

pub running_owes : (n : ℕ) (v : View) (k : History) (i : ℕ) → Running n v k → i < n → Owes v.client v.entry.last i
running_owes n v k i h below = owes i h.sound.clients h.table below

pub recovering_owes :
    (n : ℕ) (v : View) (k : History) (i : ℕ) (reported : ℕ → Bool) (row : Row)
    → Recovering n v k reported row
    → i < n
    → Owes v.client v.entry.last i
recovering_owes n v k i reported row h below = owes i h.sound.clients h.table below

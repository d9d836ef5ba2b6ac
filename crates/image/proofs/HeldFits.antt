-- Every service that a program holds fits its fields: what the logic knows of a value of the type, taken apart down to
-- the numbers. Assumes nothing.
use Prim.Native.Nat.{ℕ, zero, suc, ◌<◌}
use mathlib.Core.Path.{◌≡◌}
use mathlib.Core.List.{List, [], ◌∷◌}
use native.Mathlib.Omega.{arith}
use lib.ListN.{length, get_or}
use mir.Syntax.{w64}
use mir.Val.{Val}
use base.Fml.{Fml}
use denote.Array.{each}
use denote.Laws.{Is}
use denote.Shadow.{shadow}
use denote.Struct.Declared.{Declared, row}
use borrow.Author.Rules.{elem_Fits}
use Rattle.records.specs.Version.{number_of}
use Rattle.records.specs.Record.{not_open}
use Rattle.records.specs.contracts.record.ClientRecord as client_record
use Rattle.sizes.specs.Sizes.{max_clients, max_files, place}
use Rattle.protocol.specs.declared.entry.Entry.{Entry}
use Rattle.protocol.specs.Entry.{record_at}
use Rattle.protocol.specs.contracts.entry.Entry as entry_type
use Rattle.table.specs.TableStep.{no_entry}
use Rattle.service.specs.declared.service.Service.{Service}
use Rattle.service.specs.Contents.{table_in, entry_at}
use Rattle.service.specs.contracts.service.Service as service_type
use Rattle.image.specs.Fits.{Fits}

-- one element of an array, from what is known of each
each_at :
    (d : Type 0) (own : d → List Val → Fml) (l : List d) (us : List Val) (x : d) (i : ℕ)
    → shadow (each d own l us)
    → i < length l
    → (u : Val) × shadow (own (get_or l i x) (u ∷ []))
each_at d own [] us x i known h = absurd (omega arith)
each_at d own (y ∷ l) [] x i known h = absurd known
each_at d own (y ∷ l) (u ∷ us) x zero known h = (u, known.0)
each_at d own (y ∷ l) (u ∷ us) x (suc i) known h = each_at d own l us x i known.1 (omega arith)

-- an array of structs: what is known of one of them
module _
    (T : Declared)
    (l : List T.D)
    (n : ℕ)
    (us : List Val)
    (counted : length l ≡ n)
    (known : shadow (each T.D (row T).own_val l us)) where
  one : (x : T.D) (i : ℕ) → i < n → (u : Val) × Is (row T) (get_or l i x) (u ∷ [])
  one x i h =
      let inside : i < length l = rw counted h in
      each_at T.D (row T).own_val l us x i known inside

-- an entry
module _ (e : Entry) (vs : List Val) (known : Is (row entry_type.the_type) e vs) where
  entry_records : length e.records ≡ max_clients
  entry_records =
      let records = known.1.1.0 in
      records.1.0.1

  entry_version : number_of e.version < 4294967296
  entry_version = known.1.1.1.0.1.1.0.1

  entry_last : e.last < 256
  entry_last = known.1.1.1.1.0.1

  entry_counts : (i : ℕ) → i < max_clients → ((record_at e i).readers < 256) × ((record_at e i).writers < 256)
  entry_counts i h =
      let records = known.1.1.0 in
      let opens =
      one client_record.the_type e.records max_clients records.0 records.1.0.1 records.1.1 not_open i h in
      (opens.1.1.1.0.1, opens.1.1.1.1.0.1)

pub held_fits : (s : Service) (vs : List Val) → Is (row service_type.the_type) s vs → Fits s
held_fits s vs known =
    let server = known.1.1.1.0 in
    let table = server.1.1.0.1.1 in
    let files = table.0 in
    let embargoed = table.1.1.1.0 in
    let blocks = server.1.1.1.0 in
    let used = server.1.1.1.1.0 in
    let entry : (f : ℕ) → f < max_files → (u : Val) × Is (row entry_type.the_type) (entry_at s f) (u ∷ []) =
    one entry_type.the_type (table_in s).files max_files files.0 files.1.0.1 files.1.1 no_entry in
    record {
      entries = files.1.0.1;
      places = blocks.1.0.1;
      used = used.1.0.1;
      embargoes = embargoed.1.0.1;
      records = λ f hf. entry_records (entry_at s f) _ (entry f hf).1;
      version = λ f hf. entry_version (entry_at s f) _ (entry f hf).1;
      last = λ f hf. entry_last (entry_at s f) _ (entry f hf).1;
      readers = λ f i hf hi. (entry_counts (entry_at s f) _ (entry f hf).1 i hi).0;
      writers = λ f i hf hi. (entry_counts (entry_at s f) _ (entry f hf).1 i hi).1;
      block = λ f b hf hb. (elem_Fits w64 w64 s.server.blocks blocks.0 (place f b) blocks.1.1 tt).fits;
    }

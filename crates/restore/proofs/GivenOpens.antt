-- The opens that an image gives back are those of the server that was written. n is the number of clients. Assumes
-- nothing.
use Prim.Native.Nat.{ℕ, suc, ◌≤◌, ◌<◌}
use mathlib.Core.Path.{◌≡◌, refl, sym, ap, ◌∙◌}
use mathlib.Core.Bool.{Bool, true, false, cond}
use mathlib.Core.List.{List}
use native.Mathlib.Nat.{mod-eq_of_lt}
use native.Mathlib.Omega.{arith}
use lib.Dec.{ltb}
use lib.ListN.{length, get_or, set}
use lib.Seq.{set-get_or, set-set, get_or-set_same}
use Rattle.records.specs.declared.record.ClientRecord.{ClientRecord}
use Rattle.records.specs.Record.{not_open, is_open}
use Rattle.sizes.proofs.Choosing.{split}
use Rattle.sizes.specs.declared.sizes.Sizes.{Sizes}
use Rattle.sizes.specs.Sizes.{max_clients, max_files, Permitted}
use Rattle.decision.specs.Lists.{stored}
use Rattle.decision.proofs.Storing.{length_stored, get_d_stored_other}
use Rattle.protocol.specs.declared.entry.Entry.{Entry}
use Rattle.protocol.specs.Entry.{record_at}
use Rattle.table.specs.TableStep.{no_entry, entry_of}
use Rattle.image.specs.Image.{open_bytes, open_entry, file_opens, open_entries}
use Rattle.restore.specs.Decoded.{placed, record_of, with_open, put_open}
use Rattle.restore.proofs.Folding.{placed_if, placed_below}

-- what the image tells of a client's record: nothing, where it is not open
abbrev pub open_read : ClientRecord → ClientRecord
open_read r = cond (is_open r) r not_open

abbrev pub with_records : Entry → List ClientRecord → Entry
with_records x records =
    record {
      records = records;
      version = x.version;
      last = x.last;
      waiter = x.waiter;
      mode = x.mode;
      calls = x.calls;
    }

-- the records l, with those of n clients as the image tells them of the entry e; and an entry with these
abbrev pub opens_in : ℕ → Entry → List ClientRecord → List ClientRecord
opens_in n e l = stored n (λ i. i) (λ i. open_read (record_at e i)) l

abbrev pub with_opens : ℕ → Entry → Entry → Entry
with_opens n e x = with_records x (opens_in n e x.records)

record_bytes : (i f : ℕ) (r : ClientRecord) → record_of (open_bytes i f r) ≡ r
record_bytes i f r = λ k. record { readers = r.readers; writers = r.writers; caching = told r.caching k }
  where
    told : (b : Bool) → ltb 0 (cond b 1 0) ≡ b
    told true = refl
    told false = refl

-- the opens of file f, put into a list of entries in which that file has none
module _
    (n : ℕ)
    (most : n ≤ max_clients)
    (f : ℕ)
    (inside : f < max_files)
    (e : Entry)
    (l : List Entry)
    (long : length l ≡ max_files)
    (none : (i : ℕ) → i < n → record_at (entry_of l f) i ≡ not_open) where
  abbrev x : Entry
  x = entry_of l f

  abbrev state : ℕ → List Entry
  state k = set l f (with_opens k e x)

  state_here : (k : ℕ) → entry_of (state k) f ≡ with_opens k e x
  state_here k = get_or-set_same l f (with_opens k e x) no_entry (rw long inside)

  not_yet : (k : ℕ) → k < n → get_or (opens_in k e x.records) k not_open ≡ not_open
  not_yet k hk =
      get_d_stored_other k (λ i. i) (λ i. open_read (record_at e i)) x.records not_open k (λ j hj. omega arith)
      ∙ none k hk

  put_one : (k : ℕ) → k < n → placed put_open (open_entry k f (record_at e k)) (state k) ≡ state (suc k)
  unfolding stored
  put_one k hk =
      let r = record_at e k in
      let b = open_bytes k f r in
      let records = opens_in k e x.records in
      placed_if put_open (is_open r) b (state k)
      ∙ split (is_open r)
      (λ t.
      rw t
      (ap (λ g. set (state k) g (with_open b (entry_of (state k) g))) (mod-eq_of_lt inside)
      ∙ ap (λ y. set (state k) f (with_open b y)) (state_here k)
      ∙ set-set l f (with_opens k e x) (with_open b (with_opens k e x))
      ∙ ap (λ i. set l f (with_records x (set records i (record_of b))))
      (mod-eq_of_lt {n = k} {m = max_clients} (omega arith))
      ∙ ap (λ r. set l f (with_records x (set records k r))) (record_bytes k f r)))
      (λ t.
      rw t
      (ap (λ rs. set l f (with_records x rs))
      (sym (set-get_or records k not_open) ∙ ap (set records k) (not_yet k hk))))

  put_file_lem : placed put_open (file_opens n f e) l ≡ set l f (with_opens n e x)
  unfolding stored
  put_file_lem =
      ap (placed put_open (file_opens n f e)) (sym (set-get_or l f no_entry))
      ∙ placed_below put_open n (λ i. open_entry i f (record_at e i)) state put_one

-- all opens of the image, put into entries that have none
pub given_opens :
    {z : Sizes} (most : Permitted z) (entries l : List Entry)
    → length l ≡ max_files
    → ((f i : ℕ) → f < z.files → i < z.clients → record_at (entry_of l f) i ≡ not_open)
    → placed put_open (open_entries z entries) l
    ≡ stored z.files (λ f. f) (λ f. with_opens z.clients (entry_of entries f) (entry_of l f)) l
unfolding stored
given_opens {z} most entries l long none =
    let n = z.clients in
    let value : ℕ → Entry = λ f. with_opens n (entry_of entries f) (entry_of l f) in
    placed_below put_open z.files (λ f. file_opens n f (entry_of entries f)) (λ k. stored k (λ f. f) value l)
    (λ k hk.
    let few = most.files in
    let before = stored k (λ f. f) value l in
    let same : entry_of before k ≡ entry_of l k =
    get_d_stored_other k (λ f. f) value l no_entry k (λ j hj. omega arith) in
    put_file_lem n most.clients k (omega arith) (entry_of entries k) before
    (length_stored k (λ f. f) value l ∙ long)
    (λ i hi. ap (λ x. record_at x i) same ∙ none k i hk hi)
    ∙ ap (λ x. set before k (with_opens n (entry_of entries k) x)) same)

-- The row after the server's part in a client is stored, its record, the head and the callbacks. Assumes nothing.
use Prim.Native.Nat.{ℕ, ◌+◌, ◌*◌, ◌<◌, ◌≤◌}
use mathlib.Core.Path.{◌≡◌, sym, ap, ◌∙◌}
use mathlib.Core.List.{List}
use mathlib.Core.Logic.{◌≢◌}
use native.Mathlib.Omega.{arith}
use lib.Dec.{eqb}
use lib.ListN.{length, get_or, set, length-set}
use lib.Seq.{ext_get_or}
use borrow.Author.Tests.{eqb-true, eqb-false}
use Rattle.records.specs.Record.{not_open}
use Rattle.sizes.proofs.Choosing.{split}
use Rattle.sizes.specs.Sizes.{max_clients}
use Rattle.protocol.specs.declared.entry.Entry.{Entry}
use Rattle.protocol.specs.declared.shared.SharedFile.{SharedFile}
use Rattle.words.specs.Words.{record_held, side_held, calls_held, Head}
use Rattle.words.specs.Rows.{row_words, word_at, entry_held, sides_held, Puts}
use Rattle.words.proofs.Listing.{length_listed, get_d_listed, listed_agree}
use Rattle.words.proofs.Places.{stored_there, stored_beside, stored_elsewhere}
use Rattle.file.proofs.Leaving.{entry_stored}
use Rattle.file.proofs.WaitingRow.{wait_puts}

module _
    (t : List ℕ)
    (f i r : ℕ)
    (e : Entry)
    (there : i < max_clients)
    (fits : f * row_words + row_words ≤ length t)
    (long : length e.records ≡ max_clients)
    (known : record_held r ≡ get_or e.records i not_open)
    (others : (j : ℕ) → j < max_clients → j ≢ i → record_held (word_at t f (2 + j)) ≡ get_or e.records j not_open) where
  abbrev one : List ℕ
  one = set t (f * row_words + (2 + i)) r

  -- the entry that came, with the records of e
  abbrev pub known_entry : Entry
  known_entry =
      let came : Entry = entry_held t f in
      record {
        records = e.records;
        version = came.version;
        last = came.last;
        waiter = came.waiter;
        mode = came.mode;
        calls = came.calls;
      }

  record_there : (j : ℕ) → j < max_clients → record_held (word_at one f (2 + j)) ≡ get_or e.records j not_open
  record_there j lt =
      split (eqb j i)
      (λ e. rw (eqb-true j i e) (ap record_held (stored_there t f (2 + i) r (omega arith)) ∙ known))
      (λ e.
      ap record_held (stored_beside t f (2 + i) r (2 + j) (λ same. eqb-false j i e (omega (arith, same))))
      ∙ others j lt (eqb-false j i e))

  pub record_puts : Puts f (record { entry = known_entry; sides = sides_held t f }) t one
  record_puts =
      let size = length_listed max_clients (λ j. record_held (word_at one f (2 + j))) in
      let records : (entry_held one f).records ≡ e.records =
      ext_get_or not_open _ _ (size ∙ sym long)
      (λ j lt.
      let below : j < max_clients = omega (arith, lt, size) in
      get_d_listed max_clients (λ j. record_held (word_at one f (2 + j))) not_open j below ∙ record_there j below) in
      record {
        long = length-set t (f * row_words + (2 + i)) r;
        here =
            rw (
              stored_beside t f (2 + i) r 1 (λ e. omega arith),
              stored_beside t f (2 + i) r 18 (λ e. omega arith),
              records,
              listed_agree max_clients (λ j. side_held (word_at one f (10 + j))) (λ j. side_held (word_at t f (10 + j)))
                  (λ j lt. ap side_held (stored_beside t f (2 + i) r (10 + j) (λ e. omega arith))),
            );
        beside = λ g j off lt. stored_elsewhere t f (2 + i) r g j (omega arith) lt off;
      }

  -- e has the records that the row then holds
  pub records_there : e.records ≡ (entry_held one f).records
  records_there = sym (ap (λ (x : SharedFile). x.entry.records) record_puts.here)

  pub known_puts :
      (h k : ℕ)
      → Head h e.version e.last e.waiter e.mode
      → calls_held k ≡ e.calls
      → Puts f (record { entry = e; sides = sides_held t f }) t
      (set (set one (f * row_words + 1) h) (f * row_words + 18) k)
  known_puts h k head calls =
      entry_stored record_puts
      (wait_puts one f h k e (omega (arith, fits, record_puts.long)) records_there head calls)

-- A client's own part in a file, stored in its row: its record, the head, the callbacks and its side. Assumes nothing.
use Prim.Native.Nat.{ℕ, ◌+◌, ◌*◌, ◌<◌, ◌≤◌}
use mathlib.Core.Path.{◌≡◌, sym, ◌∙◌}
use mathlib.Core.List.{List}
use mathlib.Core.Logic.{◌≢◌}
use native.Mathlib.Omega.{arith}
use lib.Dec.{eqb}
use lib.ListN.{length, get_or, set, length-set}
use lib.Seq.{ext_get_or, get_or-set_same, get_or-set_other}
use borrow.Author.Tests.{eqb-true, eqb-false}
use Rattle.records.specs.Record.{not_open}
use Rattle.sizes.proofs.Choosing.{split}
use Rattle.sizes.specs.Sizes.{max_clients}
use Rattle.protocol.specs.declared.client.ClientFile.{ClientFile}
use Rattle.protocol.specs.declared.entry.Entry.{Entry}
use Rattle.protocol.specs.Client.{with_side}
use Rattle.words.specs.Words.{record_held, side_held, calls_held, Head}
use Rattle.words.specs.Rows.{row_words, word_at, entry_held, sides_held, Puts}
use Rattle.words.proofs.Listing.{length_listed, get_d_listed}
use Rattle.words.proofs.Places.{stored_there, stored_beside, stored_elsewhere}
use Rattle.words.proofs.Changing.{Changed, changed_held}

module _ (t : List ℕ) (f i r h k s : ℕ) (there : i < max_clients) (fits : f * row_words + row_words ≤ length t) where
  abbrev one : List ℕ
  one = set t (f * row_words + (2 + i)) r

  abbrev two : List ℕ
  two = set one (f * row_words + 1) h

  abbrev three : List ℕ
  three = set two (f * row_words + 18) k

  abbrev four : List ℕ
  four = set three (f * row_words + (10 + i)) s

  changed_four : Changed t four f i h k r s
  changed_four =
      let long₁ : length one ≡ length t = length-set t (f * row_words + (2 + i)) r in
      let long₂ : length two ≡ length one = length-set one (f * row_words + 1) h in
      let long₃ : length three ≡ length two = length-set two (f * row_words + 18) k in
      record {
        head =
            stored_beside three f (10 + i) s 1 (λ e. omega arith)
            ∙ stored_beside two f 18 k 1 (λ e. omega arith)
            ∙ stored_there one f 1 h (omega arith);
        calls = stored_beside three f (10 + i) s 18 (λ e. omega arith) ∙ stored_there two f 18 k (omega arith);
        known =
            stored_beside three f (10 + i) s (2 + i) (λ e. omega arith)
            ∙ stored_beside two f 18 k (2 + i) (λ e. omega arith)
            ∙ stored_beside one f 1 h (2 + i) (λ e. omega arith)
            ∙ stored_there t f (2 + i) r (omega arith);
        side = stored_there three f (10 + i) s (omega arith);
        rest =
            λ j a b c d.
            stored_beside three f (10 + i) s j d
            ∙ stored_beside two f 18 k j b
            ∙ stored_beside one f 1 h j a
            ∙ stored_beside t f (2 + i) r j c;
      }

  pub own_put :
      (e : Entry) (own : ClientFile)
      → length e.records ≡ max_clients
      → record_held r ≡ get_or e.records i not_open
      → Head h e.version e.last e.waiter e.mode
      → calls_held k ≡ e.calls
      → side_held s ≡ own
      → ((j : ℕ) → j < max_clients → j ≢ i → record_held (word_at t f (2 + j)) ≡ get_or e.records j not_open)
      → Puts f (record { entry = e; sides = with_side (sides_held t f) i own }) t four
  own_put e own long known head calls side others =
      let records : set (entry_held t f).records i (record_held r) ≡ e.records =
      let size : length (set (entry_held t f).records i (record_held r)) ≡ max_clients =
      length-set (entry_held t f).records i (record_held r) ∙ length_listed max_clients (λ j. record_held (word_at t f (2 + j))) in
      ext_get_or not_open _ _ (size ∙ sym long)
      (λ j lt.
      let below : j < max_clients = omega (arith, lt, size) in
      split (eqb j i)
      (λ e.
      rw (eqb-true j i e)
      (get_or-set_same (entry_held t f).records i (record_held r) not_open
      (omega (arith, there, length_listed max_clients (λ j. record_held (word_at t f (2 + j)))))
      ∙ known))
      (λ e.
      get_or-set_other (entry_held t f).records i j (record_held r) not_open (eqb-false j i e)
      ∙ get_d_listed max_clients (λ j. record_held (word_at t f (2 + j))) not_open j below
      ∙ others j below (eqb-false j i e))) in
      record {
        long = simp length-set;
        here =
            changed_held t four f i h k r s there changed_four
            ∙ rw (records, head.version, head.last, head.waiter, head.mode, calls, side);
        beside =
            λ g j off lt.
            stored_elsewhere three f (10 + i) s g j (omega arith) lt off
            ∙ stored_elsewhere two f 18 k g j (omega arith) lt off
            ∙ stored_elsewhere one f 1 h g j (omega arith) lt off
            ∙ stored_elsewhere t f (2 + i) r g j (omega arith) lt off;
      }

-- A step that changes one client's record and side, the head and the callbacks of a file, in its row. Assumes nothing.
use Prim.Native.Nat.{ℕ, ◌+◌, ◌*◌, ◌<◌, ◌≤◌}
use mathlib.Core.Path.{◌≡◌, ap, ◌∙◌}
use mathlib.Core.Bool.{Bool, cond}
use mathlib.Core.List.{List}
use mathlib.Core.Logic.{◌≢◌}
use native.Mathlib.Omega.{arith}
use lib.ListN.{length, set, length-set}
use lib.Seq.{set-get_or}
use Rattle.records.specs.declared.record.Mode.{Mode}
use Rattle.records.specs.Record.{not_open, closed, ends_writing}
use Rattle.sizes.specs.Sizes.{max_clients, nobody}
use Rattle.protocol.specs.Client.{no_client, side_of, with_side, closed_client}
use Rattle.protocol.specs.Entry.{record_at, closed_entry, reported_entry}
use Rattle.protocol.specs.declared.shared.SharedFile.{SharedFile}
use Rattle.words.specs.Words.{record_held, side_held, version_held, last_held, waiter_held, mode_held, calls_held, Head}
use Rattle.words.specs.Rows.{row_words, word_at, head_at, entry_held, sides_held, file_held, Beside}
use Rattle.words.proofs.Listing.{get_d_listed, listed_set}
use Rattle.words.proofs.Places.{stored_there, stored_beside, stored_elsewhere}

-- the words of the row of file f in t, where all but four are as in t₀
pub record Changed (t₀ t : List ℕ) (f i h k r s : ℕ) : Type 0 where
  pub head : word_at t f 1 ≡ h
  pub calls : word_at t f 18 ≡ k
  pub known : word_at t f (2 + i) ≡ r
  pub side : word_at t f (10 + i) ≡ s
  pub rest : (j : ℕ) → j ≢ 1 → j ≢ 18 → j ≢ 2 + i → j ≢ 10 + i → word_at t f j ≡ word_at t₀ f j

-- the file that such a row holds
abbrev pub file_with : List ℕ → ℕ → ℕ → ℕ → ℕ → ℕ → ℕ → SharedFile
file_with t₀ f i h k r s =
    record {
      entry =
          record {
            records = set (entry_held t₀ f).records i (record_held r);
            version = version_held h;
            last = last_held h;
            waiter = waiter_held h;
            mode = mode_held h;
            calls = calls_held k;
          };
      sides = record { of = set (sides_held t₀ f).of i (side_held s) };
    }

pub changed_held : (t₀ t : List ℕ) (f i h k r s : ℕ) → i < max_clients → Changed t₀ t f i h k r s → file_held t f ≡ file_with t₀ f i h k r s
changed_held t₀ t f i h k r s there c =
    rw (
      c.head,
      c.calls,
      listed_set max_clients (λ j. record_held (word_at t₀ f (2 + j))) (λ j. record_held (word_at t f (2 + j))) i (record_held r) there
          (ap record_held c.known)
          (λ j lt off. ap record_held (c.rest (2 + j) (λ e. omega arith) (λ e. omega arith) (λ e. off (omega arith)) (λ e. omega arith))),
      listed_set max_clients (λ j. side_held (word_at t₀ f (10 + j))) (λ j. side_held (word_at t f (10 + j))) i (side_held s) there
          (ap side_held c.side)
          (λ j lt off. ap side_held (c.rest (10 + j) (λ e. omega arith) (λ e. omega arith) (λ e. omega arith) (λ e. off (omega arith)))),
    )

-- the record and the side of a client, as the row holds them
pub known_held_lem : (t : List ℕ) (f i : ℕ) → i < max_clients → record_at (entry_held t f) i ≡ record_held (word_at t f (2 + i))
known_held_lem t f i h = get_d_listed max_clients (λ j. record_held (word_at t f (2 + j))) not_open i h

pub side_held_lem : (t : List ℕ) (f i : ℕ) → i < max_clients → side_of (sides_held t f) i ≡ side_held (word_at t f (10 + i))
side_held_lem t f i h = get_d_listed max_clients (λ j. side_held (word_at t f (10 + j))) no_client i h

-- ---- a record, the head and a side, stored one after the other

abbrev pub stored_three : List ℕ → ℕ → ℕ → ℕ → ℕ → ℕ → List ℕ
stored_three t f i r h s =
    set (set (set t (f * row_words + (2 + i)) r) (f * row_words + 1) h) (f * row_words + (10 + i)) s

module _ (t : List ℕ) (f i r h s : ℕ) (there : i < max_clients) (fits : f * row_words + row_words ≤ length t) where
  abbrev one : List ℕ
  one = set t (f * row_words + (2 + i)) r

  abbrev two : List ℕ
  two = set one (f * row_words + 1) h

  pub changed_three : Changed t (stored_three t f i r h s) f i h (word_at t f 18) r s
  changed_three =
      let long₁ : length one ≡ length t = length-set t (f * row_words + (2 + i)) r in
      let long₂ : length two ≡ length t = length-set one (f * row_words + 1) h ∙ long₁ in
      record {
        head =
            stored_beside two f (10 + i) s 1 (λ e. omega arith) ∙ stored_there one f 1 h (omega arith);
        calls =
            stored_beside two f (10 + i) s 18 (λ e. omega arith)
            ∙ stored_beside one f 1 h 18 (λ e. omega arith)
            ∙ stored_beside t f (2 + i) r 18 (λ e. omega arith);
        known =
            stored_beside two f (10 + i) s (2 + i) (λ e. omega arith)
            ∙ stored_beside one f 1 h (2 + i) (λ e. omega arith)
            ∙ stored_there t f (2 + i) r (omega arith);
        side = stored_there two f (10 + i) s (omega arith);
        rest =
            λ j a b c d.
            stored_beside two f (10 + i) s j d ∙ stored_beside one f 1 h j a ∙ stored_beside t f (2 + i) r j c;
      }

  pub beside_three : Beside f t (stored_three t f i r h s)
  beside_three g j off lt =
      stored_elsewhere two f (10 + i) s g j (omega arith) lt off
      ∙ stored_elsewhere one f 1 h g j (omega arith) lt off
      ∙ stored_elsewhere t f (2 + i) r g j (omega arith) lt off

  -- a close
  pub closed_held :
      (who : ℕ) (mode : Mode) (dirty : Bool)
      → i ≡ who
      → record_held r ≡ closed mode (record_held (word_at t f (2 + i)))
      → Head h (version_held (head_at t f))
      (cond (ends_writing mode (record_held (word_at t f (2 + i)))) (cond dirty who nobody) (last_held (head_at t f)))
      (waiter_held (head_at t f))
      (mode_held (head_at t f))
      → side_held s ≡ closed_client mode dirty (side_held (word_at t f (10 + i)))
      → file_held (stored_three t f i r h s) f
      ≡ record {
        entry = closed_entry (entry_held t f) who mode dirty;
        sides = with_side (sides_held t f) who (closed_client mode dirty (side_of (sides_held t f) who));
      }
  closed_held who mode dirty is known head side =
      changed_held t (stored_three t f i r h s) f i h (word_at t f 18) r s there changed_three
      ∙ rw (
        known,
        head.version,
        head.last,
        head.waiter,
        head.mode,
        side,
        ← is,
        known_held_lem t f i there,
        side_held_lem t f i there,
      )

  -- a report: the record and, where the side is marked, the last writer; the side stays
  pub reported_held_lem :
      record_held r ≡ (side_held (word_at t f (10 + i))).opens
      → Head h (version_held (head_at t f))
      (cond (side_held (word_at t f (10 + i))).marked i (last_held (head_at t f)))
      (waiter_held (head_at t f))
      (mode_held (head_at t f))
      → side_held s ≡ side_held (word_at t f (10 + i))
      → file_held (stored_three t f i r h s) f
      ≡ record { entry = reported_entry (entry_held t f) i (side_held (word_at t f (10 + i))); sides = sides_held t f }
  reported_held_lem known head side =
      changed_held t (stored_three t f i r h s) f i h (word_at t f 18) r s there changed_three
      ∙ rw (known, head.version, head.last, head.waiter, head.mode, side, ← side_held_lem t f i there, set-get_or)

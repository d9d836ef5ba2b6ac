-- The files of a service, stored row after row, and the word after the rows. Assumes nothing.
use Prim.Native.Nat.{ℕ, ◌+◌, ◌*◌, ◌≤◌, ◌<◌}
use mathlib.Core.Path.{◌≡◌, refl, ap, ◌∙◌}
use mathlib.Core.Bool.{Bool}
use mathlib.Core.List.{List}
use mathlib.Core.Logic.{⊎_elim}
use native.Mathlib.Nat.{eq-or-lt_of_le, le_of_suc-le-suc}
use native.Mathlib.Numerals.{add-one}
use native.Mathlib.Omega.{arith}
use lib.ListN.{length, set, take, length-set}
use lib.Seq.{get_or-set_same, get_or-set_other}
use Rattle.sizes.specs.Sizes.{max_files}
use Rattle.protocol.specs.declared.client.Sides.{Sides}
use Rattle.protocol.specs.declared.entry.Entry.{Entry}
use Rattle.protocol.specs.declared.shared.SharedFile.{SharedFile}
use Rattle.table.specs.TableStep.{no_entry, no_sides, entry_of, sides_in}
use Rattle.words.specs.Rows.{listed, row_words, table_rows, table_words, word_at, entry_held, sides_held, file_held, Puts}
use Rattle.words.proofs.Listing.{listed_agree}
use Rattle.words.proofs.Places.{others_held, same_row}
use Rattle.service.specs.Lent.{state_flags, recovering_held, reported_held, embargoed_held, free_held}
use Rattle.service.proofs.Copying.{listed_get_d}
use Rattle.service.proofs.LentFlags.{state_held_lem}

-- the file of these lists
abbrev pub file_of : List Entry → List Sides → ℕ → SharedFile
file_of files clients f = record { entry = entry_of files f; sides = sides_in clients f }

-- n rows are stored
pub record RowsHeld (files : List Entry) (clients : List Sides) (t₀ t : List ℕ) (n : ℕ) : Type 0 where
  pub passed : n ≤ max_files
  pub long : length t ≡ length t₀
  pub rows : (f : ℕ) → f < n → file_held t f ≡ file_of files clients f

module _ {files : List Entry} {clients : List Sides} {t₀ : List ℕ} where
  pub rows_none : RowsHeld files clients t₀ t₀ 0
  rows_none = record { passed = omega arith; long = refl; rows = λ f h. absurd (omega arith) }

  pub rows_more :
      {t t' : List ℕ} {n : ℕ}
      → RowsHeld files clients t₀ t n
      → n < max_files
      → Puts n (file_of files clients n) t t'
      → RowsHeld files clients t₀ t' (n + 1)
  rows_more {t} {t'} {n} c more p =
      record {
        passed = omega arith;
        long = p.long ∙ c.long;
        rows =
            λ f h.
            ⊎_elim
            (λ (e : f ≡ n). rw e p.here)
            (λ (less : f < n). others_held p f (λ e. omega arith) ∙ c.rows f less)
            (eq-or-lt_of_le (le_of_suc-le-suc (rw add-one at h)));
      }

  pub rows_all :
      {t : List ℕ} {n : ℕ}
      → RowsHeld files clients t₀ t n
      → max_files ≤ n
      → length files ≡ max_files
      → length clients ≡ max_files
      → (listed max_files (λ f. entry_held t f) ≡ files) × (listed max_files (λ f. sides_held t f) ≡ clients)
  rows_all {t} {n} c past many size = (
    listed_agree max_files (λ f. entry_held t f) (λ f. entry_of files f)
        (λ f h. ap (λ (x : SharedFile). x.entry) (c.rows f (omega arith)))
        ∙ listed_get_d max_files no_entry files many,
    listed_agree max_files (λ f. sides_held t f) (λ f. sides_in clients f)
        (λ f h. ap (λ (x : SharedFile). x.sides) (c.rows f (omega arith)))
        ∙ listed_get_d max_files no_sides clients size,
  )

-- ---- the word after the rows: the number of free places

-- a store there changes no word of a row
pub free_beside :
    (t : List ℕ) (v g k : ℕ) → g < max_files → k < row_words → word_at (set t table_rows v) g k ≡ word_at t g k
free_beside t v g k hg hk = get_or-set_other t table_rows (g * row_words + k) v 0 (λ e. omega arith)

pub free_there : (t : List ℕ) (v : ℕ) → length t ≡ table_words → free_held (set t table_rows v) ≡ v
free_there t v long = get_or-set_same t table_rows v 0 (omega (arith, long))

-- so each row holds the same file
pub free_file : (t : List ℕ) (v g : ℕ) → g < max_files → file_held (set t table_rows v) g ≡ file_held t g
free_file t v g h = same_row (set t table_rows v) t g (λ k l. free_beside t v g k h l)

-- and all rows the same entries and the same sides
pub free_entries :
    (t : List ℕ) (v : ℕ)
    → listed max_files (λ f. entry_held (set t table_rows v) f) ≡ listed max_files (λ f. entry_held t f)
free_entries t v =
    listed_agree max_files (λ f. entry_held (set t table_rows v) f) (λ f. entry_held t f)
    (λ f h. ap (λ (x : SharedFile). x.entry) (free_file t v f h))

pub free_sides :
    (t : List ℕ) (v : ℕ)
    → listed max_files (λ f. sides_held (set t table_rows v) f) ≡ listed max_files (λ f. sides_held t f)
free_sides t v =
    listed_agree max_files (λ f. sides_held (set t table_rows v) f) (λ f. sides_held t f)
    (λ f h. ap (λ (x : SharedFile). x.sides) (free_file t v f h))

-- the table and the flags, once the used blocks and the number of free places are stored: all else is as it was
pub record SpaceHeld (t t' : List ℕ) (flags flags' : List Bool) (number : ℕ) : Type 0 where
  pub long : length t' ≡ table_words
  pub entries : listed max_files (λ f. entry_held t' f) ≡ listed max_files (λ f. entry_held t f)
  pub sides : listed max_files (λ f. sides_held t' f) ≡ listed max_files (λ f. sides_held t f)
  pub free : free_held t' ≡ number
  pub recovering : recovering_held flags' ≡ recovering_held flags
  pub reported : reported_held flags' ≡ reported_held flags
  pub embargoed : embargoed_held flags' ≡ embargoed_held flags

pub space_held :
    (t t' : List ℕ) (flags flags' : List Bool) (number : ℕ)
    → length t ≡ table_words
    → t' ≡ set t table_rows number
    → take state_flags flags' ≡ take state_flags flags
    → SpaceHeld t t' flags flags' number
space_held t t' flags flags' number long e same =
    let (recovers, reports, embargoes) = state_held_lem flags' flags same in
    record {
      long = ap (λ (x : List ℕ). length x) e ∙ length-set t table_rows number ∙ long;
      entries = ap (λ (x : List ℕ). listed max_files (λ f. entry_held x f)) e ∙ free_entries t number;
      sides = ap (λ (x : List ℕ). listed max_files (λ f. sides_held x f)) e ∙ free_sides t number;
      free = ap (λ (x : List ℕ). free_held x) e ∙ free_there t number long;
      recovering = recovers;
      reported = reports;
      embargoed = embargoes;
    }

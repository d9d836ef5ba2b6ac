-- What a step on the whole table leaves in the lent rows.
use Rattle.std.specs.Prelude.{ℕ, ◌+◌, ◌≤◌, ◌<◌, ◌≡◌, List, length}
use Rattle.sizes.specs.declared.sizes.Sizes.{Sizes}
use Rattle.sizes.specs.Sizes.{max_files}
use Rattle.protocol.specs.declared.entry.Entry.{Entry}
use Rattle.words.specs.Rows.{listed, row_words, word_at, entry_held, sides_held, Beside}
use Rattle.table.specs.declared.recovery.Sweep.{Sweep}
use Rattle.table.specs.declared.recovery.Sweep.TheVariants.{Stay}
use Rattle.table.specs.Recovery.{files_after}

-- every word of the clients' sides of file f is as it came
abbrev pub SidesStay : ℕ → List ℕ → List ℕ → Type 0
SidesStay f t₀ t = (k : ℕ) → 10 ≤ k → k < 18 → word_at t f k ≡ word_at t₀ f k

-- every word of the rows from n on is as it came
abbrev pub Past : ℕ → List ℕ → List ℕ → Type 0
Past n t₀ t = (g k : ℕ) → n ≤ g → k < row_words → word_at t g k ≡ word_at t₀ g k

-- the first i records of row f are cleared; the head, the words past them and all other rows are as they came
pub record Cleared (f : ℕ) (t₀ t : List ℕ) (i : ℕ) : Type 0 where
  pub long : length t ≡ length t₀
  pub cleared : (j : ℕ) → j < i → word_at t f (2 + j) ≡ 0
  pub head : word_at t f 1 ≡ word_at t₀ f 1
  pub past : (j : ℕ) → 2 + i ≤ j → word_at t f j ≡ word_at t₀ f j
  pub beside : Beside f t₀ t

-- row f holds this entry; the clients' sides of it and all other rows are as they came
pub record PutsEntry (f : ℕ) (e : Entry) (t₀ t : List ℕ) : Type 0 where
  pub long : length t ≡ length t₀
  pub entry : entry_held t f ≡ e
  pub sides : SidesStay f t₀ t
  pub beside : Beside f t₀ t

-- the first n rows hold these entries; the clients' sides and all other rows are as they came
pub record Sweeps (n : ℕ) (e : ℕ → Entry) (t₀ t : List ℕ) : Type 0 where
  pub long : length t ≡ length t₀
  pub swept : (f : ℕ) → f < n → entry_held t f ≡ e f
  pub sides : (f : ℕ) → SidesStay f t₀ t
  pub past : Past n t₀ t

-- the entries have done what the step on the table tells; the clients' sides and what lies past the files in force are
-- as they came
pub record Swept (z : Sizes) (sweep : Sweep) (t₀ t : List ℕ) : Type 0 where
  pub long : length t ≡ length t₀
  pub stays : sweep ≡ Stay → t ≡ t₀
  pub files :
      listed max_files (λ f. entry_held t f)
      ≡ files_after z sweep (listed max_files (λ f. entry_held t₀ f)) (listed max_files (λ f. sides_held t₀ f))
  pub sides : (f : ℕ) → SidesStay f t₀ t
  pub past : Past z.files t₀ t

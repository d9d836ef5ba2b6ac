-- The file that a row of the lent table means. Every list of numbers means a file in each row.
use Rattle.std.specs.Prelude.{ℕ, zero, suc, ◌+◌, ◌*◌, ◌<◌, ◌≡◌, List, [], ◌∷◌, ◌≢◌, length, get_or}
use Rattle.sizes.specs.Sizes.{max_clients, max_files}
use Rattle.protocol.specs.declared.client.Sides.{Sides}
use Rattle.protocol.specs.declared.entry.Entry.{Entry}
use Rattle.protocol.specs.declared.shared.SharedFile.{SharedFile}
use Rattle.words.specs.Words.{record_held, side_held, version_held, last_held, waiter_held, mode_held, calls_held}

-- a list of n, by place
unfoldable pub listed {ℓ} : {A : Type ℓ} → ℕ → (ℕ → A) → List A
listed zero g = []
listed (suc n) g = g 0 ∷ listed n (λ i. g (suc i))

-- word k of the row of file f
abbrev pub row_words : ℕ
row_words = 24

-- how many words the rows have, and the table: one stands after them
abbrev pub table_rows : ℕ
table_rows = max_files * row_words

abbrev pub table_words : ℕ
table_words = table_rows + 1

abbrev pub word_at : List ℕ → ℕ → ℕ → ℕ
word_at t f k = get_or t (f * row_words + k) 0

abbrev pub head_at : List ℕ → ℕ → ℕ
head_at t f = word_at t f 1

abbrev pub entry_held : List ℕ → ℕ → Entry
entry_held t f =
    record {
      records = listed max_clients (λ i. record_held (word_at t f (2 + i)));
      version = version_held (head_at t f);
      last = last_held (head_at t f);
      waiter = waiter_held (head_at t f);
      mode = mode_held (head_at t f);
      calls = calls_held (word_at t f 18);
    }

abbrev pub sides_held : List ℕ → ℕ → Sides
sides_held t f = record { of = listed max_clients (λ i. side_held (word_at t f (10 + i))) }

abbrev pub file_held : List ℕ → ℕ → SharedFile
file_held t f = record { entry = entry_held t f; sides = sides_held t f }

-- every word of the rows of the other files is as it came
abbrev pub Beside : ℕ → List ℕ → List ℕ → Type 0
Beside f t₀ t = (g k : ℕ) → g ≢ f → k < row_words → word_at t g k ≡ word_at t₀ g k

-- the table t holds the file x in row f, and has every other row, word for word, as in the table t₀ that came
pub record Puts (f : ℕ) (x : SharedFile) (t₀ t : List ℕ) : Type 0 where
  pub long : length t ≡ length t₀
  pub here : file_held t f ≡ x
  pub beside : Beside f t₀ t

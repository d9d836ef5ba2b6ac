-- A store into a row: what stands there, beside it and in the other rows. Assumes nothing.
use Prim.Native.Nat.{ℕ, ◌+◌, ◌*◌, ◌<◌}
use mathlib.Core.Path.{◌≡◌, ap}
use mathlib.Core.List.{List}
use mathlib.Core.Logic.{◌≢◌}
use native.Mathlib.Omega.{arith}
use lib.ListN.{length, set}
use lib.Seq.{get_or-set_same, get_or-set_other}
use Rattle.sizes.specs.Sizes.{max_clients}
use Rattle.protocol.specs.declared.shared.SharedFile.{SharedFile}
use Rattle.words.specs.Words.{record_held, side_held}
use Rattle.words.specs.Rows.{row_words, word_at, file_held, Beside, Puts}
use Rattle.words.proofs.Listing.{listed_agree}

module _ (t : List ℕ) (f k v : ℕ) where
  pub stored_there : f * row_words + k < length t → word_at (set t (f * row_words + k) v) f k ≡ v
  stored_there h = get_or-set_same t (f * row_words + k) v 0 h

  pub stored_beside : (j : ℕ) → j ≢ k → word_at (set t (f * row_words + k) v) f j ≡ word_at t f j
  stored_beside j off = get_or-set_other t (f * row_words + k) (f * row_words + j) v 0 (λ e. off (omega arith))

  pub stored_elsewhere :
      (g j : ℕ) → k < row_words → j < row_words → g ≢ f → word_at (set t (f * row_words + k) v) g j ≡ word_at t g j
  stored_elsewhere g j hk hj off =
      get_or-set_other t (f * row_words + k) (g * row_words + j) v 0 (λ e. off (omega arith))

-- rows whose words are alike hold the same file
pub same_row :
    (t t₀ : List ℕ) (g : ℕ) → ((j : ℕ) → j < row_words → word_at t g j ≡ word_at t₀ g j) → file_held t g ≡ file_held t₀ g
same_row t t₀ g same =
    rw (
      same 1 (omega arith),
      same 18 (omega arith),
      listed_agree max_clients (λ i. record_held (word_at t g (2 + i))) (λ i. record_held (word_at t₀ g (2 + i)))
          (λ i h. ap record_held (same (2 + i) (omega arith))),
      listed_agree max_clients (λ i. side_held (word_at t g (10 + i))) (λ i. side_held (word_at t₀ g (10 + i)))
          (λ i h. ap side_held (same (10 + i) (omega arith))),
    )

pub beside_held : (f : ℕ) (t₀ t : List ℕ) → Beside f t₀ t → (g : ℕ) → g ≢ f → file_held t g ≡ file_held t₀ g
beside_held f t₀ t same g off = same_row t t₀ g (λ j lt. same g j off lt)

pub others_held : {f : ℕ} {x : SharedFile} {t₀ t : List ℕ} → Puts f x t₀ t → (g : ℕ) → g ≢ f → file_held t g ≡ file_held t₀ g
others_held {f} {x} {t₀} {t} p = beside_held f t₀ t p.beside

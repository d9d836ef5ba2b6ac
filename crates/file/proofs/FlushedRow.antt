-- The row after a flush: the head and the client's side are others. Assumes nothing.
use Prim.Native.Nat.{ℕ, ◌+◌, ◌*◌, ◌<◌, ◌≤◌}
use mathlib.Core.Path.{◌≡◌, ◌∙◌, subst}
use mathlib.Core.Bool.{Bool, cond, not, ◌&&◌}
use mathlib.Core.List.{List}
use lib.Dec.{eqb}
use lib.ListN.{length, set, length-set}
use lib.Seq.{set-get_or}
use Rattle.sizes.specs.Sizes.{max_clients, nobody}
use Rattle.protocol.specs.Client.{flushed_client}
use Rattle.words.specs.Words.{side_held, version_held, last_held, waiter_held, mode_held, Head}
use Rattle.words.specs.Rows.{row_words, word_at, head_at, file_held, Puts}
use Rattle.words.proofs.Changing.{known_held_lem, side_held_lem, changed_held, stored_three, changed_three, beside_three}
use Rattle.file.specs.FileStep.{flushed_file}

-- the client's record is stored as it stood
pub flush_puts :
    (t : List ℕ) (f i h s who : ℕ) (left : Bool)
    → i < max_clients
    → f * row_words + row_words ≤ length t
    → i ≡ who
    → Head h (version_held (head_at t f)) (cond (not left && eqb (last_held (head_at t f)) who) nobody (last_held (head_at t f)))
    (waiter_held (head_at t f))
    (mode_held (head_at t f))
    → side_held s ≡ flushed_client left (side_held (word_at t f (10 + i)))
    → Puts f (flushed_file (file_held t f) who left) t (set (set t (f * row_words + 1) h) (f * row_words + (10 + i)) s)
flush_puts t f i h s who left there fits is head side =
    let r = word_at t f (2 + i) in
    subst (λ (u : List ℕ). Puts f (flushed_file (file_held t f) who left) t (set (set u (f * row_words + 1) h) (f * row_words + (10 + i)) s))
    (set-get_or t (f * row_words + (2 + i)) 0)
    (record {
      long = simp length-set;
      here =
          changed_held t (stored_three t f i r h s) f i h (word_at t f 18) r s there (changed_three t f i r h s there fits)
          ∙ rw (
            head.version,
            head.last,
            head.waiter,
            head.mode,
            side,
            ← is,
            side_held_lem t f i there,
            ← known_held_lem t f i there,
            set-get_or,
          );
      beside = beside_three t f i r h s there fits;
    })

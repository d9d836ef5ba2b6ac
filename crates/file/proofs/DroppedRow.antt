-- The row after a client has dropped its side. Assumes nothing.
use Prim.Native.Nat.{ℕ, ◌+◌, ◌*◌, ◌<◌, ◌≤◌}
use mathlib.Core.Path.{◌≡◌, ◌∙◌}
use mathlib.Core.List.{List}
use native.Mathlib.Omega.{arith}
use lib.ListN.{length, set, length-set}
use lib.Seq.{set-get_or}
use Rattle.sizes.specs.Sizes.{max_clients}
use Rattle.protocol.specs.declared.client.ClientFile.{ClientFile}
use Rattle.protocol.specs.Client.{with_side}
use Rattle.words.specs.Words.{side_held}
use Rattle.words.specs.Rows.{row_words, word_at, entry_held, sides_held, Puts}
use Rattle.words.proofs.Changing.{known_held_lem, changed_held}
use Rattle.words.proofs.Places.{stored_there, stored_beside, stored_elsewhere}

-- the client's side is another, and its number may be a wrapped one
pub side_puts :
    (t : List ℕ) (f i who s : ℕ) (own : ClientFile)
    → i < max_clients
    → f * row_words + row_words ≤ length t
    → i ≡ who
    → side_held s ≡ own
    → Puts f (record { entry = entry_held t f; sides = with_side (sides_held t f) who own }) t (set t (f * row_words + (10 + i)) s)
side_puts t f i who s own there fits is side =
    let u = set t (f * row_words + (10 + i)) s in
    record {
      long = length-set t (f * row_words + (10 + i)) s;
      here =
          changed_held t u f i (word_at t f 1) (word_at t f 18) (word_at t f (2 + i)) s there
          (record {
            head = stored_beside t f (10 + i) s 1 (λ e. omega arith);
            calls = stored_beside t f (10 + i) s 18 (λ e. omega arith);
            known = stored_beside t f (10 + i) s (2 + i) (λ e. omega arith);
            side = stored_there t f (10 + i) s (omega arith);
            rest = λ j a b c d. stored_beside t f (10 + i) s j d;
          })
          ∙ rw (side, ← is, ← known_held_lem t f i there, set-get_or);
      beside = λ g j off lt. stored_elsewhere t f (10 + i) s g j (omega arith) lt off;
    }

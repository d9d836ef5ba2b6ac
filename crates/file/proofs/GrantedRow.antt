-- The row after a grant. Assumes nothing.
use Prim.Native.Nat.{ℕ, ◌+◌, ◌*◌, ◌<◌, ◌≤◌}
use mathlib.Core.Path.{◌≡◌, sym, ap, ◌∙◌}
use mathlib.Core.Bool.{cond}
use mathlib.Core.List.{List}
use native.Mathlib.Omega.{arith}
use lib.ListN.{length, set, length-set}
use lib.Seq.{get_or-set_same, get_or-set_other}
use Rattle.records.specs.declared.record.Mode.{Mode}
use Rattle.records.specs.declared.record.Mode.TheVariants.{Read}
use Rattle.records.specs.Record.{not_open, is_write, opened}
use Rattle.sizes.specs.Sizes.{max_clients, nobody}
use Rattle.decision.specs.Lists.{filled}
use Rattle.protocol.specs.declared.reply.Grant.{Grant}
use Rattle.protocol.specs.Client.{side_of, with_side, granted_client}
use Rattle.protocol.specs.Entry.{record_at, granted_entry}
use Rattle.words.specs.Words.{record_held, side_held, version_held, last_held, calls_held, Head}
use Rattle.words.specs.Rows.{row_words, word_at, head_at, entry_held, sides_held, Puts}
use Rattle.words.proofs.Listing.{length_listed}
use Rattle.words.proofs.Changing.{known_held_lem, side_held_lem}
use Rattle.words.proofs.OwnRow.{own_put}

pub grant_puts :
    (t : List ℕ) (f i r h k s n : ℕ) (mode : Mode) (g : Grant)
    → i < max_clients
    → f * row_words + row_words ≤ length t
    → record_held r ≡ opened mode g.caching (record_held (word_at t f (2 + i)))
    → Head h (cond (is_write mode) g.latest (version_held (head_at t f))) (cond (is_write mode) nobody (last_held (head_at t f))) nobody Read
    → calls_held k ≡ filled n 0 (calls_held (word_at t f 18))
    → side_held s ≡ granted_client mode g (side_held (word_at t f (10 + i)))
    → Puts f
    (record {
      entry = granted_entry n (entry_held t f) i mode g;
      sides = with_side (sides_held t f) i (granted_client mode g (side_of (sides_held t f) i));
    })
    t
    (set (set (set (set t (f * row_words + (2 + i)) r) (f * row_words + 1) h) (f * row_words + 18) k) (f * row_words + (10 + i)) s)
grant_puts t f i r h k s n mode g there fits known head calls side =
    let records = (entry_held t f).records in
    let long : length records ≡ max_clients = length_listed max_clients (λ j. record_held (word_at t f (2 + j))) in
    let record' = opened mode g.caching (record_at (entry_held t f) i) in
    own_put t f i r h k s there fits (granted_entry n (entry_held t f) i mode g) (granted_client mode g (side_of (sides_held t f) i))
    (length-set records i record' ∙ long)
    (known
    ∙ ap (opened mode g.caching) (sym (known_held_lem t f i there))
    ∙ sym (get_or-set_same records i record' not_open (omega (arith, there, long))))
    head
    calls
    (side ∙ ap (granted_client mode g) (sym (side_held_lem t f i there)))
    (λ j lt off. sym (get_or-set_other records i j record' not_open off ∙ known_held_lem t f j lt))

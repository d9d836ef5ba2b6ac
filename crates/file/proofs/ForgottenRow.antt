-- The row after the client is forgotten. Assumes nothing.
use Prim.Native.Nat.{ℕ, ◌+◌, ◌*◌, ◌<◌, ◌≤◌}
use mathlib.Core.Path.{◌≡◌, sym, ◌∙◌}
use mathlib.Core.Bool.{cond}
use mathlib.Core.List.{List}
use native.Mathlib.Omega.{arith}
use lib.Dec.{eqb}
use lib.ListN.{length, set, length-set}
use lib.Seq.{get_or-set_same, get_or-set_other}
use Rattle.records.specs.declared.record.Mode.TheVariants.{Read}
use Rattle.records.specs.Record.{not_open}
use Rattle.sizes.specs.Sizes.{max_clients, nobody}
use Rattle.decision.specs.Lists.{filled}
use Rattle.protocol.specs.Entry.{forgotten_entry}
use Rattle.words.specs.Words.{record_held, version_held, last_held, waiter_held, mode_held, calls_held, Head}
use Rattle.words.specs.Rows.{row_words, word_at, head_at, entry_held, sides_held, Puts}
use Rattle.words.proofs.Listing.{length_listed}
use Rattle.words.proofs.Changing.{known_held_lem}
use Rattle.file.proofs.KnownRow.{known_puts}

pub forget_puts :
    (t : List ℕ) (f i r h k n : ℕ)
    → (let own = eqb (waiter_held (head_at t f)) i in
    i < max_clients
    → f * row_words + row_words ≤ length t
    → record_held r ≡ not_open
    → Head h (version_held (head_at t f)) (cond (eqb (last_held (head_at t f)) i) nobody (last_held (head_at t f)))
    (cond own nobody (waiter_held (head_at t f)))
    (cond own Read (mode_held (head_at t f)))
    → calls_held k ≡ cond own (filled n 0 (calls_held (word_at t f 18))) (calls_held (word_at t f 18))
    → Puts f
    (record { entry = forgotten_entry n (entry_held t f) i; sides = sides_held t f })
    t
    (set (set (set t (f * row_words + (2 + i)) r) (f * row_words + 1) h) (f * row_words + 18) k))
forget_puts t f i r h k n there fits known head calls =
    let records = (entry_held t f).records in
    let long : length records ≡ max_clients = length_listed max_clients (λ j. record_held (word_at t f (2 + j))) in
    known_puts t f i r (forgotten_entry n (entry_held t f) i) there fits
    (length-set records i not_open ∙ long)
    (known ∙ sym (get_or-set_same records i not_open not_open (omega (arith, there, long))))
    (λ j lt off. sym (get_or-set_other records i j not_open not_open off ∙ known_held_lem t f j lt))
    h k head calls

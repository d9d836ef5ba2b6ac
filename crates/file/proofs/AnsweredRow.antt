-- The row after an answer. Assumes nothing.
use Prim.Native.Nat.{ℕ, ◌+◌, ◌<◌}
use mathlib.Core.Path.{◌≡◌, sym, ap, ◌∙◌}
use mathlib.Core.List.{List}
use mathlib.Core.Logic.{◌≢◌}
use lib.ListN.{get_or}
use lib.Seq.{get_or-set_other}
use Rattle.records.specs.Record.{not_open}
use Rattle.sizes.specs.Sizes.{max_clients}
use Rattle.protocol.specs.declared.entry.Entry.{Entry}
use Rattle.protocol.specs.Entry.{answered_entry}
use Rattle.words.specs.Words.{record_held}
use Rattle.words.specs.Rows.{word_at, entry_held}
use Rattle.words.proofs.Changing.{known_held_lem}

-- an answer changes no other client's record
pub answered_others :
    (t : List ℕ) (f i place kind : ℕ) (e after : Entry)
    → e ≡ entry_held t f
    → after ≡ answered_entry e i kind
    → place ≡ i
    → (j : ℕ)
    → j < max_clients
    → j ≢ place
    → record_held (word_at t f (2 + j)) ≡ get_or after.records j not_open
answered_others t f i place kind e after held is here j lt off =
    sym
    (ap (λ (e : Entry). get_or e.records j not_open) is
    ∙ get_or-set_other e.records i j _ not_open (λ same. off (same ∙ sym here))
    ∙ ap (λ (e : Entry). get_or e.records j not_open) held
    ∙ known_held_lem t f j lt)

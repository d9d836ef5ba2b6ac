-- A step's numbers are wrapped: what they do not name is refused whatever stands at the wrapped place, and what they name
-- stands there. Assumes nothing.
use Prim.Native.Nat.{ℕ, ◌+◌, ◌%◌, ◌<◌}
use mathlib.Core.Path.{◌≡◌, sym, ap, ◌∙◌}
use mathlib.Core.Bool.{Bool, false}
use mathlib.Core.List.{List, [], ◌∷◌}
use native.Mathlib.Nat.{mod-lt, mod-eq_of_lt}
use native.Mathlib.Omega.{arith}
use lib.Dec.{leb}
use lib.ListN.{get_or}
use borrow.Author.Tests.{leb-false}
use Rattle.sizes.proofs.Choosing.{split}
use Rattle.sizes.specs.declared.sizes.Sizes.{Sizes}
use Rattle.sizes.specs.Sizes.{max_clients, max_files, max_blocks, Permitted, cell}
use Rattle.decision.specs.Lists.{first_of}
use Rattle.protocol.specs.declared.client.ClientFile.{ClientFile}
use Rattle.protocol.specs.Client.{side_of}
use Rattle.protocol.specs.Refusal.{Test, no_such_client, flush_tests}
use Rattle.words.specs.Words.{side_held}
use Rattle.words.specs.Rows.{word_at, sides_held}
use Rattle.words.proofs.Changing.{side_held_lem}

-- the tests after the first
abbrev pub later : List Test → List Test
later [] = []
later (t ∷ ts) = ts

-- the side of the client, loaded at its wrapped number from the row of file f
pub wrapped_tests :
    (z : Sizes) (t : List ℕ) (f i : ℕ) (own : ClientFile) (tests : ClientFile → List Test)
    → Permitted z
    → own ≡ side_held (word_at t f (10 + i % max_clients))
    → first_of (no_such_client z i ∷ tests own) ≡ first_of (no_such_client z i ∷ tests (side_of (sides_held t f) i))
wrapped_tests z t f i own tests p is =
    split (leb z.clients i) (λ e. rw e)
    (λ client.
    let there : i < max_clients = omega (arith, leb-false z.clients i client, p.clients) in
    ap (λ (x : ClientFile). first_of (no_such_client z i ∷ tests x))
    (is ∙ sym (side_held_lem t f (i % max_clients) (mod-lt i (omega arith))) ∙ ap (side_of (sides_held t f)) (mod-eq_of_lt there)))

-- the side of a client that is there
pub wrapped_side :
    (t : List ℕ) (f i : ℕ) (own : ClientFile)
    → i < max_clients
    → own ≡ side_held (word_at t f (10 + i % max_clients))
    → side_of (sides_held t f) i ≡ own
wrapped_side t f i own there is =
    ap (side_of (sides_held t f)) (sym (mod-eq_of_lt there)) ∙ side_held_lem t f (i % max_clients) (mod-lt i (omega arith)) ∙ sym is

-- the flag of the block
pub flush_tests_lem :
    (z : Sizes) (embargoed recovering : Bool) (dirty : List Bool) (i f b : ℕ)
    → Permitted z
    → first_of (flush_tests z embargoed recovering (get_or dirty (cell (i % max_clients) (f % max_files) (b % max_blocks)) false) i f b)
    ≡ first_of (flush_tests z embargoed recovering (get_or dirty (cell i f b) false) i f b)
flush_tests_lem z embargoed recovering dirty i f b p =
    split (leb z.clients i) (λ e. rw e)
    (λ client.
    split (leb z.files f) (λ e. rw (client, e))
    (λ file.
    split (leb z.blocks b) (λ e. rw (client, file, e))
    (λ block.
    let hi : i < max_clients = omega (arith, leb-false z.clients i client, p.clients) in
    let hf : f < max_files = omega (arith, leb-false z.files f file, p.files) in
    let hb : b < max_blocks = omega (arith, leb-false z.blocks b block, p.blocks) in
    rw (mod-eq_of_lt hi, mod-eq_of_lt hf, mod-eq_of_lt hb))))

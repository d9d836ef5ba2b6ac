-- What the number of a refusal says: with another number than 0 the step is refused, with 0 it is done and has passed its
-- tests, so that the client, the file and the block that it names are there. Assumes nothing.
use Prim.Native.Nat.{ℕ, ◌<◌}
use mathlib.Core.Path.{◌≡◌, refl, sym, ap, ◌∙◌}
use mathlib.Core.Bool.{Bool, true, false, cond}
use mathlib.Core.List.{List}
use native.Mathlib.Omega.{arith}
use lib.Dec.{eqb, leb}
use borrow.Author.Tests.{leb-false, eq-eqb, ne_eqb}
use Rattle.sizes.proofs.Choosing.{when, unless}
use Rattle.sizes.specs.declared.sizes.Sizes.{Sizes}
use Rattle.decision.specs.Lists.{first_of}
use Rattle.protocol.specs.Refusal.{Test, tested}

module _ {ℓ} {A : Type ℓ} (ts : List Test) (refused : ℕ → A) (done : A) (k : ℕ) (is : k ≡ first_of ts) where
  pub when_refused : (k ≡ 0 → ⊥) → tested ts refused done ≡ refused k
  when_refused h =
      unless done (refused (first_of ts)) (ap (λ (n : ℕ). eqb n 0) (sym is) ∙ ne_eqb k 0 h) ∙ ap refused (sym is)

  pub when_accepted : k ≡ 0 → tested ts refused done ≡ done
  when_accepted h = when done (refused (first_of ts)) (ap (λ (n : ℕ). eqb n 0) (sym is) ∙ eq-eqb k 0 h)

-- a test with a number above 0 was passed
pub passed : (b : Bool) (k rest : ℕ) → (k ≡ 0 → ⊥) → cond b k rest ≡ 0 → (b ≡ false) × (rest ≡ 0)
passed true k rest h e = absurd (h e)
passed false k rest h e = (refl, e)

-- the tests of the client, the file and the block come first
pub client_there :
    (z : Sizes) (i k rest : ℕ) → k ≡ cond (leb z.clients i) 2 rest → k ≡ 0 → i < z.clients
client_there z i k rest is h =
    let (client, _) = passed (leb z.clients i) 2 rest (λ e. omega arith) (sym is ∙ h) in
    leb-false z.clients i client

module _ (z : Sizes) (i f k rest : ℕ) where
  pub named :
      k ≡ cond (leb z.clients i) 2 (cond (leb z.files f) 3 rest)
      → k ≡ 0
      → (i < z.clients) × (f < z.files) × (rest ≡ 0)
  named is h =
      let (client, more) = passed (leb z.clients i) 2 _ (λ e. omega arith) (sym is ∙ h) in
      let (file, later) = passed (leb z.files f) 3 rest (λ e. omega arith) more in
      (leb-false z.clients i client, leb-false z.files f file, later)

pub named_block :
    (z : Sizes) (i f b k rest : ℕ)
    → k ≡ cond (leb z.clients i) 2 (cond (leb z.files f) 3 (cond (leb z.blocks b) 4 rest))
    → k ≡ 0
    → (i < z.clients) × (f < z.files) × (b < z.blocks)
named_block z i f b k rest is h =
    let (client, file, more) = named z i f k (cond (leb z.blocks b) 4 rest) is h in
    let (block, _) = passed (leb z.blocks b) 4 rest (λ e. omega arith) more in
    (client, file, leb-false z.blocks b block)

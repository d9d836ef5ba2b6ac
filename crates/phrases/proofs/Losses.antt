-- What is said of lost writes: one after another, and whether there is any. Assumes nothing.
use Prim.Native.Nat.{ℕ, suc, ◌+◌, ◌*◌, ◌%◌, ◌<◌}
use mathlib.Core.Path.{◌≡◌, refl, sym, ap, ◌∙◌}
use mathlib.Core.Bool.{Bool, cond}
use mathlib.Core.List.{List, [], ◌∷◌, ◌++◌}
use native.Mathlib.Nat.{mod-eq_of_lt}
use native.Mathlib.Numerals.{add-one}
use native.Mathlib.Omega.{arith}
use lib.Dec.{eqb}
use lib.ListN.{length}
use borrow.Author.Tests.{eq-eqb, ne_eqb}
use Rattle.sizes.specs.Sizes.{max_files, max_blocks, max_places}
use Rattle.sizes.proofs.Choosing.{when, unless}
use Rattle.ledger.specs.declared.ledger.Ledger.{Ledger}
use Rattle.ledger.specs.Ledger.{lines_in, lines_at, risks_in}
use Rattle.stepfile.specs.Text.{bytes}
use Rattle.writer.specs.Buffer.{Wrote}
use Rattle.writer.proofs.Buffers.{wrote_as, wrote_then}
use Rattle.phrases.specs.Accepted.{loss_text, next_text, losses_on, losses_below, losses_text, or_none}

-- which writes of a client are at risk, by the notes, and their lines
abbrev pub at_risk : Ledger → ℕ → ℕ → ℕ → Bool
at_risk l i f b = risks_in i (lines_at l f b)

abbrev pub line_of : Ledger → ℕ → ℕ → ℕ
line_of l f b = (lines_at l f b).risk

-- a comma where something is told before
next_text_lem :
    (start at : ℕ) (told more : List ℕ)
    → at ≡ start + length told
    → told ++ (cond (eqb at start) [] (bytes ",") ++ more) ≡ next_text told more
next_text_lem start at [] more is =
    ap (λ (l : List ℕ). l ++ more) (when [] (bytes ",") (eq-eqb at start (omega (arith, is))))
next_text_lem start at (c ∷ told) more is =
    ap (λ (l : List ℕ). (c ∷ told) ++ (l ++ more))
    (unless [] (bytes ",") (ne_eqb at start (λ same. omega (arith, is, same))))

-- one more is written
pub wrote_next :
    (d : List ℕ) (start : ℕ) (told d₀ : List ℕ) (at : ℕ) (d₁ : List ℕ) (at₁ : ℕ) (more d₂ : List ℕ) (at₂ : ℕ)
    → Wrote d start told d₀ at
    → Wrote d₀ at (cond (eqb at start) [] (bytes ",")) d₁ at₁
    → Wrote d₁ at₁ more d₂ at₂
    → Wrote d start (next_text told more) d₂ at₂
wrote_next d start told d₀ at d₁ at₁ more d₂ at₂ before comma next =
    wrote_as (next_text_lem start at told more before.next) (wrote_then before (wrote_then comma next))

-- the losses grow with each block and with each file
module _ (lost : ℕ → ℕ → Bool) (line : ℕ → ℕ → ℕ) where
  pub on_none : (f : ℕ) (told : List ℕ) → losses_on lost line f 0 told ≡ told
  unfolding losses_on
  on_none f told = refl

  on_next :
      (f b : ℕ) (told : List ℕ)
      → losses_on lost line f (suc b) told
      ≡ cond (lost f b)
      (next_text (losses_on lost line f b told) (loss_text f b (line f b)))
      (losses_on lost line f b told)
  unfolding losses_on
  on_next f b told = refl

  -- one more block, of which the code has found whether a write is lost, and which
  pub on_more :
      (f b : ℕ) (told : List ℕ) (found : Bool) (n : ℕ)
      → found ≡ lost f b
      → n ≡ line f b
      → cond found (next_text (losses_on lost line f b told) (loss_text f b n)) (losses_on lost line f b told)
      ≡ losses_on lost line f (b + 1) told
  on_more f b told found n is at =
      let so_far = losses_on lost line f b told in
      ap (λ (t : Bool). cond t (next_text so_far (loss_text f b n)) so_far) is
      ∙ ap (λ (m : ℕ). cond (lost f b) (next_text so_far (loss_text f b m)) so_far) at
      ∙ sym (on_next f b told)
      ∙ ap (λ (k : ℕ). losses_on lost line f k told) (sym (add-one b))

  pub below_none : (blocks : ℕ) → losses_below lost line blocks 0 ≡ []
  unfolding losses_below
  below_none blocks = refl

  below_next :
      (blocks f : ℕ)
      → losses_below lost line blocks (suc f) ≡ losses_on lost line f blocks (losses_below lost line blocks f)
  unfolding losses_below
  below_next blocks f = refl

  pub below_more :
      (blocks f : ℕ)
      → losses_on lost line f blocks (losses_below lost line blocks f) ≡ losses_below lost line blocks (f + 1)
  below_more blocks f =
      sym (below_next blocks f) ∙ ap (λ (k : ℕ). losses_below lost line blocks k) (sym (add-one f))

-- the lines of a block, at its place
pub lines_placed :
    (l : Ledger) (f b : ℕ)
    → f < max_files
    → b < max_blocks
    → lines_in l ((f * max_blocks + b) % max_places) ≡ lines_at l f b
lines_placed l f b file block = ap (lines_in l) (mod-eq_of_lt (omega (arith, file, block)))

-- none, or some
pub none_lost : (l : List ℕ) → length l ≡ 0 → l ++ bytes " none" ≡ or_none l
none_lost [] e = refl
none_lost (c ∷ l) e = absurd (omega (arith, e))

pub some_lost : (l : List ℕ) → (length l ≡ 0 → ⊥) → l ≡ or_none l
some_lost [] e = absurd (e refl)
some_lost (c ∷ l) e = refl

-- they are written file by file; where none is, " none" is
module _
    (lost : ℕ → ℕ → Bool)
    (line : ℕ → ℕ → ℕ)
    (blocks : ℕ)
    {d : List ℕ}
    {at f : ℕ}
    {d' : List ℕ}
    {next : ℕ}
    (so_far : Wrote d at (losses_below lost line blocks f) d' next) where
  wrote_below : {files : ℕ} → f ≡ files → Wrote d at (losses_below lost line blocks files) d' next
  wrote_below all = wrote_as (ap (losses_below lost line blocks) all) so_far

  pub wrote_no_losses :
      {files : ℕ} {d'' : List ℕ} {past : ℕ}
      → f ≡ files
      → next ≡ at
      → Wrote d' next (bytes " none") d'' past
      → Wrote d at (losses_text lost line files blocks) d'' past
  wrote_no_losses all still none =
      let losses = wrote_below all in
      wrote_as (none_lost _ (omega (arith, losses.next, still))) (wrote_then losses none)

  pub wrote_losses :
      {files : ℕ} → f ≡ files → (next ≡ at → ⊥) → Wrote d at (losses_text lost line files blocks) d' next
  wrote_losses all moved =
      let losses = wrote_below all in
      wrote_as (some_lost _ (λ none. moved (omega (arith, losses.next, none)))) losses

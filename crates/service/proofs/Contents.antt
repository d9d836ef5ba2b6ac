-- What stands at each place after a store: where two places are the same, and what the copies and blocks of a file hold
-- after a drop or a write-back. It leads to the views after each step. Assumes nothing.
use Prim.Native.Nat.{ℕ, ◌+◌, ◌*◌, ◌/◌, ◌%◌, ◌≤◌, ◌<◌}
use native.Mathlib.Omega.{arith}
use mathlib.Core.Path.{◌≡◌, refl, sym, ap, ◌∙◌}
use mathlib.Core.Bool.{Bool, true, false, cond, ◌&&◌}
use mathlib.Core.List.{List}
use lib.Arith.{digits_lt, digits_div, digits_mod}
use lib.Dec.{eqb}
use lib.ListN.{length, get_or}
use borrow.Author.Tests.{eqb-true, eqb-false, eq-eqb, ne_eqb}
use Rattle.sizes.specs.Sizes.{max_clients, max_files, max_blocks, max_places, max_cells, place, cell, first_place}
use Rattle.sizes.specs.Sizes.{first_cell}
use Rattle.decision.proofs.Storing.{length_stored}
use Rattle.protocol.specs.Client.{kept, sent}
use Rattle.service.proofs.Tests.{split, eqb_same, and_true, and_swap}
use Rattle.service.proofs.Lists.{get_d_same, get_d_stored}

-- ---- where two places are the same

-- two numbers by their digits, to any base
digits_same :
    (m q p : ℕ) {r t : ℕ}
    → r < m
    → t < m
    → eqb (q * m + r) (p * m + t) ≡ (eqb q p && eqb r t)
digits_same m q p {r} {t} h k =
    split (eqb q p)
    (λ e.
    split (eqb r t)
    (λ d. rw (e, d, eqb-true q p e, eqb-true r t d) (eq-eqb (p * m + t) (p * m + t) refl))
    (λ d. rw (e, d) (ne_eqb (q * m + r) (p * m + t) (λ z. eqb-false r t d (low z)))))
    (λ e. rw e (ne_eqb (q * m + r) (p * m + t) (λ z. eqb-false q p e (high z))))
  where
    low : q * m + r ≡ p * m + t → r ≡ t
    low z = sym (digits_mod q h) ∙ ap (λ x. x % m) z ∙ digits_mod p k

    high : q * m + r ≡ p * m + t → q ≡ p
    high z = sym (digits_div q h) ∙ ap (λ x. x / m) z ∙ digits_div p k

pub place_same :
    (f g : ℕ) {b c : ℕ} → b < max_blocks → c < max_blocks → eqb (place g c) (place f b) ≡ (eqb g f && eqb c b)
place_same f g hb hc = digits_same max_blocks g f hc hb

-- t says whether the file and the block are the same
pub cell_same :
    {i j : ℕ} (f g : ℕ) {b c : ℕ} (t : Bool)
    → i < max_clients
    → j < max_clients
    → b < max_blocks
    → c < max_blocks
    → (eqb g f && eqb c b) ≡ t
    → eqb (cell j g c) (cell i f b) ≡ (t && eqb j i)
cell_same {i} {j} f g {b} {c} t hi hj hb hc e =
    digits_same max_blocks (g * max_clients + j) (f * max_clients + i) hc hb
    ∙ ap (λ x. x && eqb c b) (digits_same max_clients g f hj hi)
    ∙ and_swap (eqb g f) (eqb j i) (eqb c b)
    ∙ ap (λ x. x && eqb j i) e

-- ---- every place is inside its list

module _ {ℓ} {A : Type ℓ} (l : List A) where
  pub place_in : {f b : ℕ} → length l ≡ max_places → f < max_files → b < max_blocks → place f b < length l
  place_in {f} {b} e hf hb = rw e (digits_lt hf hb)

  pub cell_in :
      {i f b : ℕ} → length l ≡ max_cells → i < max_clients → f < max_files → b < max_blocks → cell i f b < length l
  cell_in {i} {f} {b} e hi hf hb = rw e (digits_lt (digits_lt hf hi) hb)

  -- ---- the copy of a file, of n blocks, is kept or dropped

  pub get_d_kept :
      (n : ℕ) (keep : Bool) (none : A) {i j f : ℕ} (g : ℕ) {c : ℕ} (t : Bool)
      → length l ≡ max_cells
      → n ≤ max_blocks
      → i < max_clients
      → j < max_clients
      → f < max_files
      → c < n
      → eqb g f ≡ t
      → get_or (kept n keep none (first_cell i f) l) (cell j g c) none
      ≡ cond (t && eqb j i) (cond keep (get_or l (cell i f c) none) none) (get_or l (cell j g c) none)
  get_d_kept n true none {i} {j} {f} g {c} t len most hi hj hf hc e =
      get_d_same l (cell i f c) (cell j g c) none (t && eqb j i)
      (cell_same f g t hi hj (omega arith) (omega arith) (ap (λ x. eqb g f && x) (eqb_same c) ∙ and_true (eqb g f) ∙ e))
  get_d_kept n false none {i} {j} {f} g {c} t len most hi hj hf hc e =
      get_d_stored n (cell i f) (λ b. none) l (cell j g c) none (t && eqb j i) c hc
      (λ k h. cell_in len hi hf (omega arith))
      (λ k h.
      digits_same max_blocks (g * max_clients + j) (f * max_clients + i) (omega arith) (omega arith)
      ∙ ap (λ x. x && eqb c k) (digits_same max_clients g f hj hi ∙ ap (λ x. x && eqb j i) e))

  pub length_kept :
      (n : ℕ) (keep : Bool) (none : A) (base : ℕ) → length (kept n keep none base l) ≡ length l
  length_kept n true none base = refl
  length_kept n false none base = length_stored n (λ b. base + b) (λ b. none) l

-- ---- the dirty blocks of a file, of n blocks, are sent

module _ (n : ℕ) (dirty : List Bool) (copies l : List ℕ) where
  pub get_d_sent :
      (send : Bool) (i g : ℕ) {f c : ℕ} (t : Bool)
      → length l ≡ max_places
      → n ≤ max_blocks
      → f < max_files
      → c < n
      → eqb g f ≡ t
      → get_or (sent n send dirty copies (first_cell i f) (first_place f) l) (place g c) 0
      ≡ cond t
      (cond (send && get_or dirty (cell i f c) false) (get_or copies (cell i f c) 0) (get_or l (place f c) 0))
      (get_or l (place g c) 0)
  get_d_sent false i g {f} {c} t len most hf hc e =
      get_d_same l (place f c) (place g c) 0 t
      (place_same f g (omega arith) (omega arith) ∙ ap (λ x. eqb g f && x) (eqb_same c) ∙ and_true (eqb g f) ∙ e)
  get_d_sent true i g {f} {c} t len most hf hc e =
      get_d_stored n (place f)
      (λ b. cond (get_or dirty (cell i f b) false) (get_or copies (cell i f b) 0) (get_or l (place f b) 0))
      l (place g c) 0 t c hc
      (λ k h. place_in l len hf (omega arith))
      (λ k h. place_same f g (omega arith) (omega arith) ∙ ap (λ x. x && eqb c k) e)

  pub length_sent :
      (send : Bool) (base to : ℕ) → length (sent n send dirty copies base to l) ≡ length l
  length_sent false base to = refl
  length_sent true base to =
      length_stored n (λ b. to + b)
      (λ b. cond (get_or dirty (base + b) false) (get_or copies (base + b) 0) (get_or l (to + b) 0))
      l

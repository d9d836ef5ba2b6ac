-- The blocks that an image gives back, and which are used: those of the server that was written. n is the number of
-- blocks in a file. Assumes nothing.
use Prim.Native.Nat.{ℕ, zero, suc, ◌%◌, ◌≤◌, ◌<◌, zero-le}
use mathlib.Core.Path.{◌≡◌, refl, sym, ap, ◌∙◌}
use mathlib.Core.Bool.{Bool, true, false, cond}
use mathlib.Core.List.{List, [], ◌∷◌}
use native.Mathlib.Nat.{mod-eq_of_lt}
use native.Mathlib.Omega.{arith}
use lib.Dec.{eqb, ltb}
use lib.ListN.{length, get_or, set, replicate, length-replicate}
use lib.Seq.{set-get_or}
use borrow.Author.Tests.{eqb-true, eqb-false, lt-ltb, le-ltb, ltb-true, ltb-false}
use Rattle.sizes.proofs.Choosing.{split, when, unless}
use Rattle.sizes.proofs.InForce.{file_fits, block_fits}
use Rattle.sizes.specs.declared.sizes.Sizes.{Sizes}
use Rattle.sizes.specs.Sizes.{max_files, max_blocks, max_places, place, Permitted}
use Rattle.decision.specs.Lists.{count, stored}
use Rattle.decision.proofs.Beyond.{get_d_alike}
use Rattle.decision.proofs.Counting.{count_agree}
use Rattle.decision.proofs.Storing.{length_stored, get_d_stored_other}
use Rattle.service.specs.Space.{sum_below, used_in}
use Rattle.service.proofs.Lists.{get_d_stored}
use Rattle.service.proofs.Contents.{place_same, place_in}
use Rattle.image.specs.Bytes.{low}
use Rattle.image.specs.Image.{block_bytes, block_entry, file_blocks, block_entries}
use Rattle.restore.specs.Decoded.{number_at, placed, put_block, put_used}
use Rattle.restore.specs.Reading.{with_places, with_blocks, with_used}
use Rattle.restore.specs.Exact.{used_values}
use Rattle.restore.proofs.Folding.{placed_if, placed_below}

-- one more number below k
pub below_suc {ℓ} :
    {A : Type ℓ} (f k : ℕ) (a b : A) → cond (eqb f k) a (cond (ltb f k) a b) ≡ cond (ltb f (suc k)) a b
below_suc f k a b =
    split (eqb f k)
    (λ e. let same : f ≡ k = eqb-true f k e in rw (e, lt-ltb f (suc k) (omega arith)))
    (λ e.
    let other : f ≡ k → ⊥ = eqb-false f k e in
    split (ltb f k)
    (λ t. let less : f < k = ltb-true f k t in rw (e, t, lt-ltb f (suc k) (omega arith)))
    (λ t. let more : k ≤ f = ltb-false f k t in rw (e, t, le-ltb f (suc k) (omega arith))))

-- what stands in the places of others, taken for k files into a list l
module _ {ℓ} {A : Type ℓ} (d : A) (n : ℕ) (most : n ≤ max_blocks) (others l : List A) (long : length l ≡ max_places) where
  pub length_taken : (k : ℕ) → length (with_places d k n others l) ≡ max_places
  unfolding with_places
  length_taken zero = long
  length_taken (suc k) =
      length_stored n (place k) (λ b. get_or others (place k b) d) (with_places d k n others l) ∙ length_taken k

  pub taken_place :
      (k : ℕ)
      → k ≤ max_files
      → (f b : ℕ)
      → b < n
      → get_or (with_places d k n others l) (place f b) d
      ≡ cond (ltb f k) (get_or others (place f b) d) (get_or l (place f b) d)
  unfolding with_places
  taken_place zero few f b hb = sym (unless _ _ (le-ltb f 0 zero-le))
  taken_place (suc k) few f b hb =
      let before = with_places d k n others l in
      let value : ℕ → A = λ b. get_or others (place k b) d in
      let here : get_or (stored n (place k) value before) (place f b) d
      ≡ cond (eqb f k) (value b) (get_or before (place f b) d) =
      get_d_stored n (place k) value before (place f b) d (eqb f k) b hb
      (λ j hj. place_in before (length_taken k) (omega arith) (omega arith))
      (λ j hj. place_same k f (omega arith) (omega arith)) in
      let own : cond (eqb f k) (value b) (get_or before (place f b) d)
      ≡ cond (eqb f k) (get_or others (place f b) d) (get_or before (place f b) d) =
      split (eqb f k)
      (λ e. rw e (ap (λ k. get_or others (place k b) d) (sym (eqb-true f k e))))
      (λ e. rw e) in
      here
      ∙ own
      ∙ ap (λ x. cond (eqb f k) (get_or others (place f b) d) x) (taken_place k (omega arith) f b hb)
      ∙ below_suc f k (get_or others (place f b) d) (get_or l (place f b) d)

-- How many blocks are used once they are taken does not depend on what was used before.
module _ {z : Sizes} (most : Permitted z) (others l : List Bool) (long : length l ≡ max_places) where
  sum_agree : (k : ℕ) (p q : ℕ → ℕ) → ((f : ℕ) → f < k → p f ≡ q f) → sum_below k p ≡ sum_below k q
  unfolding sum_below
  sum_agree zero p q same = refl
  sum_agree (suc k) p q same = rw (sum_agree k p q (λ f h. same f (omega arith)), same k (omega arith))

  pub used_taken : used_in z (with_used z.files z.blocks others l) ≡ used_in z others
  used_taken =
      let taken = with_used z.files z.blocks others l in
      sum_agree z.files (λ f. count z.blocks (λ b. get_or taken (place f b) false))
      (λ f. count z.blocks (λ b. get_or others (place f b) false))
      (λ f hf.
      count_agree z.blocks (λ b. get_or taken (place f b) false) (λ b. get_or others (place f b) false)
      (λ b hb.
      taken_place false z.blocks most.blocks others l long z.files most.files f b hb
      ∙ when _ _ (lt-ltb f z.files hf)))

-- the value of a block as an image gives it back
pub used_value :
    (used : List Bool) (blocks : List ℕ) (p : ℕ)
    → get_or (used_values used blocks) p 0 ≡ cond (get_or used p false) (get_or blocks p 0) 0
unfolding used_values
used_value [] blocks p = refl
used_value (true ∷ used) [] zero = refl
used_value (false ∷ used) [] zero = refl
used_value (t ∷ used) [] (suc p) = sym (none (get_or used p false))
  where
    none : (t : Bool) → cond {A = ℕ} t 0 0 ≡ 0
    none true = refl
    none false = refl
used_value (t ∷ used) (v ∷ blocks) zero = refl
used_value (t ∷ used) (v ∷ blocks) (suc p) = used_value used blocks p

-- The blocks that are listed, put where there is nothing: others are what each leaves in its place.
module _
    {A : Type 0}
    (d : A)
    (put : List ℕ → List A → List A)
    {z : Sizes}
    (most : Permitted z)
    (used : List Bool)
    (blocks : List ℕ)
    (others : List A)
    (put_one : (f b : ℕ) (l : List A)
    → f < z.files
    → b < z.blocks
    → get_or l (place f b) d ≡ d
    → placed put (block_entry f b (get_or used (place f b) false) (get_or blocks (place f b) 0)) l
    ≡ set l (place f b) (get_or others (place f b) d)) where
  abbrev n : ℕ
  n = z.blocks

  put_file_lem :
      (f : ℕ) (l : List A)
      → f < z.files
      → ((b : ℕ) → b < n → get_or l (place f b) d ≡ d)
      → placed put (file_blocks n f used blocks) l ≡ stored n (place f) (λ b. get_or others (place f b) d) l
  unfolding stored
  put_file_lem f l hf none =
      let value : ℕ → A = λ b. get_or others (place f b) d in
      placed_below put n (λ b. block_entry f b (get_or used (place f b) false) (get_or blocks (place f b) 0))
      (λ k. stored k (place f) value l)
      (λ k hk.
      put_one f k (stored k (place f) value l) hf hk
      (get_d_stored_other k (place f) value l d (place f k) (λ j hj. omega arith) ∙ none k hk))

  given_places :
      placed put (block_entries z used blocks) (replicate max_places d)
      ≡ with_places d z.files n others (replicate max_places d)
  unfolding with_places
  given_places =
      let empty : List A = replicate max_places d in
      placed_below put z.files (λ f. file_blocks n f used blocks) (λ k. with_places d k n others empty)
      (λ k hk.
      let few = most.files in
      put_file_lem k (with_places d k n others empty) hk
      (λ b hb.
      taken_place d n most.blocks others empty (length-replicate max_places d) k (omega arith) k b hb
      ∙ unless _ _ (le-ltb k k (omega arith))
      ∙ get_d_alike max_places d (place k b)))

value_read : (f b v : ℕ) → v < 18446744073709551616 → number_at 8 (block_bytes f b v) 2 ≡ v
unfolding number_at low
value_read f b v fits = omega arith

-- one block that is listed, put in its place
module _ (f b : ℕ) (inside : f < max_files) (within : b < max_blocks) where
  put_value :
      (t : Bool) (v : ℕ) (l : List ℕ)
      → v < 18446744073709551616
      → get_or l (place f b) 0 ≡ 0
      → placed put_block (block_entry f b t v) l ≡ set l (place f b) (cond t v 0)
  put_value true v l fits none =
      placed_if put_block true (block_bytes f b v) l
      ∙ ap (λ v. set l (place (f % max_files) (b % max_blocks)) v) (value_read f b v fits)
      ∙ ap (λ p. set l (place p (b % max_blocks)) v) (mod-eq_of_lt inside)
      ∙ ap (λ p. set l (place f p) v) (mod-eq_of_lt within)
  put_value false v l fits none =
      placed_if put_block false (block_bytes f b v) l ∙ sym (set-get_or l (place f b) 0) ∙ ap (set l (place f b)) none

  put_flag :
      (t : Bool) (v : ℕ) (l : List Bool)
      → get_or l (place f b) false ≡ false
      → placed put_used (block_entry f b t v) l ≡ set l (place f b) t
  put_flag true v l none =
      placed_if put_used true (block_bytes f b v) l
      ∙ ap (λ p. set l (place p (b % max_blocks)) true) (mod-eq_of_lt inside)
      ∙ ap (λ p. set l (place f p) true) (mod-eq_of_lt within)
  put_flag false v l none =
      placed_if put_used false (block_bytes f b v) l
      ∙ sym (set-get_or l (place f b) false)
      ∙ ap (set l (place f b)) none

-- all blocks of the image, and which are used
module _ {z : Sizes} (most : Permitted z) (used : List Bool) (blocks : List ℕ) where
  pub given_blocks :
      ((f b : ℕ) → f < z.files → b < z.blocks → get_or blocks (place f b) 0 < 18446744073709551616)
      → placed put_block (block_entries z used blocks) (replicate max_places 0)
      ≡ with_blocks z.files z.blocks (used_values used blocks) (replicate max_places 0)
  given_blocks fits =
      given_places 0 put_block most used blocks (used_values used blocks)
      (λ f b l hf hb none.
      put_value f b (file_fits most hf) (block_fits most hb) (get_or used (place f b) false) (get_or blocks (place f b) 0) l
      (fits f b hf hb) none
      ∙ ap (set l (place f b)) (sym (used_value used blocks (place f b))))

  pub given_used :
      placed put_used (block_entries z used blocks) (replicate max_places false)
      ≡ with_used z.files z.blocks used (replicate max_places false)
  given_used =
      given_places false put_used most used blocks used
      (λ f b l hf hb none.
      put_flag f b (file_fits most hf) (block_fits most hb) (get_or used (place f b) false) (get_or blocks (place f b) 0) l
      none)

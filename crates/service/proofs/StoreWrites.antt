-- The store after a write: one under embargo changes what does not count, one to a block that is counted takes no
-- place, and any other takes one. Assumes nothing.
use Prim.Native.Nat.{ℕ, ◌+◌, ◌≤◌, ◌<◌}
use native.Mathlib.Omega.{arith}
use mathlib.Core.Path.{◌≡◌, refl, sym, ap, ◌∙◌}
use mathlib.Core.Bool.{Bool, true, false, cond, ◌&&◌}
use mathlib.Core.List.{List}
use lib.Dec.{eqb}
use lib.ListN.{length, get_or, set, length-set}
use lib.Seq.{get_or-set_other}
use borrow.Author.Tests.{eqb-true}
use Rattle.sizes.specs.declared.sizes.Sizes.{Sizes}
use Rattle.sizes.specs.Sizes.{Permitted, max_places, place, cell}
use Rattle.service.specs.Space.{is_counted, counted_on, counted_in, recounted}
use Rattle.service.proofs.Tests.{split, conflict, both, and_false}
use Rattle.service.proofs.Committed.{used_counted, dirty_counted, counted_cases, Shrinks, shrinks_counted}
use Rattle.service.proofs.Committed.{one_counted}
use Rattle.service.proofs.StoreKept.{KeptIn, file_kept}
use Rattle.service.proofs.StoreSteps.{place_apart, cell_apart, marks_own, marks_other}

module _
    {z : Sizes}
    {within known : ℕ → Bool}
    {used : List Bool}
    {free : ℕ}
    {blocks : List ℕ}
    {dirty : List Bool}
    (most : Permitted z)
    (part : (i : ℕ) → known i ≡ true → within i ≡ true)
    (h : KeptIn z within known used free blocks dirty)
    (i f b v : ℕ)
    (hi : i < z.clients)
    (hf : f < z.files)
    (hb : b < z.blocks) where
  -- what the write leaves; a client that may cache writes its copy, any other the server's block
  abbrev used_by : Bool → List Bool
  used_by caching = cond caching used (set used (place f b) true)

  abbrev blocks_by : Bool → List ℕ
  blocks_by caching = cond caching blocks (set blocks (place f b) v)

  abbrev dirty_by : Bool → List Bool
  dirty_by caching = cond caching (set dirty (cell i f b) true) dirty

  -- ---- the other blocks are as they were

  used_else :
      (caching : Bool) (g c : ℕ)
      → c < z.blocks
      → (eqb g f && eqb c b) ≡ false
      → get_or (used_by caching) (place g c) false ≡ get_or used (place g c) false
  used_else true g c hc other = refl
  used_else false g c hc other =
      marks_other most used f b g c hb hc other

  blocks_else :
      (caching : Bool) (g c : ℕ)
      → c < z.blocks
      → (eqb g f && eqb c b) ≡ false
      → get_or (blocks_by caching) (place g c) 0 ≡ get_or blocks (place g c) 0
  blocks_else true g c hc other = refl
  blocks_else false g c hc other =
      get_or-set_other blocks (place f b) (place g c) v 0 (place_apart most f b g c hb hc other)

  dirty_else :
      (caching : Bool) (j g c : ℕ)
      → j < z.clients
      → c < z.blocks
      → ((eqb g f && eqb c b) && eqb j i) ≡ false
      → get_or (dirty_by caching) (cell j g c) false ≡ get_or dirty (cell j g c) false
  dirty_else true j g c hj hc other =
      get_or-set_other dirty (cell i f b) (cell j g c) true false (cell_apart most i f b j g c hi hj hb hc other)
  dirty_else false j g c hj hc other = refl

  else_counted :
      (caching : Bool) (g c : ℕ)
      → g < z.files
      → c < z.blocks
      → (eqb g f && eqb c b) ≡ false
      → is_counted z.clients within (used_by caching) (dirty_by caching) g c ≡ true
      → is_counted z.clients within used dirty g c ≡ true
  else_counted caching g c hg hc other e =
      counted_cases z.clients within (used_by caching) (dirty_by caching) g c e
      (λ u. used_counted z.clients within used dirty g c (sym (used_else caching g c hc other) ∙ u))
      (λ j hj w d.
      dirty_counted z.clients within used dirty g c j hj w
      (sym (dirty_else caching j g c hj hc (ap (λ t. t && eqb j i) other)) ∙ d))

  -- ---- every block that is counted has its place

  abbrev Fits : Bool → Type 0
  Fits caching = counted_in z within (used_by caching) (dirty_by caching) ≤ z.store

  -- a client under embargo
  outside_fits : (caching : Bool) → caching ≡ true → within i ≡ false → Fits caching
  outside_fits false may out = conflict may refl
  outside_fits true may out =
      omega (arith, shrinks_counted z within used dirty within used (set dirty (cell i f b) true) less, h.fits)
    where
      less : Shrinks z within used dirty within used (set dirty (cell i f b) true)
      less g c hg hc e =
          counted_cases z.clients within used (set dirty (cell i f b) true) g c e
          (used_counted z.clients within used dirty g c)
          (λ j hj w d.
          let other : eqb j i ≡ false = split (eqb j i) (λ q. conflict (rw (eqb-true j i q) at w) out) (λ q. q) in
          dirty_counted z.clients within used dirty g c j hj w
          (sym
          (dirty_else true j g c hj hc
          (ap (λ t. (eqb g f && eqb c b) && t) other ∙ and_false (eqb g f && eqb c b)))
          ∙ d))

  -- a block that is counted
  counted_fits : (caching : Bool) → is_counted z.clients within used dirty f b ≡ true → Fits caching
  counted_fits caching was =
      omega (arith, shrinks_counted z within used dirty within (used_by caching) (dirty_by caching) less, h.fits)
    where
      less : Shrinks z within used dirty within (used_by caching) (dirty_by caching)
      less g c hg hc e =
          split (eqb g f && eqb c b)
          (λ same.
          let (file, block) = both (eqb g f) (eqb c b) same in
          rw (eqb-true g f file, eqb-true c b block) was)
          (λ other. else_counted caching g c hg hc other e)

  -- a block that was not, with a place left
  room_fits : (caching : Bool) → counted_in z within used dirty + 1 ≤ z.store → Fits caching
  room_fits caching room =
      omega
      (arith, one_counted z within used dirty (used_by caching) (dirty_by caching) f b (else_counted caching) hf, room)

  -- ---- a block that is not used is zero

  unused_zero :
      (caching : Bool) (g c : ℕ)
      → g < z.files
      → c < z.blocks
      → get_or (used_by caching) (place g c) false ≡ false
      → get_or (blocks_by caching) (place g c) 0 ≡ 0
  unused_zero true g c hg hc off = h.unused g c hg hc off
  unused_zero false g c hg hc off =
      split (eqb g f && eqb c b)
      (λ same. conflict (marks_own most used f b g c h.flags hf hb same) off)
      (λ other. blocks_else false g c hc other ∙ h.unused g c hg hc (sym (used_else false g c hc other) ∙ off))

  flags_by : (caching : Bool) → length (used_by caching) ≡ max_places
  flags_by true = h.flags
  flags_by false = length-set used (place f b) true ∙ h.flags

  words_by : (caching : Bool) → length (blocks_by caching) ≡ max_places
  words_by true = h.words
  words_by false = length-set blocks (place f b) v ∙ h.words

  -- a client under embargo may cache, and a write of another to a block that is not counted finds a place
  pub write_kept :
      (caching : Bool)
      → (within i ≡ false → caching ≡ true)
      → (within i ≡ true
      → is_counted z.clients within used dirty f b ≡ false
      → counted_in z within used dirty + 1 ≤ z.store)
      → KeptIn z within known (used_by caching)
      (recounted z.store free (counted_on z known used dirty f)
      (counted_on z known (used_by caching) (dirty_by caching) f))
      (blocks_by caching) (dirty_by caching)
  write_kept caching may room =
      file_kept h f part hf
      (record {
        places = λ g c hc other. used_else caching g c hc (ap (λ t. t && eqb c b) other);
        cells = λ j g c hj hc other. dirty_else caching j g c hj hc (ap (λ t. (t && eqb c b) && eqb j i) other);
      })
      (flags_by caching) (words_by caching)
      (split (within i)
      (λ w.
      split (is_counted z.clients within used dirty f b)
      (counted_fits caching)
      (λ new. room_fits caching (room w new)))
      (λ out. outside_fits caching (may out) out))
      (unused_zero caching)

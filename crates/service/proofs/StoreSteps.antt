-- The store after a step on a file or on a block, from its lists: where flags of dirty blocks go, where a flush or an
-- answer makes blocks used, and where a write makes a block dirty or used. Assumes nothing.
use Prim.Native.Nat.{ℕ, ◌<◌}
use native.Mathlib.Omega.{arith}
use mathlib.Core.Path.{◌≡◌, refl, sym, ap, ◌∙◌, subst⁻¹}
use mathlib.Core.Bool.{Bool, true, false, cond, ◌&&◌, ◌||◌}
use mathlib.Core.List.{List}
use lib.Dec.{eqb}
use lib.ListN.{length, get_or, set, length-set}
use lib.Seq.{get_or-set_same, get_or-set_other}
use borrow.Author.Tests.{eqb-true, eqb-false}
use Rattle.sizes.specs.declared.sizes.Sizes.{Sizes}
use Rattle.sizes.specs.Sizes.{Permitted, max_places, place, cell, first_place, first_cell}
use Rattle.sizes.proofs.InForce.{client_fits, file_fits, block_fits}
use Rattle.decision.specs.Lists.{stored}
use Rattle.decision.proofs.Storing.{length_stored, get_d_stored_other}
use Rattle.protocol.specs.Client.{kept, sent}
use Rattle.blocks.specs.declared.stores.Stores.{Stores}
use Rattle.blocks.specs.Stores.{dropped_unless}
use Rattle.service.specs.Space.{is_counted, counted_on, recounted}
use Rattle.service.proofs.Tests.{split, conflict, both}
use Rattle.service.proofs.Lists.{get_d_stored}
use Rattle.service.proofs.Contents.{place_same, cell_same, place_in, get_d_sent, length_sent}
use Rattle.service.proofs.Clearing.{Fewer, fewer_set, fewer_kept}
use Rattle.service.proofs.Committed.{used_counted, dirty_counted, counted_cases, Shrinks, shrinks_counted}
use Rattle.service.proofs.Committed.{neither}
use Rattle.service.proofs.StoreKept.{KeptIn, file_kept}

-- ---- blocks and copies that lose flags of dirty blocks

-- only that
pub record Loses (a a' : Stores) : Type 0 where
  pub blocks : a'.blocks ≡ a.blocks
  pub fewer : Fewer a.dirty a'.dirty

pub loses_none : (a : Stores) → Loses a a
loses_none a = record { blocks = refl; fewer = λ q on. on }

pub loses_unless : (n : ℕ) (keep : Bool) (i f : ℕ) (a : Stores) → Loses a (dropped_unless n keep i f a)
loses_unless n keep i f a = record { blocks = refl; fewer = fewer_kept n keep (first_cell i f) a.dirty }

-- and in file f alone
pub record Drops (z : Sizes) (f : ℕ) (l l' : List Bool) : Type 0 where
  pub fewer : Fewer l l'
  pub cells : (j g c : ℕ)
      → j < z.clients
      → c < z.blocks
      → eqb g f ≡ false
      → get_or l' (cell j g c) false ≡ get_or l (cell j g c) false

pub drops_none : (z : Sizes) (f : ℕ) (l : List Bool) → Drops z f l l
drops_none z f l = record { fewer = λ q on. on; cells = λ j g c hj hc other. refl }

pub drops_twice : (z : Sizes) (f : ℕ) (l l' l'' : List Bool) → Drops z f l l' → Drops z f l' l'' → Drops z f l l''
drops_twice z f l l' l'' first second =
    record {
      fewer = λ q on. first.fewer q (second.fewer q on);
      cells = λ j g c hj hc other. second.cells j g c hj hc other ∙ first.cells j g c hj hc other;
    }

module _ {z : Sizes} (most : Permitted z) where
  -- another block's places
  pub place_apart :
      (f b g c : ℕ)
      → b < z.blocks
      → c < z.blocks
      → (eqb g f && eqb c b) ≡ false
      → place g c ≡ place f b
      → ⊥
  place_apart f b g c hb hc other =
      eqb-false (place g c) (place f b) (place_same f g (block_fits most hb) (block_fits most hc) ∙ other)

  pub cell_apart :
      (i f b j g c : ℕ)
      → i < z.clients
      → j < z.clients
      → b < z.blocks
      → c < z.blocks
      → ((eqb g f && eqb c b) && eqb j i) ≡ false
      → cell j g c ≡ cell i f b
      → ⊥
  cell_apart i f b j g c hi hj hb hc other =
      eqb-false (cell j g c) (cell i f b)
      (cell_same f g (eqb g f && eqb c b) (client_fits most hi) (client_fits most hj) (block_fits most hb)
      (block_fits most hc) refl
      ∙ other)

  -- block b of file f is marked as used, and it alone
  pub marks_own :
      (used : List Bool) (f b g c : ℕ)
      → length used ≡ max_places
      → f < z.files
      → b < z.blocks
      → (eqb g f && eqb c b) ≡ true
      → get_or (set used (place f b) true) (place g c) false ≡ true
  marks_own used f b g c size hf hb same =
      let (file, block) = both (eqb g f) (eqb c b) same in
      rw (eqb-true g f file, eqb-true c b block)
      (get_or-set_same used (place f b) true false (place_in used size (file_fits most hf) (block_fits most hb)))

  pub marks_other :
      (used : List Bool) (f b g c : ℕ)
      → b < z.blocks
      → c < z.blocks
      → (eqb g f && eqb c b) ≡ false
      → get_or (set used (place f b) true) (place g c) false ≡ get_or used (place g c) false
  marks_other used f b g c hb hc other =
      get_or-set_other used (place f b) (place g c) true false (place_apart f b g c hb hc other)

  -- the copy of a client in force
  pub drops_kept :
      (keep : Bool) (i f : ℕ) (l : List Bool)
      → i < z.clients
      → Drops z f l (kept z.blocks keep false (first_cell i f) l)
  drops_kept keep i f l hi =
      record { fewer = fewer_kept z.blocks keep (first_cell i f) l; cells = stays keep }
    where
      stays :
          (keep : Bool) (j g c : ℕ)
          → j < z.clients
          → c < z.blocks
          → eqb g f ≡ false
          → get_or (kept z.blocks keep false (first_cell i f) l) (cell j g c) false ≡ get_or l (cell j g c) false
      stays true j g c hj hc other = refl
      stays false j g c hj hc other =
          get_d_stored_other z.blocks (cell i f) (λ b. false) l false (cell j g c)
          (λ b hb. cell_apart i f b j g c hi hj hb hc (ap (λ t. (t && eqb c b) && eqb j i) other))

-- ---- the steps

module _
    {z : Sizes}
    {within known : ℕ → Bool}
    {used : List Bool}
    {free : ℕ}
    {blocks : List ℕ}
    {dirty : List Bool}
    (most : Permitted z)
    (part : (i : ℕ) → known i ≡ true → within i ≡ true)
    (h : KeptIn z within known used free blocks dirty) where
  -- what a step on file f leaves of the store
  abbrev On : ℕ → List Bool → List ℕ → List Bool → Type 0
  On f used' blocks' dirty' =
      KeptIn z within known used'
      (recounted z.store free (counted_on z known used dirty f) (counted_on z known used' dirty' f)) blocks' dirty'

  -- one that makes no block used or dirty
  pub drop_kept :
      (f : ℕ) (blocks' : List ℕ) (dirty' : List Bool)
      → f < z.files
      → blocks' ≡ blocks
      → Drops z f dirty dirty'
      → On f used blocks' dirty'
  drop_kept f blocks' dirty' hf stay drops =
      subst⁻¹ (λ (blocks' : List ℕ). On f used blocks' dirty') stay
      (file_kept h f part hf (record { places = λ g c hc other. refl; cells = drops.cells }) h.flags h.words
      (omega (arith, shrinks_counted z within used dirty within used dirty' less, h.fits)) h.unused)
    where
      less : Shrinks z within used dirty within used dirty'
      less g c hg hc e =
          counted_cases z.clients within used dirty' g c e
          (used_counted z.clients within used dirty g c)
          (λ j hj w d. dirty_counted z.clients within used dirty g c j hj w (drops.fewer (cell j g c) d))

  -- block b of file f, which is dirty at client i, is sent and clean
  pub flush_kept :
      (i f b v : ℕ)
      → i < z.clients
      → f < z.files
      → b < z.blocks
      → within i ≡ true
      → get_or dirty (cell i f b) false ≡ true
      → On f (set used (place f b) true) (set blocks (place f b) v) (set dirty (cell i f b) false)
  flush_kept i f b v hi hf hb w d =
      file_kept h f part hf
      (record {
        places = λ g c hc other. marks_other most used f b g c hb hc (ap (λ t. t && eqb c b) other);
        cells = λ j g c hj hc other.
            get_or-set_other dirty (cell i f b) (cell j g c) false false
            (cell_apart most i f b j g c hi hj hb hc (ap (λ t. (t && eqb c b) && eqb j i) other));
      })
      (length-set used (place f b) true ∙ h.flags)
      (length-set blocks (place f b) v ∙ h.words)
      (omega (
        arith,
        shrinks_counted z within used dirty within (set used (place f b) true) (set dirty (cell i f b) false) less,
        h.fits,
      ))
      (λ g c hg hc off.
      split (eqb g f && eqb c b)
      (λ same. conflict (marks_own most used f b g c h.flags hf hb same) off)
      (λ other.
      get_or-set_other blocks (place f b) (place g c) v 0 (place_apart most f b g c hb hc other)
      ∙ h.unused g c hg hc (sym (marks_other most used f b g c hb hc other) ∙ off)))
    where
      less : Shrinks z within used dirty within (set used (place f b) true) (set dirty (cell i f b) false)
      less g c hg hc e =
          split (eqb g f && eqb c b)
          (λ same.
          let (file, block) = both (eqb g f) (eqb c b) same in
          rw (eqb-true g f file, eqb-true c b block) (dirty_counted z.clients within used dirty f b i hi w d))
          (λ other.
          counted_cases z.clients within (set used (place f b) true) (set dirty (cell i f b) false) g c e
          (λ u. used_counted z.clients within used dirty g c (sym (marks_other most used f b g c hb hc other) ∙ u))
          (λ j hj w d.
          dirty_counted z.clients within used dirty g c j hj w (fewer_set dirty (cell i f b) (cell j g c) d)))

  -- client i answers for file f, and sends its dirty blocks if `sends` holds
  module _ (i f : ℕ) (sends : Bool) (copies : List ℕ) (hi : i < z.clients) (hf : f < z.files) where
    abbrev sent_used : List Bool
    sent_used =
        stored z.blocks (λ b. place f b)
        (λ b. get_or used (place f b) false || (sends && get_or dirty (cell i f b) false))
        used

    sent-used :
        (g c : ℕ) (t : Bool)
        → c < z.blocks
        → eqb g f ≡ t
        → get_or sent_used (place g c) false
        ≡ cond t (get_or used (place f c) false || (sends && get_or dirty (cell i f c) false)) (get_or used (place g c) false)
    sent-used g c t hc e =
        get_d_stored z.blocks (place f)
        (λ b. get_or used (place f b) false || (sends && get_or dirty (cell i f b) false)) used (place g c) false t c hc
        (λ k hk. place_in used h.flags (file_fits most hf) (block_fits most hk))
        (λ k hk. place_same f g (block_fits most hk) (block_fits most hc) ∙ ap (λ x. x && eqb c k) e)

    abbrev sent_blocks : List ℕ
    sent_blocks = sent z.blocks sends dirty copies (first_cell i f) (first_place f) blocks

    pub answer_kept :
        (dirty' : List Bool)
        → within i ≡ true
        → Drops z f dirty dirty'
        → On f sent_used sent_blocks dirty'
    answer_kept dirty' w drops =
        file_kept h f part hf
        (record { places = λ g c hc other. sent-used g c false hc other; cells = drops.cells })
        (length_stored z.blocks (λ b. place f b)
        (λ b. get_or used (place f b) false || (sends && get_or dirty (cell i f b) false)) used
        ∙ h.flags)
        (length_sent z.blocks dirty copies blocks sends (first_cell i f) (first_place f) ∙ h.words)
        (omega (arith, shrinks_counted z within used dirty within sent_used dirty' less, h.fits))
        (λ g c hg hc off. zero g c hg hc (eqb g f) refl off)
      where
        less : Shrinks z within used dirty within sent_used dirty'
        less g c hg hc e =
            counted_cases z.clients within sent_used dirty' g c e
            (λ u. was g c hc (eqb g f) refl u)
            (λ j hj w d. dirty_counted z.clients within used dirty g c j hj w (drops.fewer (cell j g c) d))
          where
            by : (c : ℕ) → (get_or used (place f c) false || (sends && get_or dirty (cell i f c) false)) ≡ true
                → is_counted z.clients within used dirty f c ≡ true
            by c e =
                split (get_or used (place f c) false)
                (used_counted z.clients within used dirty f c)
                (λ off.
                let came : (sends && get_or dirty (cell i f c) false) ≡ true = rw off at e in
                dirty_counted z.clients within used dirty f c i hi w
                (both sends (get_or dirty (cell i f c) false) came).1)

            was : (g c : ℕ) → c < z.blocks → (t : Bool) → eqb g f ≡ t → get_or sent_used (place g c) false ≡ true
                → is_counted z.clients within used dirty g c ≡ true
            was g c hc true same u =
                rw (eqb-true g f same) (by c (sym (sent-used g c true hc same) ∙ u))
            was g c hc false other u =
                used_counted z.clients within used dirty g c (sym (sent-used g c false hc other) ∙ u)

        zero :
            (g c : ℕ)
            → g < z.files
            → c < z.blocks
            → (t : Bool)
            → eqb g f ≡ t
            → get_or sent_used (place g c) false ≡ false
            → get_or sent_blocks (place g c) 0 ≡ 0
        zero g c hg hc true same off =
            let (unused, stays) =
            neither (get_or used (place f c) false) (sends && get_or dirty (cell i f c) false)
            (sym (sent-used g c true hc same) ∙ off) in
            get_d_sent z.blocks dirty copies blocks sends i g true h.words most.blocks (file_fits most hf) hc
            same
            ∙ ap (λ t. cond t (get_or copies (cell i f c) 0) (get_or blocks (place f c) 0)) stays
            ∙ h.unused f c hf hc unused
        zero g c hg hc false other off =
            get_d_sent z.blocks dirty copies blocks sends i g false h.words most.blocks (file_fits most hf) hc
            other
            ∙ h.unused g c hg hc (sym (sent-used g c false hc other) ∙ off)

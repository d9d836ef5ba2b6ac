-- The invariant of the store: every block that is used, or dirty at a client without embargo, has its place, and the
-- free places and those that the server knows to be taken make the store. What each class of steps must show to keep
-- it. Assumes nothing.
use Prim.Native.Nat.{ℕ, ◌+◌, ◌-◌, ◌≤◌, ◌<◌}
use native.Mathlib.Omega.{arith}
use mathlib.Core.Path.{◌≡◌, refl, ap, ◌∙◌, subst, subst⁻¹}
use mathlib.Core.Bool.{Bool, true, false, not, ◌&&◌, ◌||◌}
use mathlib.Core.List.{List}
use lib.ListN.{length, get_or}
use Rattle.sizes.specs.declared.sizes.Sizes.{Sizes}
use Rattle.sizes.specs.Sizes.{max_places, at_most, place}
use Rattle.service.specs.declared.service.Service.{Service}
use Rattle.service.specs.Contents.{sizes_of, table_in, reported_at, free_of}
use Rattle.service.specs.Space.{counted_on, counted_in, used_in, is_within, is_known, recounted}
use Rattle.service.proofs.Tests.{conflict, both, and_true}
use Rattle.service.proofs.Committed.{used_counted, dirty_counted, counted_cases, Shrinks, shrinks_counted}
use Rattle.service.proofs.Committed.{Elsewhere, elsewhere_counted, none_counted, reads_own_lem, recount_makes}

-- z are the sizes in force, `within` the clients without embargo and `known` those that the server knows of
pub record KeptIn
    (z : Sizes)
    (within known : ℕ → Bool)
    (used : List Bool)
    (free : ℕ)
    (blocks : List ℕ)
    (dirty : List Bool) : Type 0 where
  pub flags : length used ≡ max_places
  pub words : length blocks ≡ max_places
  pub fits : counted_in z within used dirty ≤ z.store
  pub makes : at_most z.store free + counted_in z known used dirty ≡ z.store
  pub unused : (f b : ℕ)
      → f < z.files
      → b < z.blocks
      → get_or used (place f b) false ≡ false
      → get_or blocks (place f b) 0 ≡ 0

abbrev pub Kept : Service → Type 0
Kept s =
    KeptIn (sizes_of s) (is_within s) (is_known s) s.server.used s.server.free s.server.blocks s.dirty

-- ---- the clients that the server knows of

pub known_within : (s : Service) (i : ℕ) → is_known s i ≡ true → is_within s i ≡ true
known_within s i e = (both (is_within s i) (not (table_in s).recovering || reported_at s i) e).0

-- while the server runs it knows of all
running_knows : (s : Service) → (table_in s).recovering ≡ false → is_known s ≡ is_within s
running_knows s runs =
    λ k i. (ap (λ r. is_within s i && (not r || reported_at s i)) runs ∙ and_true (is_within s i)) k

-- so that the free places and all that are counted make the store
pub running_makes :
    (s : Service)
    → Kept s
    → (table_in s).recovering ≡ false
    → free_of s + counted_in (sizes_of s) (is_within s) s.server.used s.dirty ≡ (sizes_of s).store
running_makes s h runs =
    subst
    (λ (who : ℕ → Bool). free_of s + counted_in (sizes_of s) who s.server.used s.dirty ≡ (sizes_of s).store)
    (running_knows s runs) h.makes

-- what they have is counted of all
known_fewer :
    (z : Sizes) (within known : ℕ → Bool) (used dirty : List Bool)
    → ((i : ℕ) → known i ≡ true → within i ≡ true)
    → counted_in z known used dirty ≤ counted_in z within used dirty
known_fewer z within known used dirty part =
    shrinks_counted z within used dirty known used dirty
    (λ f b hf hb e.
    counted_cases z.clients known used dirty f b e
    (used_counted z.clients within used dirty f b)
    (λ i hi w d. dirty_counted z.clients within used dirty f b i hi (part i w) d))

-- ---- the classes of steps

module _
    {z : Sizes}
    {within known : ℕ → Bool}
    {used : List Bool}
    {free : ℕ}
    {blocks : List ℕ}
    {dirty : List Bool}
    (h : KeptIn z within known used free blocks dirty) where
  -- a step on file f, or on a block of it: the places that are taken in that file are counted again
  pub file_kept :
      {used' dirty' : List Bool} {blocks' : List ℕ} (f : ℕ)
      → ((i : ℕ) → known i ≡ true → within i ≡ true)
      → f < z.files
      → Elsewhere z used dirty used' dirty' f
      → length used' ≡ max_places
      → length blocks' ≡ max_places
      → counted_in z within used' dirty' ≤ z.store
      → ((g c : ℕ)
      → g < z.files
      → c < z.blocks
      → get_or used' (place g c) false ≡ false
      → get_or blocks' (place g c) 0 ≡ 0)
      → KeptIn z within known used'
      (recounted z.store free (counted_on z known used dirty f) (counted_on z known used' dirty' f)) blocks' dirty'
  file_kept {used'} {dirty'} f part hf same flags words fits unused =
      record {
        flags = flags;
        words = words;
        fits = fits;
        makes =
            recount_makes z.store free (counted_in z known used dirty) (counted_in z known used' dirty')
            (counted_on z known used dirty f) (counted_on z known used' dirty' f) h.makes
            (elsewhere_counted z used dirty used' dirty' f known same hf)
            (omega (arith, known_fewer z within known used' dirty' part, fits));
        unused = unused;
      }

  -- a step on the table or on all files: the places that are taken in all are counted again
  pub all_kept :
      {z' : Sizes} {within' known' : ℕ → Bool} {dirty' : List Bool} {blocks' : List ℕ}
      → ((i : ℕ) → known' i ≡ true → within' i ≡ true)
      → z' ≡ z
      → blocks' ≡ blocks
      → Shrinks z within used dirty within' used dirty'
      → KeptIn z' within' known' used
      (recounted z.store free (counted_in z known used dirty) (counted_in z' known' used dirty')) blocks' dirty'
  all_kept {z'} {within'} {known'} {dirty'} {blocks'} part size stay less =
      subst⁻¹
      (λ (z' : Sizes).
      KeptIn z' within' known' used
      (recounted z.store free (counted_in z known used dirty) (counted_in z' known' used dirty')) blocks' dirty')
      size
      (subst⁻¹
      (λ (blocks' : List ℕ).
      KeptIn z within' known' used
      (recounted z.store free (counted_in z known used dirty) (counted_in z known' used dirty')) blocks' dirty')
      stay
      (record {
        flags = h.flags;
        words = h.words;
        fits = fits;
        makes =
            recount_makes z.store free (counted_in z known used dirty) (counted_in z known' used dirty')
            (counted_in z known used dirty) (counted_in z known' used dirty') h.makes (omega arith)
            (omega (arith, known_fewer z within' known' used dirty' part, fits));
        unused = h.unused;
      }))
    where
      fits : counted_in z within' used dirty' ≤ z.store
      fits = omega (arith, shrinks_counted z within used dirty within' used dirty' less, h.fits)

  -- a crash: the server knows of nobody
  pub crash_kept :
      {known' : ℕ → Bool}
      → ((i : ℕ) → i < z.clients → known' i ≡ false)
      → KeptIn z within known' used (z.store - used_in z used) blocks dirty
  crash_kept {known'} nobody =
      record {
        flags = h.flags;
        words = h.words;
        fits = h.fits;
        makes =
            rw (none_counted z known' used dirty nobody, reads_own_lem z.store (z.store - used_in z used) (omega arith))
            (omega (arith, few));
        unused = h.unused;
      }
    where
      few : used_in z used ≤ z.store
      few =
          let all : counted_in z (λ i. false) used dirty ≡ used_in z used =
          none_counted z (λ i. false) used dirty (λ i hi. refl) in
          omega (arith, all, known_fewer z within (λ i. false) used dirty (λ i e. conflict e refl), h.fits)

-- The lines of a block after a line. It leads to the promise on every list of lines. Assumes nothing.
use Prim.Native.Nat.{ℕ, ◌+◌, ◌≤◌, ◌<◌}
use native.Mathlib.Omega.{arith}
use mathlib.Core.Path.{◌≡◌, refl, sym, ap, ◌∙◌}
use mathlib.Core.Bool.{Bool, true, false, cond, not, ◌&&◌}
use lib.Dec.{eqb}
use borrow.Author.Tests.{eqb-true, eqb-false, ne_eqb}
use Rattle.sizes.specs.declared.sizes.Sizes.{Sizes}
use Rattle.sizes.specs.Sizes.{max_blocks, max_places, Permitted, place}
use Rattle.sizes.proofs.InForce.{file_fits, block_fits}
use Rattle.protocol.specs.declared.step.Step.{Step}
use Rattle.protocol.specs.declared.step.Step.TheVariants.{Open, Close, Read, Write, Flush, Answer, Crash, Report, End}
use Rattle.protocol.specs.declared.step.Step.TheVariants.{Restart, Embargo, Lift}
use Rattle.protocol.specs.Step.{file_of, block_of}
use Rattle.service.specs.declared.service.Service.{Service}
use Rattle.service.specs.Contents.{sizes_of, embargoed_at}
use Rattle.service.specs.Demand3.{refused, delays}
use Rattle.service.proofs.Tests.{cond_ap, and_true, and_false}
use Rattle.service.proofs.Contents.{place_same}
use Rattle.ledger.specs.declared.ledger.Ledger.{Ledger}
use Rattle.ledger.specs.declared.lines.Lines.{Lines}
use Rattle.ledger.specs.Ledger.{lines_in, lines_at, wrote_lines, came_lines, lost_lines, write_noted, came_from}
use Rattle.ledger.specs.Ledger.{lost_below, embargo_noted, ledger_after}
use Rattle.ledger.proofs.BlockLines.{Ruled, lines_with, came_past, came_at_lem, lost_at_lem}
use Rattle.ledger.proofs.Entries.{names_there, place_fits, step_place, step_file}

-- what line n makes of the lines x of block b of file f, where it gives the step to the service s
abbrev pub lines_after : ℕ → ℕ → ℕ → Service → Step → Bool → Lines → Lines
lines_after f b n s (Open m i f') refusal x = x
lines_after f b n s (Close m i f') refusal x = x
lines_after f b n s (Read i f' b') refusal x = x
lines_after f b n s (Write i f' b' v) refusal x =
    cond (eqb f f' && eqb b b' && not refusal) (wrote_lines n i (embargoed_at s i) (delays s i f') x) x
lines_after f b n s (Flush i f' b') refusal x = cond (eqb f f' && eqb b b' && not refusal) (came_lines i x) x
lines_after f b n s (Answer i f') refusal x = cond (eqb f f' && not refusal) (came_lines i x) x
lines_after f b n s Crash refusal x = x
lines_after f b n s (Report i) refusal x = x
lines_after f b n s End refusal x = x
lines_after f b n s (Restart i) refusal x = cond refusal x (lost_lines i x)
lines_after f b n s (Embargo i f') refusal x = cond refusal x (lost_lines i x)
lines_after f b n s (Lift i) refusal x = x

-- The sizes in force are permitted, the ledger has its lengths, and block b of file f is one.
module _
    {z : Sizes}
    (most : Permitted z)
    (n : ℕ)
    (s : Service)
    (size : sizes_of s ≡ z)
    (l : Ledger)
    (ruled : Ruled l)
    (f : ℕ)
    (hf : f < z.files)
    (b : ℕ)
    (hb : b < z.blocks) where
  inside : place f b < max_places
  inside = place_fits (file_fits most hf) (block_fits most hb)

  -- where a change is made unless the step is refused, and hits the block where t holds
  hit :
      (t r : Bool) (m : Ledger) (y : Lines)
      → (r ≡ false → lines_at m f b ≡ cond t y (lines_at l f b))
      → lines_at (cond r l m) f b ≡ cond (t && not r) y (lines_at l f b)
  hit t true m y h = ap (λ x. cond x y (lines_at l f b)) (sym (and_false t))
  hit t false m y h = h refl ∙ ap (λ x. cond x y (lines_at l f b)) (sym (and_true t))

  -- the place that an accepted step names is this one, or it is not
  here :
      (x : Step)
      → refused s x ≡ false
      → eqb (place f b) (place (file_of x) (block_of x)) ≡ (eqb f (file_of x) && eqb b (block_of x))
  here x a =
      let (_, _, block) = names_there most s size x a in
      place_same (file_of x) f (block_fits most block) (block_fits most hb)

  flushed_lines :
      (i p : ℕ) (t : Bool)
      → p < max_places
      → eqb (place f b) p ≡ t
      → lines_at (came_from i p 1 l) f b ≡ cond t (came_lines i (lines_at l f b)) (lines_at l f b)
  flushed_lines i p true below e =
      came_at_lem i p l ruled (place f b) inside 1 0 (omega (arith, below)) (omega arith)
      (let same = eqb-true (place f b) p e in omega (arith, same))
  flushed_lines i p false below e =
      came_past i p l ruled (place f b) inside 1 (omega (arith, below))
      (λ j first. ne_eqb (place f b) (p + j)
      (λ same. let other = eqb-false (place f b) p e in other (omega (arith, same, first))))

  -- what a restart or an embargo loses
  forgotten_lines :
      (i n' : ℕ) (r : Bool)
      → lines_at (cond r l (embargo_noted n' i (lost_below i max_places l))) f b
      ≡ cond r (lines_at l f b) (lost_lines i (lines_at l f b))
  forgotten_lines i n' true = refl
  forgotten_lines i n' false = lost_at_lem i l ruled (place f b) inside

  answered_lines :
      (i f' : ℕ) (t : Bool)
      → place f' 0 + max_blocks ≤ max_places
      → eqb f f' ≡ t
      → lines_at (came_from i (place f' 0) max_blocks l) f b ≡ cond t (came_lines i (lines_at l f b)) (lines_at l f b)
  answered_lines i f' true fits e =
      let small = block_fits most hb in
      came_at_lem i (place f' 0) l ruled (place f b) inside max_blocks b fits small
      (let same = eqb-true f f' e in omega (arith, same))
  answered_lines i f' false fits e =
      came_past i (place f' 0) l ruled (place f b) inside max_blocks fits
      (λ j below. ne_eqb (place f b) (place f' 0 + j)
      (λ same.
      let small = block_fits most hb in
      let other = eqb-false f f' e in
      other (omega (arith, same, below, small))))

  pub lines_after_lem :
      (x : Step) → lines_at (ledger_after n s x l) f b ≡ lines_after f b n s x (refused s x) (lines_at l f b)
  unfolding ledger_after
  lines_after_lem (Open m i f') = refl
  lines_after_lem (Close m i f') = refl
  lines_after_lem (Read i f' b') = refl
  lines_after_lem (Write i f' b' v) =
      let x = Write i f' b' v in
      let y = wrote_lines n i (embargoed_at s i) (delays s i f') (lines_at l f b) in
      hit (eqb f f' && eqb b b') (refused s x) (write_noted n i (place f' b') (embargoed_at s i) (delays s i f') l) y
      (λ a.
      lines_with (wrote_lines n i (embargoed_at s i) (delays s i f') (lines_at l f' b')) (place f' b') (step_place most s size x a) l ruled
      (place f b) inside
      ∙ written-here i f' b' (eqb (place f b) (place f' b')) refl
      ∙ ap (λ t. cond t y (lines_at l f b)) (here x a))
    where
      -- the lines that the change is of are those of the block, where it hits
      written-here :
          (i f' b' : ℕ) (t : Bool)
          → eqb (place f b) (place f' b') ≡ t
          → cond t (wrote_lines n i (embargoed_at s i) (delays s i f') (lines_at l f' b')) (lines_at l f b)
          ≡ cond t (wrote_lines n i (embargoed_at s i) (delays s i f') (lines_at l f b)) (lines_at l f b)
      written-here i f' b' true e =
          ap (λ p. wrote_lines n i (embargoed_at s i) (delays s i f') (lines_in l p)) (sym (eqb-true (place f b) (place f' b') e))
      written-here i f' b' false e = refl
  lines_after_lem (Flush i f' b') =
      let x = Flush i f' b' in
      hit (eqb f f' && eqb b b') (refused s x) (came_from i (place f' b') 1 l) (came_lines i (lines_at l f b))
      (λ a. flushed_lines i (place f' b') (eqb f f' && eqb b b') (step_place most s size x a) (here x a))
  lines_after_lem (Answer i f') =
      let x = Answer i f' in
      hit (eqb f f') (refused s x) (came_from i (place f' 0) max_blocks l) (came_lines i (lines_at l f b))
      (λ a. answered_lines i f' (eqb f f') (step_file most s size x a) refl)
  lines_after_lem Crash = refl
  lines_after_lem (Report i) = refl
  lines_after_lem End = refl
  lines_after_lem (Restart i) = forgotten_lines i 0 (refused s (Restart i))
  lines_after_lem (Embargo i f') = forgotten_lines i n (refused s (Embargo i f'))
  lines_after_lem (Lift i) =
      cond_ap (λ m. lines_at m f b) (refused s (Lift i)) l (embargo_noted 0 i l) ∙ either_same (refused s (Lift i))
    where
      either_same : (r : Bool) → cond r (lines_at l f b) (lines_at l f b) ≡ lines_at l f b
      either_same true = refl
      either_same false = refl

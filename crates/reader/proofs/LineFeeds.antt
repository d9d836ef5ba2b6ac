-- The line at an offset, by what the reader of a step answers there, and the search for LF. Assumes nothing.
use Prim.Native.Nat.{ℕ, suc, ◌+◌, ◌≤◌, ◌<◌}
use mathlib.Core.Path.{◌≡◌, refl, sym, ◌∙◌, ap}
use mathlib.Core.List.{List, [], ◌∷◌}
use native.Mathlib.Omega.{arith}
use lib.Dec.{eqb}
use lib.ListN.{length, get_or, take, drop, drop_of_length-le, length-drop}
use Rattle.protocol.specs.declared.step.Step.{Step}
use Rattle.stepfile.specs.Grammar.{Reading, found, nothing, onward, step}
use Rattle.stepfile.specs.declared.parsed.Line.{Line}
use Rattle.stepfile.specs.Input.{first_line, line_read, read_at, no_step_at, line_of}
use Rattle.sizes.proofs.Choosing.{when, unless, split}
use Rattle.stepfile.proofs.Digits.{at_offset}
use Rattle.stepfile.proofs.AsWritten.{never}
use Rattle.stepfile.proofs.FirstLines.{reads_step, reads_none}
use Rattle.reader.specs.declared.found.Found.{Found}
use Rattle.reader.specs.Offsets.{found_in}
use Rattle.std.proofs.Common.{Bool, ◌==◌, Option, Some, None, position, slice_range}
use Rattle.std.specs.List.{position_from}
use Rattle.std.proofs.Math.Seq.{take-length}
use Rattle.std.proofs.lemmas.Iterator.Adapters.{position_from-zero}

module _ (s : List ℕ) (at : ℕ) where
  -- by what a reader of the step answers
  module _ (r : Option (Found Step)) (read : step (drop at s) ≡ found_in s r) where
    pub reads-missing : r ≡ None → no_step_at s at ≡ read_at s at
    reads-missing e = reads_none s at (λ y m f. never _ _ _ (read ∙ ap (found_in s) e) f)

    module _ (x : Found Step) (is : r ≡ Some x) where
      pub reads_short : length s ≤ x.next → no_step_at s at ≡ read_at s at
      reads_short h =
          reads_none s at
          (λ y m f.
          let there : found x.value [] ≡ found y (10 ∷ m) =
          sym (read ∙ ap (found_in s) is ∙ ap (found x.value) (drop_of_length-le s h)) ∙ f in
          let z : ◌≡◌ {A = ℕ} 0 1 = cc in
          omega arith)

      pub reads-longer : x.next < length s → (get_or s x.next 0 ≡ 10 → ⊥) → no_step_at s at ≡ read_at s at
      reads-longer h other =
          reads_none s at
          (λ y m f.
          let there : found x.value (get_or s x.next 0 ∷ drop (x.next + 1) s) ≡ found y (10 ∷ m) =
          sym (read ∙ ap (found_in s) is ∙ ap (found x.value) (at_offset s x.next h)) ∙ f in
          other (cc))

      pub reads-line : x.next < length s → get_or s x.next 0 ≡ 10 → line_of (Some x.value) (x.next + 1) ≡ read_at s at
      reads-line h lf = reads_step s at x.value x.next (read ∙ ap (found_in s) is) h lf

-- the line that is no step, by the place of the first LF: the bytes d stand at offset b + i
abbrev pub line_feed : ℕ → Bool
line_feed byte = byte == 10

abbrev pub ended : ℕ → Option ℕ → Option Line
ended b (Some n) = line_of None (b + n + 1)
ended b None = None

ended_from : (d : List ℕ) (b i : ℕ) → ended b (position_from line_feed i d) ≡ line_read (λ line. None) (b + i) (first_line d)
unfolding first_line
ended_from [] b i = refl
ended_from (x ∷ d) b i =
    split (eqb x 10)
    (λ lf.
    let offset : b + i + 1 ≡ b + i + 0 + 1 = omega arith in
    ap (ended b) (when _ _ lf) ∙ ap (line_of None) offset ∙ sym (ap (line_read (λ line. None) (b + i)) (when _ _ lf)))
    (λ other.
    ap (ended b) (unless _ _ other) ∙ ended_from d b (i + 1) ∙ further (first_line d)
    ∙ sym (ap (line_read (λ line. None) (b + i)) (unless _ _ other)))
  where
    further : (t : Reading (List ℕ))
        → line_read (λ line. None) (b + (i + 1)) t ≡ line_read (λ line. None) (b + i) (onward t (λ line rest. found (x ∷ line) rest))
    further (found l r) =
        let offset : b + (i + 1) + length l + 1 ≡ b + i + suc (length l) + 1 = omega arith in
        ap (line_of None) offset
    further nothing = refl

module _ (s : List ℕ) (at : ℕ) where
  pub search_none : length s ≤ at → None ≡ no_step_at s at
  unfolding first_line
  search_none h = sym (ap (λ d. line_read (λ line. None) at (first_line d)) (drop_of_length-le s h))

  pub ended_by : (d : List ℕ) → d ≡ slice_range s at (length s) → at ≤ length s → ended at (position line_feed d) ≡ no_step_at s at
  ended_by d is h =
      let rest : slice_range s at (length s) ≡ drop at s =
      ap (λ k. take k (drop at s)) (sym (length-drop at s)) ∙ take-length (drop at s) in
      let start : at + 0 ≡ at = omega arith in
      ap (ended at) (position_from-zero line_feed d)
      ∙ ended_from d at 0
      ∙ ap (λ k. line_read (λ line. None) k (first_line d)) start
      ∙ ap (λ d. line_read (λ line. None) at (first_line d)) (is ∙ rest)

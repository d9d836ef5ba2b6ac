-- The first line of an input, and whether it is a step. Assumes nothing.
use Prim.Native.Nat.{ℕ, zero, suc, ◌+◌, ◌-◌, ◌/◌, ◌%◌, ◌≤◌, ◌<◌}
use mathlib.Core.Path.{◌≡◌, refl, sym, ◌∙◌, ap, subst}
use mathlib.Core.Bool.{false}
use mathlib.Core.List.{List, [], ◌∷◌, ◌++◌, append-nil}
use native.Mathlib.Omega.{arith}
use lib.Dec.{eqb, ltb}
use lib.ListN.{length, get_or, drop, length-append, length-drop}
use borrow.Author.Tests.{ne_eqb, eqb-true, ltb-true, ltb-false}
use Rattle.records.specs.declared.record.Mode.TheVariants.{Read as ForRead, Write as ForWrite}
use Rattle.protocol.specs.declared.step.Step.{Step}
use Rattle.protocol.specs.declared.step.Step.TheVariants.{Open, Close, Read, Write, Flush, Answer, Crash, Report, End}
use Rattle.protocol.specs.declared.step.Step.TheVariants.{Restart, Embargo, Lift}
use Rattle.stepfile.specs.Text.{decimal, values_text}
use Rattle.stepfile.specs.Grammar.{Reading, found, nothing, onward, step, parse_line}
use Rattle.stepfile.specs.StepText.{word_of, numbers_of, step_text}
use Rattle.stepfile.specs.Input.{before_whole, whole_lines, first_line, line_read, read_at, no_step_at, line_of}
use Rattle.sizes.proofs.Choosing.{when, unless, split}
use Rattle.stepfile.proofs.Digits.{at_offset}
use Rattle.stepfile.proofs.Decimals.{decimal_small, decimal_large}
use Rattle.stepfile.proofs.ReadsBack.{step_back, reads_back}
use Rattle.stepfile.proofs.AsWritten.{never, step_as_written, line_as_step}
use Rattle.stepfile.proofs.Splitting.{NoLF, no_lf_append}
use Rattle.std.proofs.Common.{Option, Some, None}

-- an input that starts with a line, and the line that an input starts with
pub first_found : (l r : List ℕ) → NoLF l → first_line (l ++ (10 ∷ r)) ≡ found l r
unfolding first_line
first_found [] r none = refl
first_found (b ∷ l) r none =
    unless _ _ none.0 ∙ ap (λ t. onward t (λ line rest. found (b ∷ line) rest)) (first_found l r none.1)

pub record FirstLine (d l r : List ℕ) : Type 0 where
  pub text : d ≡ l ++ (10 ∷ r)
  pub none : NoLF l

first_more : (b : ℕ) (d l r : List ℕ) → eqb b 10 ≡ false → ((x : List ℕ) → first_line d ≡ found x r → FirstLine d x r)
    → (t : Reading (List ℕ)) → first_line d ≡ t → onward t (λ line rest. found (b ∷ line) rest) ≡ found l r → FirstLine (b ∷ d) l r
first_more b d l r e others (found x q) is f =
    let line : b ∷ x ≡ l = cc in
    let rest : q ≡ r = cc in
    let w = others x (is ∙ ap (found x) rest) in
    record { text = ap (λ k. b ∷ k) w.text ∙ ap (λ k. k ++ (10 ∷ r)) line; none = subst NoLF line (e, w.none) }
first_more b d l r e others nothing is f = absurd (never _ _ _ refl f)

pub first_line_lem : (d l r : List ℕ) → first_line d ≡ found l r → FirstLine d l r
unfolding first_line
first_line_lem [] l r e = absurd (never _ _ _ refl e)
first_line_lem (b ∷ d) l r e =
    split (eqb b 10)
    (λ lf.
    let f = sym (when _ _ lf) ∙ e in
    let line : [] ≡ l = cc in
    let rest : d ≡ r = cc in
    record { text = cc (eqb-true b 10 lf); none = subst NoLF line tt })
    (λ lf. first_more b d l r lf (λ x. first_line_lem d x r) (first_line d) refl (sym (unless _ _ lf) ∙ e))

-- the whole lines of an input: its first line and those after it; none, where there is no LF
whole_line : (l r : List ℕ) → NoLF l → whole_lines (l ++ (10 ∷ r)) ≡ l ∷ whole_lines r
unfolding whole_lines
whole_line [] r none = refl
whole_line (b ∷ l) r none =
    ap (before_whole (eqb b 10) b) (whole_line l r none.1) ∙ ap (λ t. before_whole t b (l ∷ whole_lines r)) none.0

pub whole_first : (d l r : List ℕ) → FirstLine d l r → whole_lines d ≡ l ∷ whole_lines r
whole_first d l r w = ap whole_lines w.text ∙ whole_line l r w.none

pub whole_none : (d : List ℕ) → NoLF d → whole_lines d ≡ []
unfolding whole_lines
whole_none [] none = refl
whole_none (b ∷ d) none = ap (before_whole (eqb b 10) b) (whole_none d none.1) ∙ ap (λ t. before_whole t b []) none.0

-- no byte of a step as it is written is LF
digit_no_lf : (n : ℕ) → eqb (48 + n) 10 ≡ false
digit_no_lf n = ne_eqb (48 + n) 10 (omega arith)

decimal_no_lf : (k n : ℕ) → n ≤ k → NoLF (decimal n)
decimal_no_lf zero n h = rw (decimal_small n (omega arith)) (digit_no_lf n, tt)
decimal_no_lf (suc k) n h =
    split (ltb n 10)
    (λ e. rw (decimal_small n (ltb-true n 10 e)) (digit_no_lf n, tt))
    (λ e.
    let large = ltb-false n 10 e in
    rw (decimal_large n large)
    (no_lf_append (decimal (n / 10)) _ (decimal_no_lf k (n / 10) (omega arith)) (digit_no_lf (n % 10), tt)))

values_no_lf : (ns : List ℕ) → NoLF (values_text ns)
unfolding values_text
values_no_lf [] = tt
values_no_lf (n ∷ ns) = (refl, no_lf_append (decimal n) (values_text ns) (decimal_no_lf n n (omega arith)) (values_no_lf ns))

word_no_lf : (s : Step) → NoLF (word_of s)
word_no_lf (Open ForRead i f) = (refl, (refl, tt))
word_no_lf (Open ForWrite i f) = (refl, (refl, tt))
word_no_lf (Close ForRead i f) = (refl, (refl, tt))
word_no_lf (Close ForWrite i f) = (refl, (refl, tt))
word_no_lf (Answer i f) = (refl, (refl, tt))
word_no_lf (Read i f b) = (refl, (refl, tt))
word_no_lf (Flush i f b) = (refl, (refl, tt))
word_no_lf (Write i f b v) = (refl, (refl, tt))
word_no_lf Crash = (refl, (refl, tt))
word_no_lf (Report i) = (refl, (refl, tt))
word_no_lf End = (refl, (refl, tt))
word_no_lf (Restart i) = (refl, (refl, tt))
word_no_lf (Embargo i f) = (refl, (refl, tt))
word_no_lf (Lift i) = (refl, (refl, tt))

pub step_no_lf : (s : Step) → NoLF (step_text s)
step_no_lf s = no_lf_append (word_of s) (values_text (numbers_of s)) (word_no_lf s) (values_no_lf (numbers_of s))

-- a step with LF after it is a line
module _ (s : List ℕ) (at : ℕ) (x : Step) (next : ℕ) (read : step (drop at s) ≡ found x (drop next s)) where
  pub reads_step : next < length s → get_or s next 0 ≡ 10 → line_of (Some x) (next + 1) ≡ read_at s at
  reads_step h lf =
      let d = drop at s in
      let r = drop (next + 1) s in
      let onto : drop next s ≡ 10 ∷ r = at_offset s next h ∙ ap (λ b. b ∷ r) lf in
      let w = step_as_written d x (drop next s) read in
      let text : d ≡ step_text x ++ (10 ∷ r) = w.text ∙ ap (λ k. step_text x ++ k) onto in
      let line : first_line d ≡ found (step_text x) r = ap first_line text ∙ first_found (step_text x) r (step_no_lf x) in
      let long : length s - at ≡ length (step_text x) + suc (length s - (next + 1)) =
      sym (length-drop at s) ∙ ap length text ∙ length-append (step_text x) (10 ∷ r)
      ∙ ap (λ k. length (step_text x) + suc k) (length-drop (next + 1) s) in
      let offset : at + length (step_text x) + 1 ≡ next + 1 = omega arith in
      sym (ap (line_read parse_line at) line ∙ ap (λ p. line_of p (at + length (step_text x) + 1)) (reads_back x w.fits) ∙ ap (line_of (Some x)) offset)

-- a line that is a step has that step at its front, with LF after it
no_step : (d l r : List ℕ) → first_line d ≡ found l r → ((y : Step) → step d ≡ found y (10 ∷ r) → ⊥) → (p : Option Step) → parse_line l ≡ p → parse_line l ≡ None
no_step d l r e never-step (Some y) f =
    let w = line_as_step l y f in
    let fl = first_line_lem d l r e in
    let line : l ≡ step_text y = w.text ∙ append-nil (step_text y) in
    absurd (never-step y (ap step (fl.text ∙ ap (λ k. k ++ (10 ∷ r)) line) ∙ step_back y w.fits (10 ∷ r) refl))
no_step d l r e never-step None f = f

no_step_read : (d : List ℕ) (at : ℕ) → ((y : Step) (r : List ℕ) → step d ≡ found y (10 ∷ r) → ⊥) → (t : Reading (List ℕ)) → first_line d ≡ t
    → line_read (λ line. None) at t ≡ line_read parse_line at t
no_step_read d at never-step (found l r) e =
    ap (λ p. line_of p (at + length l + 1)) (sym (no_step d l r e (λ y. never-step y r) (parse_line l) refl))
no_step_read d at never-step nothing e = refl

-- so where the front is no step, or LF does not follow it, the line is none
module _ (s : List ℕ) (at : ℕ) where
  pub reads_none : ((y : Step) (r : List ℕ) → step (drop at s) ≡ found y (10 ∷ r) → ⊥) → no_step_at s at ≡ read_at s at
  reads_none never-step = no_step_read (drop at s) at never-step (first_line (drop at s)) refl

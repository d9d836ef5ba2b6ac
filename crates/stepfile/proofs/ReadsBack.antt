-- Every step whose numbers are below 2 to the 64th, written, reads back as itself. Assumes nothing.
use Prim.Native.Nat.{ℕ, zero, suc, ◌+◌, ◌-◌, ◌*◌, ◌/◌, ◌%◌, ◌^◌, ◌≤◌, ◌<◌}
use mathlib.Core.Path.{◌≡◌, refl, sym, ◌∙◌, ap}
use mathlib.Core.Bool.{false}
use mathlib.Core.List.{List, [], ◌∷◌, ◌++◌, append_assoc, append-nil}
use native.Mathlib.Omega.{arith}
use lib.Dec.{eqb, ltb}
use borrow.Author.Tests.{ltb-true, ltb-false, ne_eqb}
use Rattle.records.specs.declared.record.Mode.TheVariants.{Read as ForRead, Write as ForWrite}
use Rattle.protocol.specs.declared.step.Step.{Step}
use Rattle.protocol.specs.declared.step.Step.TheVariants.{Open, Close, Read, Write, Flush, Answer, Crash, Report, End}
use Rattle.protocol.specs.declared.step.Step.TheVariants.{Restart, Embargo, Lift}
use Rattle.stepfile.specs.Text.{decimal, argument_text, values_text}
use Rattle.stepfile.specs.Grammar.{Reading, found, nothing, onward, is_digit, digits_on, numeral, argument, Shape, whole, taking, no_word, shape_of, shaped, step, alone, parse_line}
use Rattle.stepfile.specs.StepText.{numbers_of, step_text, EachFits}
use Rattle.sizes.proofs.Choosing.{when, unless, split}
use Rattle.stepfile.proofs.Digits.{digit, other, more}
use Rattle.stepfile.proofs.Decimals.{decimal_small, decimal_large}
use Rattle.std.proofs.Common.{Some}

-- the list does not go on with a digit
abbrev pub NoDigit : List ℕ → Type 0
NoDigit [] = Unit {0}
NoDigit (b ∷ l) = is_digit b ≡ false

digits_stop : (n : ℕ) (l : List ℕ) → NoDigit l → digits_on n l ≡ found n l
unfolding digits_on
digits_stop n [] h = refl
digits_stop n (b ∷ l) h = other n b l h

-- a first digit that is not 0
first : (n : ℕ) (l : List ℕ) → 0 < n → n < 10 → numeral ((48 + n) ∷ l) ≡ digits_on n l
unfolding numeral
first n l some small =
    let back : 48 + n - 48 ≡ n = omega arith in
    let far : eqb (48 + n) 48 ≡ false = ne_eqb (48 + n) 48 (omega arith) in
    unless _ _ far ∙ when _ _ (digit (48 + n) (omega arith) (omega arith)) ∙ ap (λ v. digits_on v l) back

-- the digits of a number above 0, and what follows them
pub after_digits : (k n : ℕ) → n ≤ k → 0 < n → n < 2 ^ 64 → (l : List ℕ) → numeral (decimal n ++ l) ≡ digits_on n l
after_digits zero n most some fits l = absurd (omega arith)
after_digits (suc k) n most some fits l =
    split (ltb n 10)
    (λ e. ap (λ d. numeral (d ++ l)) (decimal_small n (ltb-true n 10 e)) ∙ first n l some (ltb-true n 10 e))
    (λ e.
    let large = ltb-false n 10 e in
    let b = 48 + n % 10 in
    let back : n / 10 * 10 + (b - 48) ≡ n = omega arith in
    ap (λ d. numeral (d ++ l)) (decimal_large n large)
    ∙ ap numeral (append_assoc (decimal (n / 10)) (b ∷ []) l)
    ∙ after_digits k (n / 10) (omega arith) (omega arith) (omega arith) (b ∷ l)
    ∙ more (n / 10) b l (omega arith) (omega arith) (omega arith)
    ∙ ap (λ v. digits_on v l) back)

pub numeral_back : (n : ℕ) → n < 2 ^ 64 → (l : List ℕ) → NoDigit l → numeral (decimal n ++ l) ≡ found n l
unfolding numeral
numeral_back zero fits l h = ap (λ d. numeral (d ++ l)) (decimal_small 0 (omega arith))
numeral_back (suc n) fits l h = after_digits (suc n) (suc n) (omega arith) (omega arith) fits l ∙ digits_stop (suc n) l h

pub argument_back : (n : ℕ) → n < 2 ^ 64 → (l : List ℕ) → NoDigit l → argument (argument_text n ++ l) ≡ found n l
unfolding argument
argument_back n fits l h = numeral_back n fits l h

-- the step that a shape makes of numbers
abbrev pub filled : Shape → List ℕ → Reading Step
filled (whole s) [] = found s []
filled (whole s) (n ∷ ns) = nothing
filled (taking f) [] = nothing
filled (taking f) (n ∷ ns) = filled (f n) ns
filled no_word ns = nothing

values_no_digit : (ns : List ℕ) (l : List ℕ) → NoDigit l → NoDigit (values_text ns ++ l)
unfolding values_text
values_no_digit [] l h = h
values_no_digit (n ∷ ns) l h = refl

-- a shape reads back the numbers that it takes
shaped_back : (shape : Shape) (ns : List ℕ) (s : Step) → filled shape ns ≡ found s [] → EachFits ns → (l : List ℕ) → NoDigit l
    → shaped shape (values_text ns ++ l) ≡ found s l
unfolding shaped values_text
shaped_back (whole x) [] s e fits l h = cc
shaped_back (whole x) (n ∷ ns) s e fits l h = cc
shaped_back (taking f) [] s e fits l h = cc
shaped_back (taking f) (n ∷ ns) s e fits l h =
    ap (λ t. onward t (λ a rest. shaped (f a) rest))
    (ap argument (append_assoc (argument_text n) (values_text ns) l)
    ∙ argument_back n fits.0 (values_text ns ++ l) (values_no_digit ns l h))
    ∙ shaped_back (f n) ns s e fits.1 l h
shaped_back no_word ns s e fits l h = cc

-- the step, and what follows it
pub step_back : (s : Step) → EachFits (numbers_of s) → (l : List ℕ) → NoDigit l → step (step_text s ++ l) ≡ found s l
unfolding step shape_of
step_back (Open ForRead i f) fits l h = shaped_back _ (i ∷ f ∷ []) _ refl fits l h
step_back (Open ForWrite i f) fits l h = shaped_back _ (i ∷ f ∷ []) _ refl fits l h
step_back (Close ForRead i f) fits l h = shaped_back _ (i ∷ f ∷ []) _ refl fits l h
step_back (Close ForWrite i f) fits l h = shaped_back _ (i ∷ f ∷ []) _ refl fits l h
step_back (Answer i f) fits l h = shaped_back _ (i ∷ f ∷ []) _ refl fits l h
step_back (Read i f b) fits l h = shaped_back _ (i ∷ f ∷ b ∷ []) _ refl fits l h
step_back (Flush i f b) fits l h = shaped_back _ (i ∷ f ∷ b ∷ []) _ refl fits l h
step_back (Write i f b v) fits l h = shaped_back _ (i ∷ f ∷ b ∷ v ∷ []) _ refl fits l h
step_back Crash fits l h = shaped_back _ [] _ refl fits l h
step_back (Report i) fits l h = shaped_back _ (i ∷ []) _ refl fits l h
step_back End fits l h = shaped_back _ [] _ refl fits l h
step_back (Restart i) fits l h = shaped_back _ (i ∷ []) _ refl fits l h
step_back (Embargo i f) fits l h = shaped_back _ (i ∷ f ∷ []) _ refl fits l h
step_back (Lift i) fits l h = shaped_back _ (i ∷ []) _ refl fits l h

pub reads_back : (s : Step) → EachFits (numbers_of s) → parse_line (step_text s) ≡ Some s
unfolding parse_line
reads_back s fits = ap alone (ap step (sym (append-nil (step_text s))) ∙ step_back s fits [] tt)

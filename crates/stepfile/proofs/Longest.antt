-- More than 86 bytes are no step: a word of two letters and four numbers of twenty digits, each after a space. More than
-- 87 are no settings line, whose word has three letters. Assumes nothing.
use Prim.Native.Nat.{ℕ, ◌+◌, ◌*◌, ◌≤◌, ◌<◌}
use mathlib.Core.Path.{◌≡◌, refl, ◌∙◌, ap}
use mathlib.Core.List.{List, [], ◌∷◌}
use native.Mathlib.Omega.{arith}
use lib.ListN.{length, drop, length-append, length-drop}
use Rattle.sizes.proofs.Choosing.{when, unless, split}
use Rattle.sizes.specs.declared.sizes.Sizes.{Sizes}
use Rattle.records.specs.declared.record.Mode.TheVariants.{Read as ForRead, Write as ForWrite}
use Rattle.protocol.specs.declared.step.Step.{Step}
use Rattle.protocol.specs.declared.step.Step.TheVariants.{Open, Close, Read, Write, Flush, Answer, Crash, Report, End}
use Rattle.protocol.specs.declared.step.Step.TheVariants.{Restart, Embargo, Lift}
use Rattle.stepfile.specs.Text.{decimal, values_text}
use Rattle.stepfile.specs.declared.setting.NoSizes.TheVariants.{Missing}
use Rattle.stepfile.specs.Grammar.{Reading, found, nothing, onward, argument, parse_line}
use Rattle.stepfile.specs.Setting.{begins_with_set, store_at, sizes_at, settled, setting_of}
use Rattle.stepfile.specs.StepText.{word_of, numbers_of, step_text, EachFits}
use Rattle.stepfile.proofs.Decimals.{decimal_most}
use Rattle.stepfile.proofs.AsWritten.{never, argument_as_written, line_as_step}
use Rattle.std.proofs.Common.{Option, Some, None, Err}

values_most : (ns : List ℕ) → EachFits ns → length (values_text ns) ≤ 21 * length ns
unfolding values_text
values_most [] fits = omega arith
values_most (n ∷ ns) fits =
    omega (arith, length-append (decimal n) (values_text ns), decimal_most 19 n (omega (arith, fits.0)), values_most ns fits.1)

word_two : (s : Step) → length (word_of s) ≡ 2
word_two (Open ForRead i f) = refl
word_two (Open ForWrite i f) = refl
word_two (Close ForRead i f) = refl
word_two (Close ForWrite i f) = refl
word_two (Answer i f) = refl
word_two (Read i f b) = refl
word_two (Flush i f b) = refl
word_two (Write i f b v) = refl
word_two Crash = refl
word_two (Report i) = refl
word_two End = refl
word_two (Restart i) = refl
word_two (Embargo i f) = refl
word_two (Lift i) = refl

numbers_most : (s : Step) → length (numbers_of s) ≤ 4
numbers_most (Open m i f) = omega arith
numbers_most (Close m i f) = omega arith
numbers_most (Answer i f) = omega arith
numbers_most (Read i f b) = omega arith
numbers_most (Flush i f b) = omega arith
numbers_most (Write i f b v) = omega arith
numbers_most Crash = omega arith
numbers_most (Report i) = omega arith
numbers_most End = omega arith
numbers_most (Restart i) = omega arith
numbers_most (Embargo i f) = omega arith
numbers_most (Lift i) = omega arith

pub step_most : (s : Step) → EachFits (numbers_of s) → length (step_text s) ≤ 86
step_most s fits =
    omega (arith, length-append (word_of s) (values_text (numbers_of s)), word_two s, numbers_most s, values_most (numbers_of s) fits)

pub too_long : (l : List ℕ) → 86 < length l → parse_line l ≡ None
too_long l long = from (parse_line l) refl
  where
    from : (p : Option Step) → parse_line l ≡ p → parse_line l ≡ None
    from (Some s) e =
        let w = line_as_step l s e in
        absurd (omega (arith, ap length w.text, length-append (step_text s) [], step_most s w.fits))
    from None e = e

-- ---- no settings line: a word of three letters and three or four numbers

argument_most : (l : List ℕ) (n : ℕ) (rest : List ℕ) → argument l ≡ found n rest → length l ≤ 21 + length rest
argument_most l n rest e =
    let w = argument_as_written l n rest e in
    omega (arith, ap length w.0, length-append (decimal n) rest, decimal_most 19 n (omega (arith, w.1)))

onward_found : {A B : Type 0} (r : Reading A) (k : A → List ℕ → Reading B) (b : B) (rest : List ℕ) → onward r k ≡ found b rest
    → (a : A) × (m : List ℕ) × (r ≡ found a m) × (k a m ≡ found b rest)
onward_found (found a m) k b rest e = (a, m, refl, e)
onward_found nothing k b rest e = absurd (never nothing b rest refl e)

abbrev rest_of : {A : Type 0} → Reading A → List ℕ
rest_of (found a m) = m
rest_of nothing = []

-- the last number, which may be missing
store_most : (l : List ℕ) (n : ℕ) (rest : List ℕ) → store_at l ≡ found n rest → length l ≤ 21 + length rest
store_most [] n rest e = omega arith
store_most (b ∷ l) n rest e = argument_most (b ∷ l) n rest e

sizes_most : (l : List ℕ) (z : Sizes) (rest : List ℕ) → sizes_at l ≡ found z rest → length l ≤ 84 + length rest
sizes_most l z rest e =
    let (n, second, e₁, k₁) = onward_found (argument l) _ z rest e in
    let (f, third, e₂, k₂) = onward_found (argument second) _ z rest k₁ in
    let (b, fourth, e₃, k₃) = onward_found (argument third) _ z rest k₂ in
    let (m, last, e₄, k₄) = onward_found (store_at fourth) _ z rest k₃ in
    omega (
      arith,
      argument_most l n second e₁,
      argument_most second f third e₂,
      argument_most third b fourth e₃,
      store_most fourth m last e₄,
      ap (λ (r : Reading Sizes). length (rest_of r)) k₄,
    )

pub no_setting : (l : List ℕ) → 87 < length l → setting_of l ≡ Err Missing
unfolding setting_of
no_setting l long = split (begins_with_set l) (λ e. when _ _ e ∙ from (sizes_at (drop 3 l)) refl) (λ e. unless _ _ e)
  where
    from : (r : Reading Sizes) → sizes_at (drop 3 l) ≡ r → settled r ≡ Err Missing
    from (found z []) e = absurd (omega (arith, sizes_most (drop 3 l) z [] e, length-drop 3 l))
    from (found z (b ∷ m)) e = refl
    from nothing e = refl

-- a line that is longer than both
pub no_step : (l : List ℕ) → 87 < length l → parse_line l ≡ None
no_step l long = too_long l (omega arith)

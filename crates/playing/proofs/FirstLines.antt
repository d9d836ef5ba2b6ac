-- A line that chooses the sizes: only the first of an input does, and it is read so. Assumes nothing.
use Prim.Native.Nat.{ℕ, ◌+◌, ◌<◌}
use mathlib.Core.Path.{◌≡◌, refl, sym, ap, ◌∙◌}
use mathlib.Core.Bool.{Bool, true, false, not, ◌&&◌, true≢false}
use mathlib.Core.List.{List}
use native.Mathlib.Omega.{arith}
use lib.Dec.{eqb}
use lib.ListN.{drop}
use borrow.Author.Tests.{ne_eqb}
use Rattle.sizes.proofs.Choosing.{and_left, and_right}
use Rattle.stepfile.specs.Input.{read_at, line_of}
use Rattle.stepfile.specs.Setting.{setting_of, Setting}
use Rattle.reader.specs.declared.setting.FirstSetting.{FirstSetting}
use Rattle.reader.specs.FirstLine.{is_set, first_setting}
use Rattle.reader.proofs.FirstSettings.{set_read, set_by}
use Rattle.telling.specs.Lines.{can_tell}
use Rattle.telling.proofs.Reaching.{line_bytes, line_bytes_lem}
use Rattle.telling.proofs.LineByLine.{ReadLine, read_line}
use Rattle.playing.specs.Lines.{chooses_sizes}
use Rattle.protocol.specs.declared.step.Step.{Step}
use Rattle.std.proofs.Common.{Option, None}

-- ---- no other line

later : (n : ℕ) → 0 < n → eqb (n + 1) 1 ≡ false
later n h = ne_eqb (n + 1) 1 (λ e. absurd (omega (arith, e, h)))

pub none_later : (settable : Bool) (n : ℕ) (input : List ℕ) (can : Bool) → 0 < n → (chooses_sizes settable (n + 1) input && can) ≡ false
none_later settable n input can h =
    ap (λ (x : Bool). ((settable && x) && is_set (first_setting input).setting) && can) (later n h) ∙ none settable
  where
    none : (x : Bool) → (((x && false) && is_set (first_setting input).setting) && can) ≡ false
    none true = refl
    none false = refl

-- the line that was read does not choose them, if none that can be told does
pub not_chosen :
    (settable : Bool) (number : ℕ) (input : List ℕ) (used : ℕ) (p : Option Step) (next : ℕ) (can : Bool)
    → ReadLine input used p next
    → (chooses_sizes settable number (drop used input) && can) ≡ false
    → can ≡ true
    → ((settable && eqb number 1) && is_set (setting_of (line_bytes input used next))) ≡ false
not_chosen settable number input used p next can read none is =
    let bytes : (first_setting (drop used input)).setting ≡ setting_of (line_bytes input used next) =
    set_by (drop used input) read.line read.rest read.first
    ∙ ap setting_of (sym (line_bytes_lem input used next read.line read.at)) in
    ap (λ (x : Setting). (settable && eqb number 1) && is_set x) (sym bytes)
    ∙ left_false (chooses_sizes settable number (drop used input)) can none is
  where
    left_false : (a b : Bool) → (a && b) ≡ false → b ≡ true → a ≡ false
    left_false true b e h = absurd (true≢false (sym h ∙ e))
    left_false false b e h = refl

-- ---- the first: it was read as x, and it was asked whether it is to be told

module _ (settable : Bool) (first : ℕ) (input : List ℕ) (x : FirstSetting) (is : x ≡ first_setting input) (set can : Bool)
    (sets : set ≡ is_set x.setting) (need room : ℕ) (cans : can ≡ can_tell need room 0 first) where
  asks : (((settable && eqb first 1) && set) && can) ≡ (chooses_sizes settable first input && can_tell need room 0 first)
  asks =
      ap (λ (y : Bool). ((settable && eqb first 1) && y) && can) (sets ∙ ap (λ (y : FirstSetting). is_set y.setting) is)
      ∙ ap (λ (y : Bool). chooses_sizes settable first input && y) cans

  -- it is not
  pub left_alone :
      not (((settable && eqb first 1) && set) && can) ≡ true
      → (chooses_sizes settable first input && can_tell need room 0 first) ≡ false
  left_alone e = sym asks ∙ was-true (((settable && eqb first 1) && set) && can) e
    where
      was-true : (y : Bool) → not y ≡ true → y ≡ false
      was-true true e = absurd (true≢false (sym e))
      was-true false e = refl

  -- it is
  module _ (told : not (((settable && eqb first 1) && set) && can) ≡ false) where
    both : (chooses_sizes settable first input && can_tell need room 0 first) ≡ true
    both = sym asks ∙ was-false (((settable && eqb first 1) && set) && can) told
      where
        was-false : (y : Bool) → not y ≡ false → y ≡ true
        was-false true e = refl
        was-false false e = absurd (true≢false e)

    chooses : chooses_sizes settable first input ≡ true
    chooses = and_left (chooses_sizes settable first input) _ both

    pub can-be-told : can_tell need room 0 first ≡ true
    can-be-told = and_right (chooses_sizes settable first input) _ both

    pub is-first : (settable && eqb first 1) ≡ true
    is-first = and_left (settable && eqb first 1) _ chooses

    pub first_read : read_at input 0 ≡ line_of None x.next
    first_read =
        set_read input (and_right (settable && eqb first 1) _ chooses) ∙ ap (λ (y : FirstSetting). line_of None y.next) (sym is)

    pub first-sets : x.setting ≡ setting_of (line_bytes input 0 x.next)
    first-sets =
        let line = read_line input 0 None x.next (omega arith) first_read in
        ap (λ (y : FirstSetting). y.setting) is
        ∙ set_by input line.line line.rest line.first
        ∙ ap setting_of (sym (line_bytes_lem input 0 x.next line.line line.at))

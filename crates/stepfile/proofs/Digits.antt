-- Reading the digits of a number, a byte at a time. Assumes nothing.
use Prim.Native.Nat.{ℕ, ◌+◌, ◌-◌, ◌*◌, ◌^◌, ◌≤◌, ◌<◌}
use mathlib.Core.Path.{◌≡◌, ◌∙◌}
use mathlib.Core.Bool.{true, false, and-false}
use mathlib.Core.List.{List, ◌∷◌}
use native.Mathlib.Numerals.{add-one}
use lib.ListN.{length, get_or, drop}
use lib.Seq.{drop-cons}
use borrow.Author.Tests.{lt-ltb, le-ltb, le-leb, lt-leb}
use Rattle.stepfile.specs.Grammar.{found, nothing, is_digit, digits_on}
use Rattle.sizes.proofs.Choosing.{when, unless}

-- the byte at an offset, and the offset after it
pub at_offset : (s : List ℕ) (i : ℕ) → i < length s → drop i s ≡ get_or s i 0 ∷ drop (i + 1) s
at_offset s i h = rw (add-one, drop-cons s i 0)

pub digit : (b : ℕ) → 48 ≤ b → b ≤ 57 → is_digit b ≡ true
digit b low high = rw (le-leb 48 b low, le-leb b 57 high)

pub below_digit : (b : ℕ) → b < 48 → is_digit b ≡ false
below_digit b h = rw (lt-leb 48 b h)

pub above_digit : (b : ℕ) → 57 < b → is_digit b ≡ false
above_digit b h = rw (lt-leb b 57 h, and-false)

module _ (v b : ℕ) (l : List ℕ) where
  pub other : is_digit b ≡ false → digits_on v (b ∷ l) ≡ found v (b ∷ l)
  unfolding digits_on
  other e = unless _ _ e

  pub over : 48 ≤ b → b ≤ 57 → 2 ^ 64 ≤ v * 10 + (b - 48) → digits_on v (b ∷ l) ≡ nothing
  unfolding digits_on
  over low high h = when _ _ (digit b low high) ∙ unless _ _ (le-ltb _ _ h)

  pub more : 48 ≤ b → b ≤ 57 → v * 10 + (b - 48) < 2 ^ 64 → digits_on v (b ∷ l) ≡ digits_on (v * 10 + (b - 48)) l
  unfolding digits_on
  more low high h = when _ _ (digit b low high) ∙ when _ _ (lt-ltb _ _ h)

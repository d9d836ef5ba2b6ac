-- Reading a number at an offset, a byte at a time: what the grammar gives at a byte that is known. Assumes nothing.
use Prim.Native.Nat.{ℕ, ◌+◌, ◌-◌, ◌*◌, ◌^◌, ◌≤◌, ◌<◌}
use mathlib.Core.Path.{◌≡◌, sym, ◌∙◌, ap, ap₂}
use mathlib.Core.Bool.{true, false, cond}
use mathlib.Core.List.{List}
use native.Mathlib.Omega.{arith}
use lib.Dec.{eqb, leb, ltb}
use lib.ListN.{length, get_or, drop, drop_of_length-le}
use borrow.Author.Tests.{eq-eqb, ne_eqb, eqb-true, eqb-false, leb-true, ltb-true}
use Rattle.std.proofs.lemmas.Grind.{get_or_default_zero}
use Rattle.stepfile.specs.Grammar.{found, nothing, is_digit, digits_on, numeral, argument}
use Rattle.sizes.proofs.Choosing.{when, unless, and_left, and_right, split}
use Rattle.stepfile.proofs.Digits.{at_offset, digit, below_digit, above_digit, other, over, more}

-- a byte that is a digit
pub digit_low : (b : ℕ) → is_digit b ≡ true → 48 ≤ b
digit_low b e = leb-true 48 b (and_left (leb 48 b) (leb b 57) e)

pub digit_high : (b : ℕ) → is_digit b ≡ true → b ≤ 57
digit_high b e = leb-true b 57 (and_right (leb 48 b) (leb b 57) e)

-- the byte that a test of the offset finds
pub byte_there : (s : List ℕ) (i b : ℕ) → true ≡ ltb i (length s) → b ≡ get_or s i b → (i < length s) × (get_or s i 0 ≡ b)
byte_there s i b inside is =
    let h = ltb-true i (length s) (sym inside) in
    (h, sym (is ∙ get_or_default_zero s i b h))

module _ (s : List ℕ) (i : ℕ) where
  -- the digits end with the bytes, or before a byte that is no digit
  pub digits_stop : (v : ℕ) → length s ≤ i → digits_on v (drop i s) ≡ found v (drop i s)
  unfolding digits_on
  digits_stop v h = rw (drop_of_length-le s h)

  pub digits_below : (v : ℕ) → i < length s → get_or s i 0 < 48 → digits_on v (drop i s) ≡ found v (drop i s)
  digits_below v h b = rw (at_offset s i h) (other v _ _ (below_digit _ b))

  pub digits_above : (v : ℕ) → i < length s → 57 < get_or s i 0 → digits_on v (drop i s) ≡ found v (drop i s)
  digits_above v h b = rw (at_offset s i h) (other v _ _ (above_digit _ b))

  pub digits_end : (v : ℕ) → i < length s → is_digit (get_or s i 0) ≡ false → digits_on v (drop i s) ≡ found v (drop i s)
  digits_end v h e = rw (at_offset s i h) (other v _ _ e)

  -- a digit more
  pub digits_over : (v : ℕ) → i < length s → 48 ≤ get_or s i 0 → get_or s i 0 ≤ 57 → 2 ^ 64 ≤ v * 10 + (get_or s i 0 - 48)
      → digits_on v (drop i s) ≡ nothing
  digits_over v h low high large = rw (at_offset s i h) (over v _ _ low high large)

  pub digits_more : (v : ℕ) → i < length s → 48 ≤ get_or s i 0 → get_or s i 0 ≤ 57 → v * 10 + (get_or s i 0 - 48) < 2 ^ 64
      → digits_on v (drop i s) ≡ digits_on (v * 10 + (get_or s i 0 - 48)) (drop (i + 1) s)
  digits_more v h low high small = rw (at_offset s i h) (more v _ _ low high small)

  -- the first byte of a number
  pub numeral_stop : length s ≤ i → numeral (drop i s) ≡ nothing
  unfolding numeral
  numeral_stop h = rw (drop_of_length-le s h)

  pub numeral_zero : i < length s → get_or s i 0 ≡ 48 → numeral (drop i s) ≡ found 0 (drop (i + 1) s)
  unfolding numeral
  numeral_zero h e = rw (at_offset s i h) (when _ _ (eq-eqb _ 48 e))

  pub numeral_other : i < length s → (get_or s i 0 ≡ 48 → ⊥) → is_digit (get_or s i 0) ≡ false → numeral (drop i s) ≡ nothing
  unfolding numeral
  numeral_other h some e = rw (at_offset s i h) (unless _ _ (ne_eqb _ 48 some) ∙ unless _ _ e)

  pub numeral_digit : i < length s → (get_or s i 0 ≡ 48 → ⊥) → 48 ≤ get_or s i 0 → get_or s i 0 ≤ 57
      → numeral (drop i s) ≡ digits_on (get_or s i 0 - 48) (drop (i + 1) s)
  unfolding numeral
  numeral_digit h some low high =
      rw (at_offset s i h) (unless _ _ (ne_eqb _ 48 some) ∙ when _ _ (digit _ low high))

  -- the space before a number
  pub argument_stop : length s ≤ i → argument (drop i s) ≡ nothing
  unfolding argument
  argument_stop h = rw (drop_of_length-le s h)

  pub argument_other : i < length s → (get_or s i 0 ≡ 32 → ⊥) → argument (drop i s) ≡ nothing
  unfolding argument
  argument_other h b = rw (at_offset s i h) (unless _ _ (ne_eqb _ 32 b))

  pub argument_space : i < length s → get_or s i 0 ≡ 32 → argument (drop i s) ≡ numeral (drop (i + 1) s)
  unfolding argument
  argument_space h e = rw (at_offset s i h) (when _ _ (eq-eqb _ 32 e))

-- a short number: j is the offset after i, and k the one after j
module _ (s : List ℕ) (i j : ℕ) (next : i + 1 ≡ j) (is : is_digit (get_or s i 0) ≡ true) where
  one_digit : j < length s → is_digit (get_or s j 0) ≡ false → numeral (drop i s) ≡ found (get_or s i 0 - 48) (drop j s)
  one_digit h end =
      split (eqb (get_or s i 0) 48)
      (λ z.
      let zero = eqb-true (get_or s i 0) 48 z in
      let none : 0 ≡ get_or s i 0 - 48 = omega arith in
      numeral_zero s i (omega arith) zero ∙ rw next (ap (λ v. found v (drop j s)) none))
      (λ z.
      numeral_digit s i (omega arith) (eqb-false (get_or s i 0) 48 z) (digit_low _ is) (digit_high _ is)
      ∙ rw next (digits_end s j _ h end))

  two_digits : (k : ℕ) → j + 1 ≡ k → k < length s → (get_or s i 0 ≡ 48 → ⊥) → is_digit (get_or s j 0) ≡ true
      → is_digit (get_or s k 0) ≡ false
      → numeral (drop i s) ≡ found ((get_or s i 0 - 48) * 10 + (get_or s j 0 - 48)) (drop k s)
  two_digits k after h some more end =
      let first = get_or s i 0 - 48 in
      let second = get_or s j 0 - 48 in
      let high = digit_high (get_or s i 0) is in
      let high₂ = digit_high (get_or s j 0) more in
      let on : digits_on first (drop (i + 1) s) ≡ digits_on (first * 10 + second) (drop (j + 1) s) =
      rw next (digits_more s j first (omega arith) (digit_low _ more) high₂ (omega arith)) in
      numeral_digit s i (omega arith) some (digit_low _ is) high
      ∙ on
      ∙ rw after (digits_end s k _ h end)

-- one or two digits after a space
module _ (s : List ℕ) (i : ℕ) (space : get_or s i 0 ≡ 32) (is : is_digit (get_or s (i + 1) 0) ≡ true) where
  pub argument_one : i + 3 ≤ length s → is_digit (get_or s (i + 2) 0) ≡ false
      → argument (drop i s) ≡ found (get_or s (i + 1) 0 - 48) (drop (i + 2) s)
  argument_one h end =
      argument_space s i (omega arith) space ∙ one_digit s (i + 1) (i + 2) (omega arith) is (omega arith) end

  pub argument_two : i + 4 ≤ length s → (get_or s (i + 1) 0 ≡ 48 → ⊥) → is_digit (get_or s (i + 2) 0) ≡ true
      → is_digit (get_or s (i + 3) 0) ≡ false
      → argument (drop i s) ≡ found ((get_or s (i + 1) 0 - 48) * 10 + (get_or s (i + 2) 0 - 48)) (drop (i + 3) s)
  argument_two h some more end =
      argument_space s i (omega arith) space
      ∙ two_digits s (i + 1) (i + 2) (omega arith) is (i + 3) (omega arith) (omega arith) some more end

  -- as many as there are, up to two: more is the number of digits after the first
  pub argument_short : (more value : ℕ) → more ≡ cond (is_digit (get_or s (i + 2) 0)) 1 0
      → value ≡ cond (is_digit (get_or s (i + 2) 0)) ((get_or s (i + 1) 0 - 48) * 10 + (get_or s (i + 2) 0 - 48)) (get_or s (i + 1) 0 - 48)
      → i + 4 ≤ length s → more ≤ get_or s (i + 1) 0 - 48 → is_digit (get_or s (i + 2 + more) 0) ≡ false
      → argument (drop i s) ≡ found value (drop (i + 2 + more) s)
  argument_short more value count worth h some end =
      split (is_digit (get_or s (i + 2) 0))
      (λ two.
      let one : more ≡ 1 = count ∙ when _ _ two in
      let past : i + 3 ≡ i + 2 + more = omega arith in
      let sum : (get_or s (i + 1) 0 - 48) * 10 + (get_or s (i + 2) 0 - 48) ≡ value = sym (worth ∙ when _ _ two) in
      argument_two h (omega arith) two (ap (λ k. is_digit (get_or s k 0)) past ∙ end)
      ∙ ap₂ (λ (v k : ℕ). found v (drop k s)) sum past)
      (λ single.
      let none : more ≡ 0 = count ∙ unless _ _ single in
      let past : i + 2 ≡ i + 2 + more = omega arith in
      argument_one (omega arith) single
      ∙ ap₂ (λ (v k : ℕ). found v (drop k s)) (sym (worth ∙ unless _ _ single)) past)

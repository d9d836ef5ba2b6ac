-- The digits of a number in groups: its decimal text is that of its front, then its last two, four or eight digits. Assumes
-- nothing.
use Prim.Native.Nat.{ℕ, ◌+◌, ◌*◌, ◌/◌, ◌%◌, ◌≤◌, ◌<◌}
use mathlib.Core.Path.{◌≡◌, sym, ◌∙◌, ap, subst}
use mathlib.Core.Bool.{cond}
use mathlib.Core.List.{List, [], ◌∷◌, ◌++◌, append_assoc}
use native.Mathlib.Omega.{arith}
use lib.Dec.{ltb}
use lib.ListN.{length}
use borrow.Author.Tests.{ltb-true, ltb-false, lt-ltb}
use Rattle.sizes.proofs.Choosing.{when, unless, split}
use Rattle.stepfile.specs.Text.{decimal}
use Rattle.stepfile.proofs.Decimals.{decimal_small, decimal_large}
use Rattle.writer.specs.Digits.{two_text, four_text, eight_text, four_bytes}

-- a number of two digits, and one with more
pub two_digits : (n : ℕ) → 10 ≤ n → n < 100 → two_text n ≡ decimal n
two_digits n low high = sym (decimal_large n low ∙ ap (λ l. l ++ ((48 + n % 10) ∷ [])) (decimal_small (n / 10) (omega arith)))

pub last_two : (n : ℕ) → 100 ≤ n → decimal (n / 100) ++ two_text (n % 100) ≡ decimal n
last_two n low =
    let first : n % 100 / 10 ≡ n / 10 % 10 = omega arith in
    let last : n % 100 % 10 ≡ n % 10 = omega arith in
    let front : n / 100 ≡ n / 10 / 10 = omega arith in
    let b = 48 + n / 10 % 10 in
    let d = 48 + n % 10 in
    rw (first, last, front)
    (sym
    (decimal_large n (omega arith)
    ∙ ap (λ l. l ++ (d ∷ [])) (decimal_large (n / 10) (omega arith))
    ∙ append_assoc (decimal (n / 10 / 10)) (b ∷ []) (d ∷ [])))

-- three digits and four
pub three_digits : (n : ℕ) → 100 ≤ n → n < 1000 → ((48 + n / 100) ∷ []) ++ two_text (n % 100) ≡ decimal n
three_digits n low high = ap (λ l. l ++ two_text (n % 100)) (sym (decimal_small (n / 100) (omega arith))) ∙ last_two n low

pub four_digits : (n : ℕ) → 1000 ≤ n → n < 10000 → four_text n ≡ decimal n
four_digits n low high =
    ap (λ l. l ++ two_text (n % 100)) (two_digits (n / 100) (omega arith) (omega arith)) ∙ last_two n (omega arith)

pub last_four : (n : ℕ) → 10000 ≤ n → decimal (n / 10000) ++ four_text (n % 10000) ≡ decimal n
last_four n low =
    let front : n / 10000 ≡ n / 100 / 100 = omega arith in
    let first : n % 10000 / 100 ≡ n / 100 % 100 = omega arith in
    let last : n % 10000 % 100 ≡ n % 100 = omega arith in
    rw (front, first, last)
    (sym (append_assoc (decimal (n / 100 / 100)) (two_text (n / 100 % 100)) (two_text (n % 100)))
    ∙ ap (λ l. l ++ two_text (n % 100)) (last_two (n / 100) (omega arith))
    ∙ last_two n (omega arith))

pub last_eight : (n : ℕ) → 100000000 ≤ n → decimal (n / 100000000) ++ eight_text (n % 100000000) ≡ decimal n
last_eight n low =
    let front : n / 100000000 ≡ n / 10000 / 10000 = omega arith in
    let first : n % 100000000 / 10000 ≡ n / 10000 % 10000 = omega arith in
    let last : n % 100000000 % 10000 ≡ n % 10000 = omega arith in
    rw (front, first, last)
    (sym (append_assoc (decimal (n / 10000 / 10000)) (four_text (n / 10000 % 10000)) (four_text (n % 10000)))
    ∙ ap (λ l. l ++ four_text (n % 10000)) (last_four (n / 10000) (omega arith))
    ∙ last_four n (omega arith))

-- sixteen digits after the first
pub last_sixteen : (n : ℕ) → 10000000000000000 ≤ n
    → decimal (n / 10000000000000000) ++ (eight_text (n / 100000000 % 100000000) ++ eight_text (n % 100000000)) ≡ decimal n
last_sixteen n low =
    let front : n / 10000000000000000 ≡ n / 100000000 / 100000000 = omega arith in
    let middle = eight_text (n / 100000000 % 100000000) in
    rw front
    (sym (append_assoc (decimal (n / 100000000 / 100000000)) middle (eight_text (n % 100000000)))
    ∙ ap (λ l. l ++ eight_text (n % 100000000)) (last_eight (n / 100000000) (omega arith))
    ∙ last_eight n (omega arith))

-- two to four digits: a digit in front is there if the number has it
abbrev pub last_three : ℕ → List ℕ
last_three n = cond (ltb 99 n) ((48 + n / 100 % 10) ∷ two_text (n % 100)) (two_text (n % 100))

pub some_digits : (n : ℕ) → 1 ≤ length (last_three n)
some_digits n =
    let two : 1 ≤ length (two_text (n % 100)) = omega arith in
    let three : 1 ≤ length ((48 + n / 100 % 10) ∷ two_text (n % 100)) = omega arith in
    split (ltb 99 n) (λ e. subst (λ l. 1 ≤ length l) (sym (when _ _ e)) three) (λ e. subst (λ l. 1 ≤ length l) (sym (unless _ _ e)) two)

pub leading_digits : (n : ℕ) → 10 ≤ n → n < 10000 → cond (ltb 999 n) ((48 + n / 100 / 10) ∷ last_three n) (last_three n) ≡ decimal n
leading_digits n low high =
    split (ltb 999 n)
    (λ four.
    let above : 999 < n = ltb-true 999 n four in
    when _ _ four ∙ ap (λ l. (48 + n / 100 / 10) ∷ l) (when _ _ (lt-ltb 99 n (omega arith))) ∙ four_digits n (omega arith) high)
    (λ less.
    let below : n ≤ 999 = ltb-false 999 n less in
    unless _ _ less
    ∙ split (ltb 99 n)
    (λ three.
    let above : 99 < n = ltb-true 99 n three in
    let first : n / 100 % 10 ≡ n / 100 = omega arith in
    when _ _ three ∙ ap (λ k. (48 + k) ∷ two_text (n % 100)) first ∙ three_digits n (omega arith) (omega arith))
    (λ two.
    let under : n ≤ 99 = ltb-false 99 n two in
    let all : n % 100 ≡ n = omega arith in
    unless _ _ two ∙ ap two_text all ∙ two_digits n low (omega arith)))

-- four bytes in one number
module _ (a b c d t : ℕ) (ha : a < 10) (hb : b < 10) (hc : c < 10) (hd : d < 10) (is : t ≡ 48 + a + 256 * (48 + b) + 65536 * (48 + c + 256 * (48 + d))) where
  byte_1 : t % 256 ≡ 48 + a
  byte_1 = omega (arith, is)

  byte_2 : t / 256 % 256 ≡ 48 + b
  byte_2 = omega (arith, is)

  byte_3 : t / 65536 % 256 ≡ 48 + c
  byte_3 = omega (arith, is)

  byte_4 : t / 16777216 % 256 ≡ 48 + d
  byte_4 = omega (arith, is)

module _ (n t : ℕ) (h : n < 10000) (is : t ≡ four_bytes n) where
  high : n / 100 / 10 < 10
  high = omega arith

  pub thousands : t % 256 ≡ 48 + n / 100 / 10
  thousands = byte_1 _ _ _ _ t high (omega arith) (omega arith) (omega arith) is

  pub hundreds : t / 256 % 256 ≡ 48 + n / 100 % 10
  hundreds = byte_2 _ _ _ _ t high (omega arith) (omega arith) (omega arith) is

  pub tens : t / 65536 % 256 ≡ 48 + n % 100 / 10
  tens = byte_3 _ _ _ _ t high (omega arith) (omega arith) (omega arith) is

  pub ones : t / 16777216 % 256 ≡ 48 + n % 100 % 10
  ones = byte_4 _ _ _ _ t high (omega arith) (omega arith) (omega arith) is

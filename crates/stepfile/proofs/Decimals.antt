-- The decimal text of a number, from its last digit, and how long it is. Assumes nothing.
use Prim.Native.Nat.{ℕ, zero, suc, ◌+◌, ◌/◌, ◌%◌, ◌^◌, ◌≤◌, ◌<◌, suc-le-suc}
use mathlib.Core.Path.{◌≡◌, refl, sym, ◌∙◌, ap}
use mathlib.Core.List.{[], ◌∷◌, ◌++◌}
use native.Mathlib.Nat.{one-le-pow}
use native.Mathlib.Numerals.{add-one}
use native.Mathlib.Omega.{arith}
use lib.Dec.{ltb, lit<}
use lib.ListN.{length, length-append}
use borrow.Author.Tests.{lt-ltb, le-ltb, ltb-true, ltb-false}
use Rattle.stepfile.specs.Text.{digits_of, decimal}
use Rattle.sizes.proofs.Choosing.{when, unless, split}

digits_small : (k n : ℕ) → n < 10 → digits_of k n ≡ (48 + n) ∷ []
unfolding digits_of
digits_small zero n h = refl
digits_small (suc k) n h = when _ _ (lt-ltb n 10 h)

digits_large : (k n : ℕ) → 10 ≤ n → digits_of (suc k) n ≡ digits_of k (n / 10) ++ ((48 + n % 10) ∷ [])
unfolding digits_of
digits_large k n h = unless _ _ (le-ltb n 10 h)

-- the bound is no part of the answer, where it is large enough
digits_any : (k m n : ℕ) → n ≤ k → n ≤ m → digits_of k n ≡ digits_of m n
digits_any zero m n hk hm = digits_small zero n (omega arith) ∙ sym (digits_small m n (omega arith))
digits_any (suc k) zero n hk hm = digits_small (suc k) n (omega arith) ∙ sym (digits_small zero n (omega arith))
digits_any (suc k) (suc m) n hk hm =
    split (ltb n 10)
    (λ e. digits_small (suc k) n (ltb-true n 10 e) ∙ sym (digits_small (suc m) n (ltb-true n 10 e)))
    (λ e.
    let large = ltb-false n 10 e in
    digits_large k n large
    ∙ ap (λ l. l ++ ((48 + n % 10) ∷ [])) (digits_any k m (n / 10) (omega arith) (omega arith))
    ∙ sym (digits_large m n large))

-- a number below 10 is one digit; another is its tenth, then its last digit
pub decimal_small : (n : ℕ) → n < 10 → decimal n ≡ (48 + n) ∷ []
unfolding decimal
decimal_small n h = digits_small n n h

pub decimal_large : (n : ℕ) → 10 ≤ n → decimal n ≡ decimal (n / 10) ++ ((48 + n % 10) ∷ [])
unfolding decimal
decimal_large n h =
    digits_any n (suc n) n (omega arith) (omega arith)
    ∙ digits_large n n h
    ∙ ap (λ l. l ++ ((48 + n % 10) ∷ [])) (digits_any n (n / 10) (n / 10) (omega arith) (omega arith))

pub length_large : (n : ℕ) → 10 ≤ n → length (decimal n) ≡ length (decimal (n / 10)) + 1
length_large n h = ap length (decimal_large n h) ∙ length-append (decimal (n / 10)) ((48 + n % 10) ∷ [])

-- there is a digit
pub decimal_some : (n : ℕ) → 0 < length (decimal n)
decimal_some n =
    split (ltb n 10)
    (λ e. rw (decimal_small n (ltb-true n 10 e)) (lit< tt))
    (λ e. omega (arith, length_large n (ltb-false n 10 e)))

-- a number from 10 ^ k up to 10 ^ (k + 1) has k + 1 digits
pub decimal_count : (k n : ℕ) → 10 ^ k ≤ n → n < 10 ^ suc k → length (decimal n) ≡ suc k
decimal_count zero n low high = ap length (decimal_small n (omega arith))
decimal_count (suc k) n low high =
    let some : 1 ≤ 10 ^ k = one-le-pow k 10 (lit< tt) in
    let large : 10 ≤ n = omega arith in
    length_large n large ∙ ap (λ l. l + 1) (decimal_count k (n / 10) (omega arith) (omega arith)) ∙ add-one (suc k)

-- a number below 10 ^ (k + 1) has at most k + 1 digits
pub decimal_most : (k n : ℕ) → n < 10 ^ suc k → length (decimal n) ≤ suc k
decimal_most zero n high = rw (decimal_small n (omega arith)) (omega arith)
decimal_most (suc k) n high =
    split (ltb n 10)
    (λ e. rw (decimal_small n (ltb-true n 10 e)) (omega arith))
    (λ e.
    let large = ltb-false n 10 e in
    rw (length_large n large, add-one) (suc-le-suc (decimal_most k (n / 10) (omega arith))))

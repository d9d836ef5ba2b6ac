-- Reading the numbers of a shape one after the other, by what a reader answers. Assumes nothing.
use Prim.Native.Nat.{ℕ}
use mathlib.Core.Path.{◌≡◌, refl, sym, ◌∙◌, ap}
use mathlib.Core.Bool.{true≢false}
use mathlib.Core.List.{List}
use lib.ListN.{drop}
use Rattle.std.proofs.Common.{Option, Some, None, is_some, IsNone}
use Rattle.protocol.specs.declared.step.Step.{Step}
use Rattle.stepfile.specs.Grammar.{found, nothing, onward, argument, Shape, whole, taking, one, two, three, shaped}
use Rattle.reader.specs.declared.found.Found.{Found}
use Rattle.reader.specs.Offsets.{found_in, pair_in, triple_in, MapsTo}

-- what is there is not missing
pub is_there : {A : Type 0} (r : Option A) (x : A) → r ≡ Some x → IsNone r → ⊥
is_there r x is e = true≢false (sym (ap is_some is) ∙ e)

-- none
pub whole_there : (x : Step) (l : List ℕ) → shaped (whole x) l ≡ found x l
unfolding shaped
whole_there x l = refl

-- one number
module _ (s l : List ℕ) (f : ℕ → Shape) (r : Option (Found ℕ)) (read : argument l ≡ found_in s r) where
  pub number_missing : r ≡ None → shaped (taking f) l ≡ nothing
  unfolding shaped
  number_missing e = ap (λ t. onward t (λ n rest. shaped (f n) rest)) (read ∙ ap (found_in s) e)

  pub number_there : (n : Found ℕ) → r ≡ Some n → shaped (taking f) l ≡ shaped (f n.value) (drop n.next s)
  unfolding shaped
  number_there n e = ap (λ t. onward t (λ n rest. shaped (f n) rest)) (read ∙ ap (found_in s) e)

-- A step r is made of the numbers p. Where it is there, or reading tells that there is none, so are they.
module _ (Short : Type 0) (s l : List ℕ) (r : Option (Found Step)) (there : Short → IsNone r → ⊥) where
  module _ {A : Type 0} (makes : A → Step → Type 0) where
    numbers_there : (p : Option (Found A)) → MapsTo makes p r → Short → IsNone p → ⊥
    numbers_there (Some n) made short e = absurd (true≢false e)
    numbers_there None is short e = there short (ap is_some is)

    made_in : (x : A → Step) → ((n : A) (y : Step) → makes n y → y ≡ x n) → (n : Found A) → MapsTo makes (Some n) r
        → shaped (whole (x n.value)) (drop n.next s) ≡ found_in s r
    unfolding shaped
    made_in x same n (y, made, is) = ap (λ (z : Step). found z (drop n.next s)) (sym (same n.value y made)) ∙ sym (ap (found_in s) is)

  pub made_of_one : (x : ℕ → Step) (makes : ℕ → Step → Type 0) → ((n : ℕ) (y : Step) → makes n y → y ≡ x n)
      → (p : Option (Found ℕ)) → ((Short → IsNone p → ⊥) → argument l ≡ found_in s p)
      → MapsTo makes p r → shaped (one x) l ≡ found_in s r
  made_of_one x makes same p read made = by p made (read (numbers_there makes p made))
    where
      by : (p : Option (Found ℕ)) → MapsTo makes p r → argument l ≡ found_in s p → shaped (one x) l ≡ found_in s r
      by (Some n) made is = number_there s l _ _ is n refl ∙ made_in makes x same n made
      by None made is = number_missing s l _ _ is refl ∙ sym (ap (found_in s) made)

  pub made_of_two : (x : ℕ → ℕ → Step) (makes : ℕ × ℕ → Step → Type 0) → ((n : ℕ × ℕ) (y : Step) → makes n y → y ≡ x n.0 n.1)
      → (p : Option (Found (ℕ × ℕ)))
      → ((f : ℕ → ℕ → Shape) → (Short → IsNone p → ⊥) → shaped (taking (λ a. taking (f a))) l ≡ pair_in s f p)
      → MapsTo makes p r → shaped (two x) l ≡ found_in s r
  made_of_two x makes same p read made = read (λ a b. whole (x a b)) (numbers_there makes p made) ∙ by p made
    where
      by : (p : Option (Found (ℕ × ℕ))) → MapsTo makes p r → pair_in s (λ a b. whole (x a b)) p ≡ found_in s r
      by (Some n) made = made_in makes (λ n. x n.0 n.1) same n made
      by None made = sym (ap (found_in s) made)

  pub made_of_three : (x : ℕ → ℕ → ℕ → Step) (makes : ℕ × ℕ × ℕ → Step → Type 0)
      → ((n : ℕ × ℕ × ℕ) (y : Step) → makes n y → y ≡ x n.0 n.1 n.2)
      → (p : Option (Found (ℕ × ℕ × ℕ)))
      → ((f : ℕ → ℕ → ℕ → Shape) → (Short → IsNone p → ⊥)
      → shaped (taking (λ a. taking (λ b. taking (f a b)))) l ≡ triple_in s f p)
      → MapsTo makes p r → shaped (three x) l ≡ found_in s r
  made_of_three x makes same p read made = read (λ a b c. whole (x a b c)) (numbers_there makes p made) ∙ by p made
    where
      by : (p : Option (Found (ℕ × ℕ × ℕ))) → MapsTo makes p r → triple_in s (λ a b c. whole (x a b c)) p ≡ found_in s r
      by (Some n) made = made_in makes (λ n. x n.0 n.1 n.2) same n made
      by None made = sym (ap (found_in s) made)

  -- the step of what follows three numbers
  pub after_three : (f : ℕ → ℕ → ℕ → Shape) (p : Option (Found (ℕ × ℕ × ℕ)))
      → ((f : ℕ → ℕ → ℕ → Shape) → (Short → IsNone p → ⊥)
      → shaped (taking (λ a. taking (λ b. taking (f a b)))) l ≡ triple_in s f p)
      → triple_in s f p ≡ found_in s r → shaped (taking (λ a. taking (λ b. taking (f a b)))) l ≡ found_in s r
  after_three f p read is = read f (none p is) ∙ is
    where
      none_there : (r : Option (Found Step)) → nothing ≡ found_in s r → IsNone r
      none_there (Some n) e = cc
      none_there None e = refl

      none : (p : Option (Found (ℕ × ℕ × ℕ))) → triple_in s f p ≡ found_in s r → Short → IsNone p → ⊥
      none (Some n) is short e = absurd (true≢false e)
      none None is short e = there short (none_there r is)

-- ---- where a short step is there, its numbers are, and so what was read of them is what any reader reads

-- what is nothing was not found
none_in : (s : List ℕ) (r : Option (Found Step)) → nothing ≡ found_in s r → IsNone r
none_in s (Some n) e = cc
none_in s None e = refl

module _ (s l : List ℕ) (r : Option (Found Step)) (there : IsNone r → ⊥) where
  pub short_number : (x : ℕ → Step) (n : Option (Found ℕ)) → ((IsNone n → ⊥) → argument l ≡ found_in s n)
      → onward (found_in s n) (λ a rest. found (x a) rest) ≡ found_in s r → shaped (one x) l ≡ found_in s r
  unfolding shaped
  short_number x n read is = ap (λ t. onward t (λ a rest. found (x a) rest)) (read (some n is)) ∙ is
    where
      some : (n : Option (Found ℕ)) → onward (found_in s n) (λ a rest. found (x a) rest) ≡ found_in s r → IsNone n → ⊥
      some (Some n) is e = absurd (true≢false e)
      some None is e = there (none_in s r is)

  pub short_pair : (f : ℕ → ℕ → Shape) (p : Option (Found (ℕ × ℕ)))
      → ((f : ℕ → ℕ → Shape) → (IsNone p → ⊥) → shaped (taking (λ a. taking (f a))) l ≡ pair_in s f p)
      → pair_in s f p ≡ found_in s r → shaped (taking (λ a. taking (f a))) l ≡ found_in s r
  short_pair f p read is = read f (some p is) ∙ is
    where
      some : (p : Option (Found (ℕ × ℕ))) → pair_in s f p ≡ found_in s r → IsNone p → ⊥
      some (Some n) is e = absurd (true≢false e)
      some None is e = there (none_in s r is)

  pub short_triple : (f : ℕ → ℕ → ℕ → Shape) (p : Option (Found (ℕ × ℕ × ℕ)))
      → ((f : ℕ → ℕ → ℕ → Shape) → (IsNone p → ⊥)
      → shaped (taking (λ a. taking (λ b. taking (f a b)))) l ≡ triple_in s f p)
      → triple_in s f p ≡ found_in s r → shaped (taking (λ a. taking (λ b. taking (f a b)))) l ≡ found_in s r
  short_triple f p read is = read f (some p is) ∙ is
    where
      some : (p : Option (Found (ℕ × ℕ × ℕ))) → triple_in s f p ≡ found_in s r → IsNone p → ⊥
      some (Some n) is e = absurd (true≢false e)
      some None is e = there (none_in s r is)

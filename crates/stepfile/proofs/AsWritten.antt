-- Whatever reads as a step is how the step is written. Assumes nothing.
use Prim.Native.Nat.{ℕ, ◌+◌, ◌-◌, ◌*◌, ◌/◌, ◌%◌, ◌^◌, ◌≤◌, ◌<◌}
use mathlib.Core.Path.{◌≡◌, refl, sym, ◌∙◌, ap}
use mathlib.Core.Bool.{true, false≢true}
use mathlib.Core.List.{List, [], ◌∷◌, ◌++◌, append_assoc, append-nil}
use native.Mathlib.Omega.{arith}
use lib.Dec.{eqb, leb, ltb}
use borrow.Author.Tests.{ltb-true, leb-true, eqb-true, eqb-false}
use Rattle.protocol.specs.declared.step.Step.{Step}
use Rattle.stepfile.specs.Text.{decimal, argument_text, values_text}
use Rattle.stepfile.specs.Grammar.{Reading, found, nothing, onward, is_digit, digits_on, numeral, argument, Shape, whole, taking, no_word, two, three, four, words, same, shape_in, shape_of, shaped, step, alone, parse_line}
use Rattle.stepfile.specs.StepText.{word_of, numbers_of, step_text, EachFits}
use Rattle.sizes.proofs.Choosing.{when, unless, and_left, and_right, split}
use Rattle.stepfile.proofs.ReadsBack.{filled}
use Rattle.stepfile.proofs.Decimals.{decimal_small, decimal_large}
use Rattle.std.proofs.Common.{Some}

-- nothing is found where something is
pub never : {A : Type 0} (r : Reading A) (a : A) (l : List ℕ) → r ≡ nothing → r ≡ found a l → ⊥
never r a l e f = let z : ◌≡◌ {A = ℕ} 0 1 = cc in omega arith

-- the parts of what is found
module _ {A : Type 0} {a b : A} {l m : List ℕ} (e : found a l ≡ found b m) where
  same_found : a ≡ b
  same_found = cc

  same_rest : l ≡ m
  same_rest = cc

is_low : (b : ℕ) → is_digit b ≡ true → 48 ≤ b
is_low b e = leb-true 48 b (and_left (leb 48 b) (leb b 57) e)

is_high : (b : ℕ) → is_digit b ≡ true → b ≤ 57
is_high b e = leb-true b 57 (and_right (leb 48 b) (leb b 57) e)

-- a digit more is a decimal text longer by that digit
longer : (v b : ℕ) → 0 < v → 48 ≤ b → b ≤ 57 → decimal (v * 10 + (b - 48)) ≡ decimal v ++ (b ∷ [])
longer v b some low high =
    let n = v * 10 + (b - 48) in
    let tenth : n / 10 ≡ v = omega arith in
    let last : 48 + n % 10 ≡ b = omega arith in
    decimal_large n (omega arith) ∙ rw (tenth, last)

-- Where a reading of digits goes on from v, the digits of v and those that follow are the decimal text of what is found.
AsNumber : List ℕ → ℕ → List ℕ → Type 0
AsNumber l n rest = (l ≡ decimal n ++ rest) × (n < 2 ^ 64)

digits_as_written : (l : List ℕ) (v n : ℕ) (rest : List ℕ) → 0 < v → v < 2 ^ 64 → digits_on v l ≡ found n rest
    → AsNumber (decimal v ++ l) n rest
unfolding digits_on AsNumber
digits_as_written [] v n rest some fits e = (cc, rw (← same_found e) fits)
digits_as_written (b ∷ l) v n rest some fits e =
    split (is_digit b)
    (λ d.
    let low = is_low b d in
    let high = is_high b d in
    let w = v * 10 + (b - 48) in
    let e₁ = sym (when _ _ d) ∙ e in
    split (ltb w (2 ^ 64))
    (λ small.
    let r = digits_as_written l w n rest (omega arith) (ltb-true w (2 ^ 64) small) (sym (when _ _ small) ∙ e₁) in
    (sym (append_assoc (decimal v) (b ∷ []) l) ∙ ap (λ t. t ++ l) (sym (longer v b some low high)) ∙ r.0, r.1))
    (λ large. absurd (never _ _ _ (unless _ _ large) e₁)))
    (λ d. let f = sym (unless _ _ d) ∙ e in (cc, rw (← same_found f) fits))

numeral_as_written : (l : List ℕ) (n : ℕ) (rest : List ℕ) → numeral l ≡ found n rest → AsNumber l n rest
unfolding numeral AsNumber
numeral_as_written [] n rest e = absurd (never _ _ _ refl e)
numeral_as_written (b ∷ l) n rest e =
    split (eqb b 48)
    (λ z.
    let f = sym (when _ _ z) ∙ e in
    let none : n ≡ 0 = sym (same_found f) in
    let text : decimal 0 ≡ 48 ∷ [] = decimal_small 0 (omega arith) in
    (cc (eqb-true b 48 z, text), omega arith))
    (λ z.
    let e₁ = sym (unless _ _ z) ∙ e in
    split (is_digit b)
    (λ d.
    let some : b ≡ 48 → ⊥ = eqb-false b 48 z in
    let low = is_low b d in
    let high = is_high b d in
    let first : decimal (b - 48) ≡ b ∷ [] =
    let back : 48 + (b - 48) ≡ b = omega arith in
    decimal_small (b - 48) (omega arith) ∙ rw back in
    let r = digits_as_written l (b - 48) n rest (omega arith) (omega arith) (sym (when _ _ d) ∙ e₁) in
    (ap (λ t. t ++ l) (sym first) ∙ r.0, r.1))
    (λ d. absurd (never _ _ _ (unless _ _ d) e₁)))

pub argument_as_written : (l : List ℕ) (n : ℕ) (rest : List ℕ) → argument l ≡ found n rest → (l ≡ argument_text n ++ rest) × (n < 2 ^ 64)
unfolding argument AsNumber
argument_as_written [] n rest e = absurd (never _ _ _ refl e)
argument_as_written (b ∷ l) n rest e =
    split (eqb b 32)
    (λ z.
    let r = numeral_as_written l n rest (sym (when _ _ z) ∙ e) in
    (cc (eqb-true b 32 z, r.0), r.1))
    (λ z. absurd (never _ _ _ (unless _ _ z) e))

-- The numbers of a shape: they make the step s, and their text and the rest are what is read.
record Taken (shape : Shape) (l : List ℕ) (s : Step) (rest : List ℕ) : Type 0 where
  numbers : List ℕ
  make : filled shape numbers ≡ found s []
  text : l ≡ values_text numbers ++ rest
  fits : EachFits numbers

-- the first number, and then the others
taking_as_written : (f : ℕ → Shape) (l : List ℕ) (s : Step) (rest : List ℕ)
    → ((n : ℕ) (m : List ℕ) → shaped (f n) m ≡ found s rest → Taken (f n) m s rest)
    → (r : Reading ℕ) → argument l ≡ r → onward r (λ n m. shaped (f n) m) ≡ found s rest → Taken (taking f) l s rest
unfolding values_text
taking_as_written f l s rest others (found n m) q e =
    let a = argument_as_written l n m q in
    let t = others n m e in
    record {
      numbers = n ∷ t.numbers;
      make = t.make;
      text = a.0 ∙ ap (λ k. argument_text n ++ k) t.text ∙ sym (append_assoc (argument_text n) (values_text t.numbers) rest);
      fits = (a.1, t.fits);
    }
taking_as_written f l s rest others nothing q e = absurd (never _ _ _ refl e)

shaped_as_written : (shape : Shape) (l : List ℕ) (s : Step) (rest : List ℕ) → shaped shape l ≡ found s rest → Taken shape l s rest
unfolding shaped values_text
shaped_as_written (whole x) l s rest e = record { numbers = []; make = cc; text = same_rest e; fits = tt }
shaped_as_written (taking f) l s rest e =
    taking_as_written f l s rest (λ n m. shaped_as_written (f n) m s rest) (argument l) refl e
shaped_as_written no_word l s rest e = absurd (never _ _ _ refl e)

-- The numbers that fill the shape of a word, after those that stand in front, are the numbers of the step, and the word is its word.
record OfWord (word front : List ℕ) (shape : Shape) : Type 0 where
  are : (ns : List ℕ) (s : Step) → filled shape ns ≡ found s [] → (word_of s ≡ word) × (numbers_of s ≡ front ++ ns)

of_none : (word front : List ℕ) (x : Step) → word_of x ≡ word → numbers_of x ≡ front ++ [] → OfWord word front (whole x)
of_none word front x w n = record { are = from }
  where
    from : (ns : List ℕ) (s : Step) → filled (whole x) ns ≡ found s [] → (word_of s ≡ word) × (numbers_of s ≡ front ++ ns)
    from [] s e = rw (← same_found e) (w, n)
    from (a ∷ ns) s e = absurd (never _ _ _ refl e)

of_more : (word front : List ℕ) (f : ℕ → Shape) → ((a : ℕ) → OfWord word (front ++ (a ∷ [])) (f a)) → OfWord word front (taking f)
of_more word front f h = record { are = from }
  where
    from : (ns : List ℕ) (s : Step) → filled (taking f) ns ≡ found s [] → (word_of s ≡ word) × (numbers_of s ≡ front ++ ns)
    from [] s e = absurd (never _ _ _ refl e)
    from (a ∷ ns) s e =
        let r = (h a).are ns s e in
        (r.0, r.1 ∙ append_assoc front (a ∷ []) ns)

-- so of each word in the table
abbrev AllOfWord : List (List ℕ × Shape) → Type 0
AllOfWord [] = Unit {0}
AllOfWord (e ∷ es) = OfWord e.0 [] e.1 × AllOfWord es

of_two : (word : List ℕ) (g : ℕ → ℕ → Step) → ((a b : ℕ) → (word_of (g a b) ≡ word) × (numbers_of (g a b) ≡ a ∷ b ∷ []))
    → OfWord word [] (two g)
of_two word g h = of_more word [] _ (λ a. of_more word (a ∷ []) _ (λ b. of_none word (a ∷ b ∷ []) (g a b) (h a b).0 (h a b).1))

of_three : (word : List ℕ) (g : ℕ → ℕ → ℕ → Step)
    → ((a b d : ℕ) → (word_of (g a b d) ≡ word) × (numbers_of (g a b d) ≡ a ∷ b ∷ d ∷ [])) → OfWord word [] (three g)
of_three word g h =
    of_more word [] _
    (λ a. of_more word (a ∷ []) _
    (λ b. of_more word (a ∷ b ∷ []) _ (λ d. of_none word (a ∷ b ∷ d ∷ []) (g a b d) (h a b d).0 (h a b d).1)))

of_four : (word : List ℕ) (g : ℕ → ℕ → ℕ → ℕ → Step)
    → ((a b d v : ℕ) → (word_of (g a b d v) ≡ word) × (numbers_of (g a b d v) ≡ a ∷ b ∷ d ∷ v ∷ [])) → OfWord word [] (four g)
of_four word g h =
    of_more word [] _
    (λ a. of_more word (a ∷ []) _
    (λ b. of_more word (a ∷ b ∷ []) _
    (λ d. of_more word (a ∷ b ∷ d ∷ []) _
    (λ v. of_none word (a ∷ b ∷ d ∷ v ∷ []) (g a b d v) (h a b d v).0 (h a b d v).1))))

all_of_word : AllOfWord words
all_of_word = (
  of_two _ _ (λ a b. (refl, refl)),
  (
    of_two _ _ (λ a b. (refl, refl)),
    (
      of_two _ _ (λ a b. (refl, refl)),
      (
        of_two _ _ (λ a b. (refl, refl)),
        (
          of_two _ _ (λ a b. (refl, refl)),
          (
            of_three _ _ (λ a b d. (refl, refl)),
            (
              of_three _ _ (λ a b d. (refl, refl)),
              (
                of_four _ _ (λ a b d v. (refl, refl)),
                (
                  of_none _ [] _ refl refl,
                  (
                    of_more _ [] _ (λ a. of_none _ (a ∷ []) _ refl refl),
                    (
                      of_none _ [] _ refl refl,
                      (
                        of_more _ [] _ (λ a. of_none _ (a ∷ []) _ refl refl),
                        (
                          of_two _ _ (λ a b. (refl, refl)),
                          (
                            of_more _ [] _ (λ a. of_none _ (a ∷ []) _ refl refl),
                            tt,
                          ),
                        ),
                      ),
                    ),
                  ),
                ),
              ),
            ),
          ),
        ),
      ),
    ),
  ),
)

pub same_true : (xs ys : List ℕ) → same xs ys ≡ true → xs ≡ ys
same_true [] [] e = refl
same_true [] (y ∷ ys) e = absurd (false≢true e)
same_true (x ∷ xs) [] e = absurd (false≢true e)
same_true (x ∷ xs) (y ∷ ys) e =
    let here = eqb-true x y (and_left (eqb x y) (same xs ys) e) in
    let there = same_true xs ys (and_right (eqb x y) (same xs ys) e) in
    cc

-- l is the step s as it is written, and the rest after it
pub record AsStep (l : List ℕ) (s : Step) (rest : List ℕ) : Type 0 where
  pub text : l ≡ step_text s ++ rest
  pub fits : EachFits (numbers_of s)

in_table : (t : List (List ℕ × Shape)) → AllOfWord t → (word l : List ℕ) (s : Step) (rest : List ℕ)
    → shaped (shape_in t word) l ≡ found s rest → AsStep (word ++ l) s rest
unfolding shaped
in_table [] all word l s rest e = absurd (never _ _ _ refl e)
in_table (w ∷ ws) all word l s rest e =
    split (same word w.0)
    (λ is.
    let t = shaped_as_written w.1 l s rest (ap (λ x. shaped x l) (sym (when _ _ is)) ∙ e) in
    let of = all.0.are t.numbers s t.make in
    let named : word ≡ word_of s = same_true word w.0 is ∙ sym of.0 in
    record {
      text = ap (λ k. word ++ k) t.text
          ∙ sym (append_assoc word (values_text t.numbers) rest)
          ∙ ap (λ k. (k ++ values_text t.numbers) ++ rest) named
          ∙ ap (λ ns. (word_of s ++ values_text ns) ++ rest) (sym of.1);
      fits = rw of.1 t.fits;
    })
    (λ isnt. in_table ws all.1 word l s rest (ap (λ x. shaped x l) (sym (unless _ _ isnt)) ∙ e))

pub step_as_written : (l : List ℕ) (s : Step) (rest : List ℕ) → step l ≡ found s rest → AsStep l s rest
unfolding step shape_of
step_as_written [] s rest e = absurd (never _ _ _ refl e)
step_as_written (a ∷ []) s rest e = absurd (never _ _ _ refl e)
step_as_written (a ∷ b ∷ l) s rest e = in_table words all_of_word (a ∷ b ∷ []) l s rest e

-- what a line that is a step reads as
pub line_as_step : (l : List ℕ) (s : Step) → parse_line l ≡ Some s → AsStep l s []
unfolding parse_line
line_as_step l s e = from (step l) refl e
  where
    from : (r : Reading Step) → step l ≡ r → alone r ≡ Some s → AsStep l s []
    from (found x []) q f = let is : x ≡ s = cc in step_as_written l s [] (q ∙ ap (λ y. found y []) is)
    from (found x (b ∷ m)) q f = let z : ◌≡◌ {A = ℕ} 0 1 = cc in absurd (omega arith)
    from nothing q f = let z : ◌≡◌ {A = ℕ} 0 1 = cc in absurd (omega arith)

pub as_written : (l : List ℕ) (s : Step) → parse_line l ≡ Some s → l ≡ step_text s
as_written l s e = (line_as_step l s e).text ∙ append-nil (step_text s)

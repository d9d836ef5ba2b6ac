-- The grammar of a line of the step file, read from left to right: each definition gives what it finds at the front
-- of a list of bytes, and the bytes that follow it.
use Rattle.std.specs.Prelude.{ℕ, ◌+◌, ◌-◌, ◌*◌, ◌^◌, Bool, true, false, cond, ◌&&◌, List, [], ◌∷◌, Option, Some, None, eqb, leb, ltb}
use Rattle.records.specs.declared.record.Mode.TheVariants.{Read as ForRead, Write as ForWrite}
use Rattle.protocol.specs.declared.step.Step.{Step}
use Rattle.protocol.specs.declared.step.Step.TheVariants.{Open, Close, Read, Write, Flush, Answer, Crash, Report, End}
use Rattle.protocol.specs.declared.step.Step.TheVariants.{Restart, Embargo, Lift}
use Rattle.stepfile.specs.Text.{bytes}

-- what stands at the front of a list, with the rest of the list
pub data Reading (A : Type 0) : Type 0 where
  found : A → List ℕ → Reading A
  nothing : Reading A

-- what is found in the rest, once something is found at the front
abbrev pub onward : {A B : Type 0} → Reading A → (A → List ℕ → Reading B) → Reading B
onward (found a rest) k = k a rest
onward nothing k = nothing

abbrev pub is_digit : ℕ → Bool
is_digit b = leb 48 b && leb b 57

-- "decimal numbers below 2 to the 64th": v so far, and the digits that follow
unfoldable pub digits_on : ℕ → List ℕ → Reading ℕ
digits_on v [] = found v []
digits_on v (b ∷ l) =
    cond (is_digit b)
    (cond (ltb (v * 10 + (b - 48)) (2 ^ 64)) (digits_on (v * 10 + (b - 48)) l) nothing)
    (found v (b ∷ l))

-- "no leading zero": 0 by itself, or a digit above 0 and the digits that follow
unfoldable pub numeral : List ℕ → Reading ℕ
numeral [] = nothing
numeral (b ∷ l) = cond (eqb b 48) (found 0 l) (cond (is_digit b) (digits_on (b - 48) l) nothing)

-- "Single spaces": one before each number
unfoldable pub argument : List ℕ → Reading ℕ
argument [] = nothing
argument (b ∷ l) = cond (eqb b 32) (numeral l) nothing

-- what follows a word: the numbers that the step takes, one after the other
pub data Shape : Type 0 where
  whole : Step → Shape
  taking : (ℕ → Shape) → Shape
  no_word : Shape

abbrev pub one : (ℕ → Step) → Shape
one f = taking (λ a. whole (f a))

abbrev pub two : (ℕ → ℕ → Step) → Shape
two f = taking (λ a. one (f a))

abbrev pub three : (ℕ → ℕ → ℕ → Step) → Shape
three f = taking (λ a. two (f a))

abbrev pub four : (ℕ → ℕ → ℕ → ℕ → Step) → Shape
four f = taking (λ a. three (f a))

-- "OR, OW, CR, CW (open, close; read, write) and AN (reply) with station, file; RD and FL with station, file, block;
-- WR with station, file, block, value; XX crash; RP station; EN end." "A restarted station says so (BT station)"
-- (document 02, Wish 8). "put aside (EM station, file)", "told (LF station)" (Wish 9).
abbrev pub words : List (List ℕ × Shape)
words =
    (bytes "OR", two (Open ForRead))
    ∷ (bytes "OW", two (Open ForWrite))
    ∷ (bytes "CR", two (Close ForRead))
    ∷ (bytes "CW", two (Close ForWrite))
    ∷ (bytes "AN", two Answer)
    ∷ (bytes "RD", three Read)
    ∷ (bytes "FL", three Flush)
    ∷ (bytes "WR", four Write)
    ∷ (bytes "XX", whole Crash)
    ∷ (bytes "RP", one Report)
    ∷ (bytes "EN", whole End)
    ∷ (bytes "BT", one Restart)
    ∷ (bytes "EM", two Embargo)
    ∷ (bytes "LF", one Lift)
    ∷ []

abbrev pub same : List ℕ → List ℕ → Bool
same [] [] = true
same [] (y ∷ ys) = false
same (x ∷ xs) [] = false
same (x ∷ xs) (y ∷ ys) = eqb x y && same xs ys

abbrev pub shape_in : List (List ℕ × Shape) → List ℕ → Shape
shape_in [] word = no_word
shape_in (e ∷ es) word = cond (same word e.0) e.1 (shape_in es word)

unfoldable pub shape_of : ℕ → ℕ → Shape
shape_of a b = shape_in words (a ∷ b ∷ [])

-- the numbers of a shape, at the front of a list
unfoldable pub shaped : Shape → List ℕ → Reading Step
shaped (whole s) l = found s l
shaped (taking f) l = onward (argument l) (λ n rest. shaped (f n) rest)
shaped no_word l = nothing

-- a step at the front of a list: a word of two letters and its numbers
unfoldable pub step : List ℕ → Reading Step
step [] = nothing
step (a ∷ []) = nothing
step (a ∷ b ∷ l) = shaped (shape_of a b) l

-- a line is a step if nothing follows the step
abbrev pub alone : Reading Step → Option Step
alone (found s []) = Some s
alone (found s (b ∷ l)) = None
alone nothing = None

unfoldable pub parse_line : List ℕ → Option Step
parse_line l = alone (step l)

-- The lines of an input that LF ends: all of them, and the one that starts at an offset.
use Rattle.std.specs.Prelude.{ℕ, ◌+◌, Bool, true, false, cond, List, [], ◌∷◌, Option, Some, None, eqb, length, drop}
use Rattle.protocol.specs.declared.step.Step.{Step}
use Rattle.stepfile.specs.declared.parsed.Line.{Line}
use Rattle.stepfile.specs.Grammar.{Reading, found, nothing, onward, parse_line}

-- A byte before whole lines: LF begins another, any other byte is the first of the first line, if there is one.
abbrev pub before_whole : Bool → ℕ → List (List ℕ) → List (List ℕ)
before_whole true b ls = [] ∷ ls
before_whole false b [] = []
before_whole false b (l ∷ ls) = (b ∷ l) ∷ ls

-- the lines of an input that LF ends; bytes after the last LF are in none of them
unfoldable pub whole_lines : List ℕ → List (List ℕ)
whole_lines [] = []
whole_lines (b ∷ l) = before_whole (eqb b 10) b (whole_lines l)

-- the first line of an input, and what follows its LF; nothing where there is no LF
unfoldable pub first_line : List ℕ → Reading (List ℕ)
first_line [] = nothing
first_line (b ∷ l) = cond (eqb b 10) (found [] l) (onward (first_line l) (λ line rest. found (b ∷ line) rest))

abbrev pub line_of : Option Step → ℕ → Option Line
line_of step next = Some (record { step = step; next = next })

-- what a line that starts at the offset gives, and the offset past its LF
abbrev pub line_read : (List ℕ → Option Step) → ℕ → Reading (List ℕ) → Option Line
line_read gives at (found line rest) = line_of (gives line) (at + length line + 1)
line_read gives at nothing = None

abbrev pub read_at : List ℕ → ℕ → Option Line
read_at s at = line_read parse_line at (first_line (drop at s))

-- the same of a line that is known to be no step
abbrev pub no_step_at : List ℕ → ℕ → Option Line
no_step_at s at = line_read (λ line. None) at (first_line (drop at s))

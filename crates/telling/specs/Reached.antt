-- How far an input is told, at an offset where a line starts, for any kind of state.
use Rattle.std.specs.Prelude.{ℕ, ◌+◌, ◌≤◌, ◌≡◌, List, length, take, drop}
use Rattle.stepfile.specs.Input.{whole_lines}
use Rattle.stepfile.specs.Transcript.{lines, BreaksLine}
use Rattle.writer.specs.Buffer.{Wrote}
use Rattle.telling.specs.Lines.{Telling, said_over, state_after, reach_of, reach}

-- x is the state there, the next line has the number, and so many bytes are said
pub record At {S : Type 0} (t : Telling S) (s : S) (n : ℕ) (input : List ℕ) (x : S) (number used to : ℕ) : Type 0 where
  pub inside : used ≤ length input
  pub breaks : BreaksLine (take used input)
  pub numbers : number ≡ n + length (lines (take used input))
  pub state : x ≡ state_after t s n (take used input)
  pub size : to ≡ length (said_over t s n (take used input))

-- what is said so far is written, and the rest of the input gives what the whole was to give
pub record Reached
    {S : Type 0} (t : Telling S) (s : S) (n : ℕ) (input out : List ℕ) (x : S) (number used to : ℕ) (out' : List ℕ)
    : Type 0 where
  pub at : At t s n input x number used to
  pub writes : Wrote out 0 (said_over t s n (take used input)) out' to
  pub on : reach_of t (length out) (whole_lines (drop used input)) x number used to ≡ reach t s n input out

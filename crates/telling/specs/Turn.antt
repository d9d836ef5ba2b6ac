-- A turn: the bytes that fill a buffer are told, for any kind of state, and what is left of them moves to its start.
use Rattle.std.specs.Prelude.{ℕ, ◌+◌, ◌-◌, ◌≤◌, ◌≡◌, Bool, cond, not, ◌&&◌, List, eqb, ltb, length, take, drop, set}
use Rattle.std.proofs.Math.Seq.{paste}
use Rattle.telling.specs.Lines.{Telling, can_tell, reach, out_told}

abbrev pub least : ℕ → ℕ → ℕ
least a b = cond (ltb a b) a b

-- How many of the bytes that are left are kept for the next turn: all of them; of a line that has no LF yet 88 at most,
-- since a line of that length is no step and sets nothing, whatever follows.
abbrev pub kept_of : Bool → ℕ → ℕ
kept_of is_one_line left = cond is_one_line (least left 88) left

-- what a turn leaves: the state, the number of the next line, the bytes that are kept and those that were written, and
-- whether whole lines may be left
pub record Turned (S : Type 0) : Type 0 where
  pub state : S
  pub number : ℕ
  pub rest : ℕ
  pub written : ℕ
  pub paused : Bool

-- A turn from state s on over these bytes into a buffer, the first line numbered n. It pauses exactly where no other
-- line can be told; where one can, what is left has no whole line.
abbrev pub turn_by : {S : Type 0} → Telling S → S → ℕ → List ℕ → List ℕ → Turned S
turn_by t s n bytes out =
    let p = reach t s n bytes out in
    let can = can_tell t.room (length out) p.written p.number in
    record {
      state = p.state;
      number = p.number;
      rest = kept_of can (length bytes - p.used);
      written = p.written;
      paused = not can;
    }

-- the buffer after a turn over these bytes, the first of it: what is kept stands at its start
abbrev pub buffer_by : {S : Type 0} → Telling S → S → ℕ → List ℕ → List ℕ → List ℕ → List ℕ
buffer_by t s n buffer bytes out =
    paste buffer 0 (drop (reach t s n bytes out).used buffer) (turn_by t s n bytes out).rest

-- A turn is taken over the bytes that fill a buffer: this is what it leaves, and these are the buffers after it.
pub record Turns
    {S : Type 0} (t : Telling S) (s : S) (n : ℕ) (buffer : List ℕ) (filled : ℕ) (out : List ℕ) (u : Turned S)
    (buffer' out' : List ℕ) : Type 0 where
  pub turned : u ≡ turn_by t s n (take filled buffer) out
  pub moves : buffer' ≡ buffer_by t s n buffer (take filled buffer) out
  pub writes : out' ≡ out_told t s n (take filled buffer) out
  pub fits : u.written ≤ length out
  pub inside : u.rest ≤ length buffer

-- the end of the input: LF after the rest, if there is one and room for it
abbrev pub lacks_lf : List ℕ → ℕ → Bool
lacks_lf buffer rest = not (eqb rest 0) && ltb rest (length buffer)

abbrev pub completed_buffer : List ℕ → ℕ → List ℕ
completed_buffer buffer rest = cond (lacks_lf buffer rest) (set buffer rest 10) buffer

abbrev pub completed_count : List ℕ → ℕ → ℕ
completed_count buffer rest = cond (lacks_lf buffer rest) (rest + 1) rest

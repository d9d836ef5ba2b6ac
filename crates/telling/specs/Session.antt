-- A session: one input from its first byte to its end, told turn by turn, for any kind of state. The program reads,
-- lets the session take a turn, and writes what the turn left in the output buffer; all else is decided here.
use Rattle.std.specs.Prelude.{ℕ, ◌+◌, ◌≤◌, ◌≡◌, Bool, false, cond, not, ◌&&◌, ◌||◌, List, eqb, leb, length, take}
use Rattle.writer.specs.Buffer.{written}
use Rattle.telling.specs.Lines.{Telling, out_told}
use Rattle.telling.specs.Turn.{least, Turned, turn_by, buffer_by, completed_buffer, completed_count}

-- what stands between two turns: the state, the number of the next line, the bytes at the start of the buffer that are
-- still to be told, whether whole lines may be among them, whether the input is over, and whether all is told
pub record Standing (S : Type 0) : Type 0 where
  pub state : S
  pub number : ℕ
  pub rest : ℕ
  pub paused : Bool
  pub over : Bool
  pub done : Bool

-- it begins with a state, and "line number from 1"
abbrev pub standing_at : {S : Type 0} → S → Standing S
standing_at s = record { state = s; number = 1; rest = 0; paused = false; over = false; done = false }

-- what a turn leaves of it, and how much it wrote
pub record Moved (S : Type 0) : Type 0 where
  pub standing : Standing S
  pub written : ℕ

-- whether the program is to read before the turn: whole lines may be left otherwise, or the input is over
abbrev pub wants_input : {S : Type 0} → Standing S → Bool
wants_input σ = not (σ.paused || σ.over)

-- whether the turn writes the end: the input is over, and all of it is told
abbrev pub is_last_turn : {S : Type 0} → Standing S → Bool
is_last_turn σ = σ.over && not σ.paused

-- a read that gave nothing: the input is over
abbrev pub reads_nothing : Bool → ℕ → Bool
reads_nothing paused got = not paused && eqb got 0

-- The buffer that the turn tells, and how many bytes of it: the rest and what was read, at most what the buffer has; at
-- the end of the input the rest and LF.
abbrev pub turn_buffer : Bool → ℕ → ℕ → List ℕ → List ℕ
turn_buffer paused rest got buffer = cond (reads_nothing paused got) (completed_buffer buffer rest) buffer

abbrev pub filled : Bool → ℕ → ℕ → List ℕ → ℕ
filled paused rest got buffer =
    cond paused rest (cond (eqb got 0) (completed_count buffer rest) (least (rest + got) (length buffer)))

abbrev pub turn_buffer_of : {S : Type 0} → Standing S → ℕ → List ℕ → List ℕ
turn_buffer_of σ got buffer = turn_buffer σ.paused σ.rest got buffer

abbrev pub turn_bytes : {S : Type 0} → Standing S → ℕ → List ℕ → List ℕ
turn_bytes σ got buffer = take (filled σ.paused σ.rest got buffer) (turn_buffer_of σ got buffer)

abbrev pub with_turn : {S : Type 0} → Standing S → ℕ → Turned S → Moved S
with_turn σ got t =
    record {
      standing =
          record {
            state = t.state;
            number = t.number;
            rest = t.rest;
            paused = t.paused;
            over = σ.over || reads_nothing σ.paused got;
            done = false;
          };
      written = t.written;
    }

-- after the last turn: done, if there was room for the end
abbrev pub closed_by : {S : Type 0} → Telling S → Standing S → List ℕ → Moved S
closed_by t σ out =
    record {
      standing =
          record {
            state = σ.state;
            number = σ.number;
            rest = 0;
            paused = σ.paused;
            over = σ.over;
            done = leb t.close_room (length out);
          };
      written = cond (leb t.close_room (length out)) (length (t.close σ.state)) 0;
    }

-- What a turn leaves: what stands then and how much was written, the buffer, and the output buffer. `got` is what the
-- read gave, and counts only where input is wanted.
abbrev pub moved_by : {S : Type 0} → Telling S → Standing S → ℕ → List ℕ → List ℕ → Moved S
moved_by t σ got buffer out =
    cond (is_last_turn σ) (closed_by t σ out)
    (with_turn σ got (turn_by t σ.state σ.number (turn_bytes σ got buffer) out))

abbrev pub buffer_moved : {S : Type 0} → Telling S → Standing S → ℕ → List ℕ → List ℕ → List ℕ
buffer_moved t σ got buffer out =
    cond (is_last_turn σ) buffer
    (buffer_by t σ.state σ.number (turn_buffer_of σ got buffer) (turn_bytes σ got buffer) out)

abbrev pub out_closed : {S : Type 0} → Telling S → Standing S → List ℕ → List ℕ
out_closed t σ out = cond (leb t.close_room (length out)) (written out 0 (t.close σ.state)) out

abbrev pub out_moved : {S : Type 0} → Telling S → Standing S → ℕ → List ℕ → List ℕ → List ℕ
out_moved t σ got buffer out =
    cond (is_last_turn σ) (out_closed t σ out) (out_told t σ.state σ.number (turn_bytes σ got buffer) out)

-- The session takes its turn: this is what stands then, and these are the buffers after it.
pub record Moves
    {S : Type 0} (t : Telling S) (σ : Standing S) (got : ℕ) (buffer out : List ℕ) (m : Moved S)
    (buffer' out' : List ℕ) : Type 0 where
  pub moved : m ≡ moved_by t σ got buffer out
  pub keeps : buffer' ≡ buffer_moved t σ got buffer out
  pub writes : out' ≡ out_moved t σ got buffer out
  pub fits : m.written ≤ length out
  pub inside : m.standing.rest ≤ length buffer

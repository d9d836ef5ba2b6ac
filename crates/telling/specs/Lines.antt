-- Lines told one after the other into a buffer, for any kind of state: where that stops, and what it leaves.
use Rattle.std.specs.Prelude.{ℕ, ◌+◌, ◌≤◌, ◌≡◌, Bool, cond, ◌&&◌, List, [], ◌∷◌, leb, ltb, length, take}
use Rattle.stepfile.specs.Input.{whole_lines}
use Rattle.stepfile.specs.Transcript.{lines, transcript, after}
use Rattle.writer.specs.Buffer.{written}

-- how an input is told: what is said of a line, the state after it, and the room that a line is given; then what is
-- said at the end, and its room
pub record Telling (S : Type 0) : Type 0 where
  pub say : S → ℕ → List ℕ → List ℕ
  pub next : S → ℕ → List ℕ → S
  pub room : ℕ
  pub close : S → List ℕ
  pub close_room : ℕ

-- "line number from 1": a line has its number if it is below the largest, so that there is one for the next
abbrev pub last_number : ℕ
last_number = 18446744073709551615

abbrev pub is_number : ℕ → Bool
is_number n = ltb 0 n && ltb n last_number

-- whether another line can be told: there is so much room for it, and its number is one
abbrev pub can_tell : ℕ → ℕ → ℕ → ℕ → Bool
can_tell need room to number = leb (to + need) room && is_number number

-- what is said of an input from state s on, its first line numbered n, and the state after it
abbrev pub said_over : {S : Type 0} → Telling S → S → ℕ → List ℕ → List ℕ
said_over t s n input = transcript t.say t.next s n (lines input)

abbrev pub state_after : {S : Type 0} → Telling S → S → ℕ → List ℕ → S
state_after t s n input = after t.next s n (lines input)

-- how far it goes: the state before a line with this number, and how many bytes of the input are used and written
pub record Reach (S : Type 0) : Type 0 where
  pub state : S
  pub number : ℕ
  pub used : ℕ
  pub written : ℕ

abbrev pub stopped_at : {S : Type 0} → S → ℕ → ℕ → ℕ → Reach S
stopped_at s number used to = record { state = s; number = number; used = used; written = to }

-- Lines are told one after the other as long as another can be.
unfoldable pub reach_of : {S : Type 0} → Telling S → ℕ → List (List ℕ) → S → ℕ → ℕ → ℕ → Reach S
reach_of t room [] s n used to = stopped_at s n used to
reach_of t room (l ∷ ls) s n used to =
    cond (can_tell t.room room to n)
    (reach_of t room ls (t.next s n l) (n + 1) (used + length l + 1) (to + length (t.say s n l)))
    (stopped_at s n used to)

-- how far an input is told into a buffer
abbrev pub reach : {S : Type 0} → Telling S → S → ℕ → List ℕ → List ℕ → Reach S
reach t s n input out = reach_of t (length out) (whole_lines input) s n 0 0

-- the buffer after it: what is said of the part that was told, from its start on
abbrev pub out_told : {S : Type 0} → Telling S → S → ℕ → List ℕ → List ℕ → List ℕ
out_told t s n input out = written out 0 (said_over t s n (take (reach t s n input out).used input))

-- The lines of an input are told into a buffer: so far it goes, and this is the buffer after it.
pub record Tells
    {S : Type 0} (t : Telling S) (s : S) (n : ℕ) (input out : List ℕ) (p : Reach S) (out' : List ℕ) : Type 0 where
  pub reached : p ≡ reach t s n input out
  pub writes : out' ≡ out_told t s n input out
  pub fits : p.written ≤ length out

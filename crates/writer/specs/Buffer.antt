-- A text in a buffer.
use Rattle.std.specs.Prelude.{ℕ, ◌+◌, ◌*◌, ◌≤◌, ◌≡◌, cond, List, ◌++◌, leb, length, take, drop}
use Rattle.words.specs.Said.{said_room}

-- the buffer d with the text s from offset at on; every other byte stays
abbrev pub written : List ℕ → ℕ → List ℕ → List ℕ
written d at s = take at d ++ (s ++ drop (at + length s) d)

-- s was written into d at offset at: d' is the buffer after it, at' the offset past it
pub record Wrote (d : List ℕ) (at : ℕ) (s : List ℕ) (d' : List ℕ) (at' : ℕ) : Type 0 where
  pub bytes : d' ≡ written d at s
  pub next : at' ≡ at + length s
  pub fits : at + length s ≤ length d

-- s was written where there is room for so many bytes; where there is less, nothing was
pub record WroteIfRoom (room : ℕ) (d : List ℕ) (at : ℕ) (s : List ℕ) (d' : List ℕ) (at' : ℕ) : Type 0 where
  pub bytes : d' ≡ cond (leb (at + room) (length d)) (written d at s) d
  pub next : at' ≡ cond (leb (at + room) (length d)) (at + length s) at

-- the room that the words of a reply need, each with a space and at most 20 digits; and the room that a reply line and
-- the summary are given: more than they take
abbrev pub words_room : ℕ
words_room = 21 * said_room

abbrev pub line_room : ℕ
line_room = 5600

abbrev pub summary_room : ℕ
summary_room = 8192

-- A run of the program: the turns of one session, over an input that comes in pieces, for any kind of state.
use Rattle.std.specs.Prelude.{ℕ, ◌+◌, ◌≤◌, ◌<◌, ◌≡◌, false, List, [], ◌∷◌, ◌++◌, length, take}
use Rattle.telling.specs.Lines.{Telling}
use Rattle.telling.specs.Session.{Standing, Moved, wants_input, moved_by, buffer_moved, out_moved}

-- a turn of the program: the piece of input that was read for it, and both buffers as the turn finds them
pub record Leg : Type 0 where
  pub piece : List ℕ
  pub buffer : List ℕ
  pub out : List ℕ

module _ {S : Type 0} (t : Telling S) where
  -- what stands after the turn, the buffer that it leaves, and what is written then
  abbrev pub moved_on : Standing S → Leg → Moved S
  moved_on σ g = moved_by t σ (length g.piece) g.buffer g.out

  abbrev pub left_on : Standing S → Leg → List ℕ
  left_on σ g = buffer_moved t σ (length g.piece) g.buffer g.out

  abbrev pub wrote_on : Standing S → Leg → List ℕ
  wrote_on σ g = take (moved_on σ g).written (out_moved t σ (length g.piece) g.buffer g.out)

  -- The program takes a turn of a session that is not done: the piece that it read stands after the rest, and it read
  -- none where none is wanted. The buffers have room for a line of 88 bytes and its LF, and for the end.
  pub record TakesTurn (σ : Standing S) (buffer : List ℕ) (g : Leg) : Type 0 where
    pub going : σ.done ≡ false
    pub reading : wants_input σ ≡ false → g.piece ≡ []
    pub found : take (σ.rest + length g.piece) g.buffer ≡ take σ.rest buffer ++ g.piece
    pub fits : σ.rest + length g.piece ≤ length g.buffer
    pub room : 88 < length g.buffer
    pub space : t.close_room ≤ length g.out

  -- each turn begins with what the one before left
  abbrev pub TakesTurns : Standing S → List ℕ → List Leg → Type 0
  TakesTurns σ buffer [] = Unit {0}
  TakesTurns σ buffer (g ∷ gs) = TakesTurn σ buffer g × TakesTurns (moved_on σ g).standing (left_on σ g) gs

  -- all that was written, and what stands after it
  abbrev pub written_by : Standing S → List Leg → List ℕ
  written_by σ [] = []
  written_by σ (g ∷ gs) = wrote_on σ g ++ written_by (moved_on σ g).standing gs

  abbrev pub last_standing : Standing S → List Leg → Standing S
  last_standing σ [] = σ
  last_standing σ (g ∷ gs) = last_standing (moved_on σ g).standing gs

-- all that was read
abbrev pub input : List Leg → List ℕ
input [] = []
input (g ∷ gs) = g.piece ++ input gs

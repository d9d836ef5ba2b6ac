-- A run of the player: the turns of one session, over an input that comes in pieces.
use Rattle.std.specs.Prelude.{ℕ, Bool, List}
use Rattle.service.specs.declared.service.Service.{Service}
use Rattle.telling.specs.Session.{Standing, standing_at}
use Rattle.telling.specs.Run.{Leg, TakesTurns, written_by, last_standing}
use Rattle.playing.specs.Lines.{playing}

-- the program takes these turns from service s on, the buffer being as it was left
abbrev pub Follows : Bool → Service → List ℕ → List Leg → Type 0
Follows settable s buffer gs = TakesTurns (playing settable) (standing_at s) buffer gs

-- all that was written, and what stands after it
abbrev pub output : Bool → Service → List Leg → List ℕ
output settable s gs = written_by (playing settable) (standing_at s) gs

abbrev pub at_end : Bool → Service → List Leg → Standing Service
at_end settable s gs = last_standing (playing settable) (standing_at s) gs

-- A run of the counter: the turns of one session, over an input that comes in pieces.
use Rattle.std.specs.Prelude.{ℕ, Bool, List}
use Rattle.service.specs.declared.service.Service.{Service}
use Rattle.telling.specs.Session.{Standing, standing_at}
use Rattle.telling.specs.Run.{Leg, TakesTurns, written_by, last_standing}
use Rattle.counting.specs.Lines.{Counted, uncounted, counting}

-- the program takes these turns from service s on, with nothing counted, the buffer being as it was left
abbrev pub Follows : Bool → Service → List ℕ → List Leg → Type 0
Follows settable s buffer gs = TakesTurns (counting settable) (standing_at (uncounted s)) buffer gs

-- all that was written, and what stands after it
abbrev pub output : Bool → Service → List Leg → List ℕ
output settable s gs = written_by (counting settable) (standing_at (uncounted s)) gs

abbrev pub at_end : Bool → Service → List Leg → Standing Counted
at_end settable s gs = last_standing (counting settable) (standing_at (uncounted s)) gs

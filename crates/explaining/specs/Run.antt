-- A run of the explainer: the turns of one session, over an input that comes in pieces; and the whole output for a
-- whole input.
use Rattle.std.specs.Prelude.{ℕ, Bool, true, List, ◌++◌}
use Rattle.sizes.specs.Sizes.{default_sizes}
use Rattle.service.specs.declared.service.Service.{Service}
use Rattle.service.specs.Fresh.{fresh as fresh_service}
use Rattle.ledger.specs.declared.annotated.Annotated.{Annotated}
use Rattle.ledger.specs.Annotated.{unannotated}
use Rattle.picture.specs.Picture.{picture_text}
use Rattle.telling.specs.Lines.{said_over, state_after}
use Rattle.telling.specs.Session.{Standing, standing_at}
use Rattle.telling.specs.Run.{Leg, TakesTurns, written_by, last_standing}
use Rattle.explaining.specs.Lines.{explaining}

-- the program takes these turns from service s on, with nothing noted, the buffer being as it was left
abbrev pub Follows : Bool → Service → List ℕ → List Leg → Type 0
Follows fresh s buffer gs = TakesTurns (explaining fresh) (standing_at (unannotated s)) buffer gs

-- all that was written, and what stands after it
abbrev pub output : Bool → Service → List Leg → List ℕ
output fresh s gs = written_by (explaining fresh) (standing_at (unannotated s)) gs

abbrev pub at_end : Bool → Service → List Leg → Standing Annotated
at_end fresh s gs = last_standing (explaining fresh) (standing_at (unannotated s)) gs

-- the explained lines of an input from service s on, and the picture of what they leave
abbrev pub explained_from : Bool → Service → List ℕ → List ℕ
explained_from fresh s input =
    said_over (explaining fresh) (unannotated s) 1 input
    ++ picture_text (state_after (explaining fresh) (unannotated s) 1 input)

-- from a fresh service, whose sizes the first line may choose
unfoldable pub explained_file : List ℕ → List ℕ
explained_file input = explained_from true (fresh_service default_sizes) input

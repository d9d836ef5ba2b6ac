-- The lines of a buffer, played on the service that lent arrays hold. The Bool `settable` says whether a first line may
-- choose the sizes.
use Rattle.std.specs.Prelude.{ℕ, ◌≡◌, Bool, false, ◌&&◌, List, eqb, length, drop}
use Rattle.sizes.specs.declared.sizes.Sizes.{Sizes}
use Rattle.blocks.specs.declared.stores.Stores.{Stores}
use Rattle.service.specs.declared.service.Service.{Service}
use Rattle.service.specs.Lent.{service_held}
use Rattle.stepfile.specs.Played.{reply_line, service_after, summary_of}
use Rattle.reader.specs.FirstLine.{is_set, first_setting}
use Rattle.writer.specs.Buffer.{line_room, summary_room}
use Rattle.telling.specs.Lines.{Telling, Reach, Tells, can_tell}
use Rattle.telling.specs.Reached.{Reached}
use Rattle.playing.specs.declared.lines.Progress.{Progress}

-- the player tells the reply to each line, and at the end the summary
abbrev pub playing : Bool → Telling Service
playing settable =
    record {
      say = reply_line settable;
      next = service_after settable;
      room = line_room;
      close = summary_of;
      close_room = summary_room;
    }

-- whether the first line of an input, numbered n, chooses the sizes
abbrev pub chooses_sizes : Bool → ℕ → List ℕ → Bool
chooses_sizes settable n input = (settable && eqb n 1) && is_set (first_setting input).setting

-- how far it went, with what stands then, a service or what holds one
abbrev pub reach_with : {S : Type 0} → Progress → S → Reach S
reach_with p x = record { state = x; number = p.number; used = p.used; written = p.written }

-- with the service that the arrays hold then
abbrev pub reach_held : Progress → List ℕ → List Bool → Stores → Reach Service
reach_held p t flags a = reach_with p (service_held p.sizes t flags a)

-- The lines of an input are played, the first of them numbered n: what is told of them from the service that the arrays
-- held is in the output buffer, and the arrays hold the service after them.
pub record Plays
    (settable : Bool) (z : Sizes) (n : ℕ) (input out₀ t₀ : List ℕ) (flags₀ : List Bool) (a₀ : Stores) (p : Progress)
    (out t : List ℕ) (flags : List Bool) (a : Stores) : Type 0 where
  pub tells : Tells (playing settable) (service_held z t₀ flags₀ a₀) n input out₀ (reach_held p t flags a) out

-- An input begins with a line that chooses the sizes, and it is told, or nothing is: no line that can be told next
-- chooses them.
pub record Begins
    (settable : Bool) (z : Sizes) (n : ℕ) (input out₀ t₀ : List ℕ) (flags₀ : List Bool) (a₀ : Stores) (p : Progress)
    (out t : List ℕ) (flags : List Bool) (a : Stores) : Type 0 where
  pub reached :
      Reached (playing settable) (service_held z t₀ flags₀ a₀) n input out₀ (service_held p.sizes t flags a) p.number
      p.used p.written out
  pub chosen :
      (chooses_sizes settable p.number (drop p.used input) && can_tell line_room (length out) p.written p.number)
      ≡ false

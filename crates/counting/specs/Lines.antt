-- The lines of a buffer, counted on the service and the totals that lent arrays hold. Nothing is written for a line. The
-- Bool `settable` says whether a first line may choose the sizes.
use Rattle.std.specs.Prelude.{ℕ, ◌≡◌, Bool, false, ◌&&◌, List, [], drop, replicate}
use Rattle.sizes.specs.declared.sizes.Sizes.{Sizes}
use Rattle.blocks.specs.declared.stores.Stores.{Stores}
use Rattle.service.specs.declared.service.Service.{Service}
use Rattle.service.specs.Lent.{service_held}
use Rattle.stepfile.specs.Played.{service_after}
use Rattle.telling.specs.Lines.{Telling, Reach, Tells, can_tell}
use Rattle.telling.specs.Reached.{Reached}
use Rattle.playing.specs.declared.lines.Progress.{Progress}
use Rattle.playing.specs.Lines.{chooses_sizes, reach_with}
use Rattle.trace.specs.Counted.{totals_room, counted_all}
use Rattle.trace.specs.Number.{total_at}
use Rattle.counting.specs.Printed.{traffic_text, traffic_room}
use Rattle.counting.specs.LineTrace.{stations_of, trace_at}

-- a service, and the totals beside it
pub record Counted : Type 0 where
  pub service : Service
  pub totals : List ℕ

-- nothing is counted yet
abbrev pub uncounted : Service → Counted
uncounted s = record { service = s; totals = replicate totals_room 0 }

-- a line is counted: "lends each line's records as a trace and adds up"
abbrev pub counted_line : Bool → Counted → ℕ → List ℕ → Counted
counted_line settable c n l =
    record {
      service = service_after settable c.service n l;
      totals = counted_all (stations_of c.service) (trace_at c.service l) c.totals;
    }

abbrev pub counted_text : Counted → List ℕ
counted_text c = traffic_text (stations_of c.service) (total_at c.totals)

-- the counter tells nothing of a line, and the totals at the end
abbrev pub counting : Bool → Telling Counted
counting settable =
    record {
      say = λ c n l. [];
      next = counted_line settable;
      room = 0;
      close = counted_text;
      close_room = traffic_room;
    }

-- the service and the totals that the arrays hold
abbrev pub counted_held : Sizes → List ℕ → List Bool → Stores → List ℕ → Counted
counted_held z t flags a totals = record { service = service_held z t flags a; totals = totals }

-- how far it went, with what the arrays hold then
abbrev pub reach_held : Progress → List ℕ → List Bool → Stores → List ℕ → Reach Counted
reach_held p t flags a totals = reach_with p (counted_held p.sizes t flags a totals)

-- The lines of an input are counted, the first of them numbered n: the arrays hold the service and the totals after
-- them, and any output buffer stays.
pub record CountsLines
    (settable : Bool) (z : Sizes) (n : ℕ) (input t₀ : List ℕ) (flags₀ : List Bool) (a₀ : Stores) (totals₀ : List ℕ)
    (p : Progress) (t : List ℕ) (flags : List Bool) (a : Stores) (totals : List ℕ) : Type 0 where
  pub tells :
      (out : List ℕ)
      → Tells (counting settable) (counted_held z t₀ flags₀ a₀ totals₀) n input out (reach_held p t flags a totals) out

-- An input begins with a line that chooses the sizes, or nothing is done: no line that can be counted next chooses
-- them. No record is made of it.
pub record Begins
    (settable : Bool) (z : Sizes) (n : ℕ) (input t₀ : List ℕ) (flags₀ : List Bool) (a₀ : Stores) (p : Progress)
    (t : List ℕ) (flags : List Bool) (a : Stores) : Type 0 where
  pub reached :
      (totals out : List ℕ)
      → Reached (counting settable) (counted_held z t₀ flags₀ a₀ totals) n input out
      (counted_held p.sizes t flags a totals) p.number p.used 0 out
  pub chosen : (chooses_sizes settable p.number (drop p.used input) && can_tell 0 0 0 p.number) ≡ false

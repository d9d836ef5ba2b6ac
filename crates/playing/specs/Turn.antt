-- A turn of the player, on the service that lent arrays hold.
use Rattle.std.specs.Prelude.{ℕ, ◌-◌, Bool, not, List}
use Rattle.sizes.specs.declared.sizes.Sizes.{Sizes}
use Rattle.blocks.specs.declared.stores.Stores.{Stores}
use Rattle.service.specs.declared.service.Service.{Service}
use Rattle.service.specs.Lent.{service_held}
use Rattle.telling.specs.Lines.{can_tell}
use Rattle.telling.specs.Turn.{Turned, Turns, kept_of}
use Rattle.playing.specs.declared.lines.Progress.{Progress}
use Rattle.playing.specs.declared.turn.Turn.{Turn}
use Rattle.playing.specs.Lines.{playing}

-- what a turn leaves where it went so far, with n bytes to tell, in an output of so much room of which a line needs some
abbrev pub turn_after : Progress → ℕ → ℕ → ℕ → Turn
turn_after p need room n =
    record {
      sizes = p.sizes;
      number = p.number;
      rest = kept_of (can_tell need room p.written p.number) (n - p.used);
      written = p.written;
      paused = not (can_tell need room p.written p.number);
    }

-- what a turn leaves, with what stands then
abbrev pub turned_with : {S : Type 0} → Turn → S → Turned S
turned_with u x = record { state = x; number = u.number; rest = u.rest; written = u.written; paused = u.paused }

-- with the service that the arrays hold then
abbrev pub turned_held : Turn → List ℕ → List Bool → Stores → Turned Service
turned_held u t flags a = turned_with u (service_held u.sizes t flags a)

pub record PlaysTurn
    (settable : Bool) (z : Sizes) (n : ℕ) (buffer₀ : List ℕ) (filled : ℕ) (out₀ t₀ : List ℕ) (flags₀ : List Bool)
    (a₀ : Stores) (u : Turn) (buffer out t : List ℕ) (flags : List Bool) (a : Stores) : Type 0 where
  pub turns :
      Turns (playing settable) (service_held z t₀ flags₀ a₀) n buffer₀ filled out₀ (turned_held u t flags a) buffer out

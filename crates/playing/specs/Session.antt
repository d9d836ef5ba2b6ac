-- The player's session: it begins with the fresh service, whose sizes line 1 may choose, or with a given one. The
-- service is in lent arrays, the rest of what stands between two turns in the session.
use Rattle.std.specs.Prelude.{ℕ, ◌≡◌, Bool, true, false, not, ◌&&◌, ◌||◌, List, eqb}
use Rattle.sizes.specs.declared.sizes.Sizes.{Sizes}
use Rattle.sizes.specs.Sizes.{default_sizes}
use Rattle.blocks.specs.declared.stores.Stores.{Stores}
use Rattle.service.specs.declared.service.Service.{Service}
use Rattle.service.specs.Lent.{service_held}
use Rattle.telling.specs.Session.{Standing, Moved, Moves}
use Rattle.playing.specs.declared.session.Session.{Session}
use Rattle.playing.specs.declared.session.Advance.{Advance}
use Rattle.playing.specs.declared.turn.Turn.{Turn}
use Rattle.playing.specs.Lines.{playing}

-- before line 1
abbrev pub start_of : Bool → Sizes → Session
start_of settable z =
    record {
      settable = settable;
      sizes = z;
      number = 1;
      rest = 0;
      paused = false;
      over = false;
      done = false;
    }

-- with the fresh service, whose sizes line 1 may choose
abbrev pub fresh_session : Session
fresh_session = start_of true default_sizes

-- with a service that has its sizes
abbrev pub resumed_session : Sizes → Session
resumed_session z = start_of false z

-- only the last turn is left, which tells what stands at the end
abbrev pub is_told : Session → Bool
is_told σ = σ.over && not σ.paused

-- whether the input is over, once a read that was wanted gave so many bytes
abbrev pub over_after : Session → ℕ → Bool
over_after σ got = σ.over || (not σ.paused && eqb got 0)

-- after a turn of a buffer, and after the last turn
abbrev pub after_turn : Session → Turn → Bool → Session
after_turn σ u over =
    record {
      settable = σ.settable;
      sizes = u.sizes;
      number = u.number;
      rest = u.rest;
      paused = u.paused;
      over = over;
      done = false;
    }

abbrev pub after_close : Session → Bool → Session
after_close σ done =
    record {
      settable = σ.settable;
      sizes = σ.sizes;
      number = σ.number;
      rest = 0;
      paused = σ.paused;
      over = σ.over;
      done = done;
    }

-- what stands between two turns, with a service or what holds one
abbrev pub standing_with : {S : Type 0} → Session → S → Standing S
standing_with σ x =
    record {
      state = x;
      number = σ.number;
      rest = σ.rest;
      paused = σ.paused;
      over = σ.over;
      done = σ.done;
    }

abbrev pub moved_with : {S : Type 0} → Advance → S → Moved S
moved_with r x = record { standing = standing_with r.session x; written = r.written }

-- with the service that the arrays hold
abbrev pub standing : Session → List ℕ → List Bool → Stores → Standing Service
standing σ t flags a = standing_with σ (service_held σ.sizes t flags a)

abbrev pub moved_held : Advance → List ℕ → List Bool → Stores → Moved Service
moved_held r t flags a = moved_with r (service_held r.session.sizes t flags a)

-- the session takes a turn
pub record Advances
    (σ : Session) (got : ℕ) (buffer₀ out₀ t₀ : List ℕ) (flags₀ : List Bool) (a₀ : Stores) (r : Advance)
    (buffer out t : List ℕ) (flags : List Bool) (a : Stores) : Type 0 where
  pub moves :
      Moves (playing σ.settable) (standing σ t₀ flags₀ a₀) got buffer₀ out₀ (moved_held r t flags a) buffer out
  pub same : r.session.settable ≡ σ.settable

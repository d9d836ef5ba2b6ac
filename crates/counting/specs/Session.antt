-- The counter's session: it stands between two turns as the player's does, with the totals beside the service.
use Rattle.std.specs.Prelude.{ℕ, ◌≡◌, Bool, List}
use Rattle.blocks.specs.declared.stores.Stores.{Stores}
use Rattle.telling.specs.Session.{Standing, Moved, Moves}
use Rattle.playing.specs.declared.session.Session.{Session}
use Rattle.playing.specs.declared.session.Advance.{Advance}
use Rattle.playing.specs.Session.{standing_with, moved_with}
use Rattle.counting.specs.Lines.{Counted, counting, counted_held}

-- what stands between two turns, with what the arrays hold
abbrev pub standing : Session → List ℕ → List Bool → Stores → List ℕ → Standing Counted
standing σ t flags a totals = standing_with σ (counted_held σ.sizes t flags a totals)

abbrev pub moved_held : Advance → List ℕ → List Bool → Stores → List ℕ → Moved Counted
moved_held r t flags a totals = moved_with r (counted_held r.session.sizes t flags a totals)

-- the session takes a turn
pub record Advances
    (σ : Session) (got : ℕ) (buffer₀ out₀ t₀ : List ℕ) (flags₀ : List Bool) (a₀ : Stores) (totals₀ : List ℕ)
    (r : Advance) (buffer out t : List ℕ) (flags : List Bool) (a : Stores) (totals : List ℕ) : Type 0 where
  pub moves :
      Moves (counting σ.settable) (standing σ t₀ flags₀ a₀ totals₀) got buffer₀ out₀ (moved_held r t flags a totals)
      buffer out
  pub same : r.session.settable ≡ σ.settable

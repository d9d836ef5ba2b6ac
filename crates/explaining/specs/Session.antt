-- The explainer's session, which is the player's. It begins with nothing noted. The service and what is noted are lent,
-- the rest of what stands between two turns is in the session.
use Rattle.std.specs.Prelude.{ℕ, ◌≡◌, Bool, List}
use Rattle.blocks.specs.declared.stores.Stores.{Stores}
use Rattle.ledger.specs.declared.annotated.Annotated.{Annotated}
use Rattle.ledger.specs.declared.ledger.Ledger.{Ledger}
use Rattle.telling.specs.Session.{Standing, Moved, Moves}
use Rattle.playing.specs.declared.session.Session.{Session}
use Rattle.playing.specs.declared.session.Advance.{Advance}
use Rattle.playing.specs.Session.{standing_with, moved_with}
use Rattle.explaining.specs.Lines.{explaining, state_held}

-- what stands between two turns, with the state that the arrays hold
abbrev pub standing : Session → List ℕ → List Bool → Stores → Ledger → List ℕ → Standing Annotated
standing σ t flags a l refusals = standing_with σ (state_held σ.sizes t flags a l refusals)

abbrev pub moved_held : Advance → List ℕ → List Bool → Stores → Ledger → List ℕ → Moved Annotated
moved_held r t flags a l refusals = moved_with r (state_held r.session.sizes t flags a l refusals)

-- the session takes a turn
pub record Advances
    (σ : Session) (got : ℕ) (buffer₀ out₀ t₀ : List ℕ) (flags₀ : List Bool) (a₀ : Stores) (l₀ : Ledger)
    (refusals₀ : List ℕ) (r : Advance) (buffer out t : List ℕ) (flags : List Bool) (a : Stores) (l : Ledger)
    (refusals : List ℕ) : Type 0 where
  pub moves :
      Moves (explaining σ.settable) (standing σ t₀ flags₀ a₀ l₀ refusals₀) got buffer₀ out₀
      (moved_held r t flags a l refusals) buffer out
  pub same : r.session.settable ≡ σ.settable

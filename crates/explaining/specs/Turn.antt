-- A turn of the explainer, on the service that lent arrays hold and what is noted beside it.
use Rattle.std.specs.Prelude.{ℕ, Bool, List}
use Rattle.sizes.specs.declared.sizes.Sizes.{Sizes}
use Rattle.blocks.specs.declared.stores.Stores.{Stores}
use Rattle.ledger.specs.declared.annotated.Annotated.{Annotated}
use Rattle.ledger.specs.declared.ledger.Ledger.{Ledger}
use Rattle.telling.specs.Turn.{Turned, Turns}
use Rattle.playing.specs.declared.turn.Turn.{Turn}
use Rattle.playing.specs.Turn.{turned_with}
use Rattle.explaining.specs.Lines.{explaining, state_held}

-- what a turn leaves, with the state that the arrays hold then
abbrev pub turned_held : Turn → List ℕ → List Bool → Stores → Ledger → List ℕ → Turned Annotated
turned_held u t flags a l refusals = turned_with u (state_held u.sizes t flags a l refusals)

pub record ExplainsTurn
    (fresh : Bool) (z : Sizes) (n : ℕ) (buffer₀ : List ℕ) (filled : ℕ) (out₀ t₀ : List ℕ) (flags₀ : List Bool)
    (a₀ : Stores) (l₀ : Ledger) (refusals₀ : List ℕ) (u : Turn) (buffer out t : List ℕ) (flags : List Bool) (a : Stores)
    (l : Ledger) (refusals : List ℕ) : Type 0 where
  pub turns :
      Turns (explaining fresh) (state_held z t₀ flags₀ a₀ l₀ refusals₀) n buffer₀ filled out₀
      (turned_held u t flags a l refusals) buffer out

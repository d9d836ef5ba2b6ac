-- A turn of the counter, on the service and the totals that lent arrays hold.
use Rattle.std.specs.Prelude.{ℕ, Bool, List}
use Rattle.sizes.specs.declared.sizes.Sizes.{Sizes}
use Rattle.blocks.specs.declared.stores.Stores.{Stores}
use Rattle.telling.specs.Turn.{Turned, Turns}
use Rattle.playing.specs.declared.turn.Turn.{Turn}
use Rattle.playing.specs.Turn.{turned_with}
use Rattle.counting.specs.Lines.{Counted, counting, counted_held}

-- what a turn leaves, with what the arrays hold then
abbrev pub turned_held : Turn → List ℕ → List Bool → Stores → List ℕ → Turned Counted
turned_held u t flags a totals = turned_with u (counted_held u.sizes t flags a totals)

pub record CountsTurn
    (settable : Bool) (z : Sizes) (n : ℕ) (buffer₀ : List ℕ) (filled : ℕ) (t₀ : List ℕ) (flags₀ : List Bool)
    (a₀ : Stores) (totals₀ : List ℕ) (u : Turn) (buffer t : List ℕ) (flags : List Bool) (a : Stores) (totals : List ℕ)
    : Type 0 where
  pub turns :
      (out : List ℕ)
      → Turns (counting settable) (counted_held z t₀ flags₀ a₀ totals₀) n buffer₀ filled out
      (turned_held u t flags a totals) buffer out

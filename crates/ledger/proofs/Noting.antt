-- What the loops of the ledger make of it: none yet, and one place more. Assumes nothing.
use Prim.Native.Nat.{ℕ, zero, ◌+◌, ◌%◌, ◌<◌}
use native.Mathlib.Nat.{mod-eq_of_lt}
use native.Mathlib.Numerals.{add-one}
use mathlib.Core.Path.{◌≡◌, refl, sym, ap, ◌∙◌}
use Rattle.sizes.specs.Sizes.{max_places}
use Rattle.ledger.specs.declared.ledger.Ledger.{Ledger}
use Rattle.ledger.specs.Ledger.{came_at, came_from, lost_at, lost_below}

module _ (i p : ℕ) (l : Ledger) where
  pub came_none : l ≡ came_from i p zero l
  unfolding came_from
  came_none = refl

  pub came_next :
      (k : ℕ) (m m' : Ledger)
      → p + k < max_places
      → m ≡ came_from i p k l
      → m' ≡ came_at i ((p + k) % max_places) m
      → m' ≡ came_from i p (k + 1) l
  unfolding came_from
  came_next k m m' below done turn =
      turn
      ∙ ap (λ q. came_at i q m) (mod-eq_of_lt below)
      ∙ ap (came_at i (p + k)) done
      ∙ ap (λ j. came_from i p j l) (sym (add-one k))

module _ (i : ℕ) (l : Ledger) where
  pub lost_none : l ≡ lost_below i zero l
  unfolding lost_below
  lost_none = refl

  pub lost_next :
      (k : ℕ) (m m' : Ledger)
      → k < max_places
      → m ≡ lost_below i k l
      → m' ≡ lost_at i (k % max_places) m
      → m' ≡ lost_below i (k + 1) l
  unfolding lost_below
  lost_next k m m' below done turn =
      turn
      ∙ ap (λ q. lost_at i q m) (mod-eq_of_lt below)
      ∙ ap (lost_at i k) done
      ∙ ap (λ j. lost_below i j l) (sym (add-one k))

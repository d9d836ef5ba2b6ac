-- Texts that the code finds different are different by the definition. Assumes nothing.
use Prim.Native.Nat.{ℕ}
use mathlib.Core.Path.{◌≡◌}
use mathlib.Core.Bool.{Bool, true, false}
use mathlib.Core.List.{List}
use Rattle.sizes.proofs.Choosing.{split, conflict}
use Rattle.stepfile.specs.Grammar.{same}
use Rattle.stepfile.proofs.AsWritten.{same_true}

pub differs : {r : Bool} (a b : List ℕ) → (a ≡ b → r ≡ true) → r ≡ false → same a b ≡ false
differs a b h left = split (same a b) (λ e. conflict (h (same_true a b e)) left) (λ e. e)

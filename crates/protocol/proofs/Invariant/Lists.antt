-- Lists of one value for each client: what stands at a place after one was set. Assumes nothing.
use Prim.Native.Nat.{ℕ, ◌<◌}
use mathlib.Core.Path.{◌≡◌}
use mathlib.Core.Bool.{cond}
use mathlib.Core.List.{List}
use lib.ListN.{length, get_or, set}
use lib.Seq.{get_or-set_same, get_or-set_other}
use borrow.Author.Tests.{eqb-false}
use Rattle.protocol.proofs.View.{at}
use Rattle.protocol.proofs.Invariant.Flags.{change}

module _ {ℓ} {A : Type ℓ} where
  pub get_d_at :
      (l : List A) (i : ℕ) (a d : A)
      → i < length l
      → (s : ℕ)
      → get_or (set l i a) s d ≡ at i a (λ j. get_or l j d) s
  get_d_at l i a d below =
      change (λ s b. get_or (set l i a) s d ≡ cond b a (get_or l s d)) i (get_or-set_same l i a d below)
      (λ s e. get_or-set_other l i s a d (eqb-false s i e))

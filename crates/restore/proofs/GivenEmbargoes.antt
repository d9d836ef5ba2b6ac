-- The embargoes that an image gives back are those of the server that was written. Assumes nothing.
use Prim.Native.Nat.{ℕ, ◌<◌}
use mathlib.Core.Path.{◌≡◌, sym, ap, ◌∙◌}
use mathlib.Core.Bool.{Bool, true, false}
use mathlib.Core.List.{List}
use native.Mathlib.Nat.{mod-eq_of_lt}
use native.Mathlib.Omega.{arith}
use lib.ListN.{get_or, set, replicate}
use lib.Seq.{set-get_or}
use Rattle.sizes.specs.declared.sizes.Sizes.{Sizes}
use Rattle.sizes.specs.Sizes.{max_clients, Permitted}
use Rattle.decision.specs.Lists.{stored}
use Rattle.decision.proofs.Beyond.{get_d_alike}
use Rattle.decision.proofs.Storing.{get_d_stored_other}
use Rattle.table.specs.TableStep.{is_embargoed}
use Rattle.image.specs.Image.{embargo_bytes, embargo_entry, embargo_entries}
use Rattle.restore.specs.Decoded.{placed, put_embargo}
use Rattle.restore.specs.Reading.{with_embargoes}
use Rattle.restore.proofs.Folding.{placed_if, placed_below}

-- client i, put where there is no embargo
put_one :
    (i : ℕ) (t : Bool) (l : List Bool)
    → i < max_clients
    → get_or l i false ≡ false
    → placed put_embargo (embargo_entry i t) l ≡ set l i t
put_one i true l inside none =
    placed_if put_embargo true (embargo_bytes i) l ∙ ap (λ j. set l j true) (mod-eq_of_lt inside)
put_one i false l inside none =
    placed_if put_embargo false (embargo_bytes i) l ∙ sym (set-get_or l i false) ∙ ap (set l i) none

pub given_embargoes :
    {z : Sizes} (most : Permitted z) (embargoed : List Bool)
    → placed put_embargo (embargo_entries z embargoed) (replicate max_clients false)
    ≡ with_embargoes z.clients embargoed (replicate max_clients false)
unfolding stored
given_embargoes {z} most embargoed =
    let none : List Bool = replicate max_clients false in
    let value : ℕ → Bool = λ i. is_embargoed embargoed i in
    placed_below put_embargo z.clients (λ i. embargo_entry i (value i)) (λ k. stored k (λ i. i) value none)
    (λ k hk.
    let few = most.clients in
    put_one k (value k) (stored k (λ i. i) value none) (omega arith)
    (get_d_stored_other k (λ i. i) value none false k (λ j hj. omega arith) ∙ get_d_alike max_clients false k))

-- What `open_batch` promises follows from its outcome. Assumes nothing.
use Prim.Native.Nat.{ℕ, ◌≤◌}
use mathlib.Core.Path.{◌≡◌, sym, ap, subst, ◌∙◌}
use native.Mathlib.Omega.{arith}
use mathlib.Core.List.{List}
use lib.ListN.{length, length-map}
use borrow.Author.Tests.{ltb-false}
use Rattle.service.specs.declared.service.Service.{Service}
use Rattle.service.proofs.Tests.{split}
use Rattle.batch.specs.declared.batch.BatchOutcome.{BatchOutcome}
use Rattle.batch.specs.Batch.{Opening, max_openings, list_too_long, batch_of}
use Rattle.batch.specs.Demand3.{GoesOn}
use Rattle.batch.proofs.Trying.{too_long, not_too_long}
use Rattle.batch.proofs.Demand3.{goes_on}

-- no more openings are tried than there are places for replies
few_tried : (s : Service) (i : ℕ) (l : List Opening) → (batch_of s i l).count ≤ max_openings
few_tried s i l =
    split (list_too_long l).0
    (λ e. rw (← too_long s i l e) (omega arith))
    (λ e.
    let number : (batch_of s i l).count ≡ length l =
    ap (λ (o : BatchOutcome). o.count) (sym (not_too_long s i l e)) ∙ length-map l _ in
    omega (arith, number, ltb-false max_openings (length l) e))

pub promised : (s : Service) (i : ℕ) (l : List Opening) (o : BatchOutcome) → o ≡ batch_of s i l
    → (o ≡ batch_of s i l) × (GoesOn s o.service × (o.count ≤ max_openings))
promised s i l o e = (
  e,
  (
    subst (λ (p : BatchOutcome). GoesOn s p.service) (sym e) (goes_on s i l),
    subst (λ (p : BatchOutcome). p.count ≤ max_openings) (sym e) (few_tried s i l),
  ),
)

-- Space does not run out later: after every list of steps from the fresh service of any sizes, the free, used and
-- reserved places make the store, a block that is not used is zero, and only a write that takes a place is ever refused
-- for want of one. Assumes nothing.
use Prim.Native.Nat.{ℕ, ◌+◌, ◌≤◌}
use native.Mathlib.Omega.{arith}
use mathlib.Core.Path.{◌≡◌, refl, sym, ap, ◌∙◌, subst⁻¹}
use mathlib.Core.Bool.{Bool, false, ◌&&◌, ◌||◌}
use mathlib.Core.List.{List, [], ◌∷◌}
use lib.Dec.{leb, ltb}
use lib.ListN.{get_or, replicate, length-replicate, get_or-replicate, get_or-eq_default}
use borrow.Author.Tests.{leb-true, ltb-true, ltb-false}
use Rattle.sizes.specs.declared.sizes.Sizes.{Sizes}
use Rattle.sizes.specs.Sizes.{in_force, at_most, max_places, max_cells, place, cell}
use Rattle.sizes.proofs.InForce.{in_force_permitted}
use Rattle.protocol.specs.declared.step.Step.{Step}
use Rattle.service.specs.declared.service.Service.{Service}
use Rattle.service.specs.declared.outcome.Outcome.{Outcome}
use Rattle.service.specs.Contents.{sizes_of, free_of}
use Rattle.service.specs.Demand3.{refused, after}
use Rattle.service.specs.Fresh.{fresh}
use Rattle.service.specs.NothingBehind.{after_steps}
use Rattle.service.specs.Space.{dirty_among, is_counted, counted_on, counted_in, is_within, is_known, reserved_in}
use Rattle.service.specs.Space.{used_blocks, spaced}
use Rattle.service.specs.Store.{Accounted, SpaceKept}
use Rattle.service.proofs.Tests.{split, and_false}
use Rattle.service.proofs.Accepted.{done_of, accepts, when_accepted, refused_changes_nothing}
use Rattle.service.proofs.Counting.{any_false, sum_zero, count_false}
use Rattle.service.proofs.Committed.{used_and_reserved}
use Rattle.service.proofs.StoreKept.{Kept, running_makes}
use Rattle.service.proofs.StoreDone.{accepted_kept}
use Rattle.service.proofs.Crowding.{crowded}

-- ---- every list of steps

pub after_kept : (s : Service) (x : Step) → Kept s → Kept (after s x)
after_kept s x h =
    split (refused s x)
    (λ e. subst⁻¹ Kept (refused_changes_nothing s x e) h)
    (λ e.
    let z : Sizes = sizes_of s in
    let (p, done) = when_accepted s x refl e in
    let is : after s x ≡ spaced s x false (done_of z s x).service =
    ap (λ (o : Outcome). o.service) done ∙ ap (λ t. spaced s x t (done_of z s x).service) (accepts z s x) in
    subst⁻¹ Kept is (accepted_kept s x h p))

pub steps_kept : (s : Service) (steps : List Step) → Kept s → Kept (after_steps s steps)
steps_kept s [] h = h
steps_kept s (x ∷ steps) h = steps_kept (after s x) steps (after_kept s x h)

-- ---- the fresh service

-- a list that has the same everywhere, in the list and past its end
all_same {ℓ} : {A : Type ℓ} (n q : ℕ) (a : A) → get_or (replicate n a) q a ≡ a
all_same n q a =
    split (ltb q n)
    (λ e. get_or-replicate n q a a (ltb-true q n e))
    (λ e. get_or-eq_default (replicate n a) a (subst⁻¹ (λ k. k ≤ q) (length-replicate n a) (ltb-false q n e)))

-- a number that is the store or more reads as the store
reads_store : (store n : ℕ) → store ≤ n → at_most store n ≡ store
reads_store store n more =
    split (leb n store)
    (λ e. let fits : n ≤ store = leb-true n store e in rw e (omega arith))
    (λ e. rw e)

-- nothing is counted
none_taken :
    (z : Sizes) (who : ℕ → Bool) → counted_in z who (replicate max_places false) (replicate max_cells false) ≡ 0
none_taken z who =
    sum_zero z.files (counted_on z who (replicate max_places false) (replicate max_cells false))
    (λ f hf.
    count_false z.blocks (is_counted z.clients who (replicate max_places false) (replicate max_cells false) f)
    (λ b hb.
    ap (λ t. t || dirty_among z.clients who (replicate max_cells false) f b) (all_same max_places (place f b) false)
    ∙ any_false z.clients (λ i. who i && get_or (replicate max_cells false) (cell i f b) false)
    (λ i hi. ap (λ t. who i && t) (all_same max_cells (cell i f b) false) ∙ and_false (who i))))

pub fresh_kept : (z : Sizes) → Kept (fresh z)
unfolding fresh
fresh_kept z =
    let within : counted_in (in_force z) (is_within (fresh z)) (replicate max_places false) (replicate max_cells false) ≡ 0 =
    none_taken (in_force z) (is_within (fresh z)) in
    let known : counted_in (in_force z) (is_known (fresh z)) (replicate max_places false) (replicate max_cells false) ≡ 0 =
    none_taken (in_force z) (is_known (fresh z)) in
    let free : at_most (in_force z).store max_places ≡ (in_force z).store =
    reads_store (in_force z).store max_places (in_force_permitted z).store in
    record {
      flags = length-replicate max_places false;
      words = length-replicate {A = ℕ} max_places 0;
      fits = omega (arith, within);
      makes = omega (arith, known, free);
      unused = λ f b hf hb off. all_same {A = ℕ} max_places (place f b) 0;
    }

-- ---- what the invariant says

pub kept_accounted : (s : Service) → Kept s → Accounted s
kept_accounted s h =
    record {
      running = λ runs. sum (is_within s) (running_makes s h runs);
      known = sum (is_known s) h.makes;
      unused = h.unused;
    }
  where
    sum :
        (who : ℕ → Bool)
        → free_of s + counted_in (sizes_of s) who s.server.used s.dirty ≡ (sizes_of s).store
        → free_of s + (used_blocks s + reserved_in (sizes_of s) who s.server.used s.dirty) ≡ (sizes_of s).store
    sum who makes =
        ap (λ k. free_of s + k) (sym (used_and_reserved (sizes_of s) who s.server.used s.dirty)) ∙ makes

pub space_kept : SpaceKept
space_kept z =
    record {
      accounted = λ steps. kept_accounted (after_steps (fresh z) steps) (steps_kept (fresh z) steps (fresh_kept z));
      crowded = λ steps. crowded (after_steps (fresh z) steps);
    }

-- What an embargo is worth: the server has nothing of a client under embargo, what it does changes nothing but its own
-- copies, and once it is told it is under embargo no more. Assumes nothing.
use Prim.Native.Nat.{ℕ, ◌<◌}
use mathlib.Core.Path.{◌≡◌, refl, sym, ap, ◌∙◌, subst⁻¹}
use mathlib.Core.Bool.{true, false, ◌&&◌, ◌||◌}
use mathlib.Core.List.{List, [], ◌∷◌}
use mathlib.Core.Logic.{inl, inr}
use lib.Dec.{eqb}
use lib.ListN.{get_or, set}
use lib.Seq.{get_or-set_other}
use borrow.Author.Tests.{eqb-true, eqb-false, eq-eqb, leb-false, not-true}
use Rattle.sizes.specs.declared.sizes.Sizes.{Sizes}
use Rattle.sizes.specs.Sizes.{cell}
use Rattle.sizes.proofs.InForce.{in_force_permitted, client_fits, block_fits}
use Rattle.protocol.specs.declared.step.Step.{Step}
use Rattle.protocol.specs.Step.{OnBlock}
use Rattle.protocol.specs.declared.step.Step.TheVariants.{Read, Write, Restart, Lift}
use Rattle.blocks.specs.Stores.{written_stores}
use Rattle.service.specs.declared.service.Service.{Service}
use Rattle.service.specs.declared.outcome.Outcome.{Outcome}
use Rattle.service.specs.Aside.{Forgotten, Alone, Unseen, Told, Embargoes}
use Rattle.service.specs.Contents.{sizes_of, table_in, embargoed_at, client_at, used_at, stores_of, with_stores, with_space}
use Rattle.service.specs.Space.{counted_on, is_known, taken_in, recounted, spaced}
use Rattle.service.specs.Demand3.{refused, after, Memory, blank, remembered, Recovery, none, recovery_after, promises_nothing}
use Rattle.service.specs.Embargo.{put_aside, told, dropped_below}
use Rattle.service.specs.Fresh.{fresh}
use Rattle.service.specs.NothingBehind.{after_steps}
use Rattle.service.proofs.Tests.{split, conflict, both, when, and_false}
use Rattle.service.proofs.Contents.{cell_same}
use Rattle.service.proofs.Counting.{any_cong, count_cong}
use Rattle.service.proofs.Accepted.{Passed, tests_of, when_accepted, done_but_store}
use Rattle.service.proofs.Unknown.{set_or}
use Rattle.service.proofs.WhileAside.{aside_read, aside_caches}
use Rattle.service.proofs.Reached.{Reached, reached_fresh, reached-after}

-- ---- it is forgotten

forgotten_after :
    (z : Sizes) (s : Service) (m : Memory) (r : Recovery)
    → Reached z s m r
    → (steps : List Step)
    → Forgotten (after_steps s steps)
forgotten_after z s m r h [] = h.forgotten
forgotten_after z s m r h (x ∷ steps) =
    forgotten_after z (after s x) (remembered s m x) (recovery_after s r x (refused s x)) (reached-after z s m r h x) steps

-- ---- it is alone

-- where as many places are taken as before, as many are free
unless_changed : (store free t t' : ℕ) → t' ≡ t → recounted store free t t' ≡ free
unless_changed store free t t' same = when _ _ (eq-eqb t t' (sym same))

alone_same : (s s' : Service) (i : ℕ) → s' ≡ s → Alone s s' i
alone_same s s' i same =
    subst⁻¹ (λ s'. Alone s s' i) same
    (record { server = refl; sides = refl; copies = λ j f b _ _ _. (refl, refl, refl) })

-- a write into client i's copy of block b of file f
module _ (s : Service) (i f b v : ℕ) (p : Passed (tests_of (sizes_of s) s (Write i f b v))) where
  abbrev z : Sizes
  z = sizes_of s

  apart :
      (j g c : ℕ)
      → j < z.clients
      → c < z.blocks
      → eqb j i ≡ false
      → cell j g c ≡ cell i f b
      → ⊥
  apart j g c hj hc other =
      let most = in_force_permitted s.sizes in
      eqb-false (cell j g c) (cell i f b)
      (cell_same f g (eqb g f && eqb c b) (client_fits most (leb-false z.clients i p.0)) (client_fits most hj)
      (block_fits most (leb-false z.blocks b p.1.1.0)) (block_fits most hc) refl
      ∙ ap (λ t. (eqb g f && eqb c b) && t) other
      ∙ and_false (eqb g f && eqb c b))

  -- the server does not count the block
  known_other : embargoed_at s i ≡ true → (j : ℕ) → is_known s j ≡ true → eqb j i ≡ false
  known_other out j known =
      split (eqb j i)
      (λ e. conflict (ap (λ k. embargoed_at s k) (eqb-true j i e) ∙ out) (not-true (embargoed_at s j) (both _ _ known).0))
      (λ e. e)

  flag_stays :
      embargoed_at s i ≡ true
      → (j c : ℕ)
      → j < z.clients
      → c < z.blocks
      → (is_known s j && get_or (set s.dirty (cell i f b) true) (cell j f c) false)
      ≡ (is_known s j && get_or s.dirty (cell j f c) false)
  flag_stays out j c hj hc =
      split (is_known s j)
      (λ known.
      ap (λ t. is_known s j && t)
      (get_or-set_other s.dirty (cell i f b) (cell j f c) true false (apart j f c hj hc (known_other out j known))))
      (λ unknown. rw unknown)

  uncounted :
      embargoed_at s i ≡ true
      → counted_on z (is_known s) s.server.used (set s.dirty (cell i f b) true) f
      ≡ counted_on z (is_known s) s.server.used s.dirty f
  uncounted out =
      count_cong z.blocks _ _
      (λ c hc.
      ap (λ t. used_at s f c || t) (any_cong z.clients _ _ (λ j hj. flag_stays out j c hj hc)))

  abbrev written : Service
  written = with_stores s (written_stores true i f b v (stores_of s))

  free_stays :
      embargoed_at s i ≡ true
      → recounted z.store s.server.free (taken_in s (OnBlock i f)) (taken_in written (OnBlock i f)) ≡ s.server.free
  free_stays out =
      unless_changed z.store s.server.free (taken_in s (OnBlock i f)) (taken_in written (OnBlock i f)) (uncounted out)

  alone_written : Alone s (with_stores s (written_stores true i f b v (stores_of s))) i
  alone_written =
      record {
        server = refl;
        sides = refl;
        copies = λ j g c hj hc other. (
          get_or-set_other s.copies (cell i f b) (cell j g c) v 0 (apart j g c hj hc other),
          get_or-set_other s.held (cell i f b) (cell j g c) true false (apart j g c hj hc other),
          get_or-set_other s.dirty (cell i f b) (cell j g c) true false (apart j g c hj hc other),
        );
      }

  -- nor does it use one
  unspent :
      embargoed_at s i ≡ true
      → (client_at s i f).opens.caching ≡ true
      → spaced s (Write i f b v) false written ≡ written
  unfolding spaced
  unspent out caches =
      rw (caches, free_stays out)

-- a read leaves the store
unread : (s : Service) (i f b : ℕ) → spaced s (Read i f b) false s ≡ s
unfolding spaced
unread s i f b =
    let taken : ℕ = taken_in s (OnBlock i f) in
    ap (with_space s s.server.used) (unless_changed (sizes_of s).store s.server.free taken taken refl)

pub unseen : (s : Service) (x : Step) → Unseen s x
unseen s x i f b v (inl is) out =
    subst⁻¹ (λ x. refused s x ≡ false → Alone s (after s x) i × ((m : Memory) → remembered s m x ≡ m)) is
    (λ a.
    let (p, done) = when_accepted s (Read i f b) refl a in (
      alone_same s (after s (Read i f b)) i
          (ap (λ (o : Outcome). o.service) done
          ∙ ap (spaced s (Read i f b) false) (aside_read (sizes_of s) s i f b out p)
          ∙ unread s i f b),
      λ m. refl,
    ))
unseen s x i f b v (inr is) out =
    subst⁻¹ (λ x. refused s x ≡ false → Alone s (after s x) i × ((m : Memory) → remembered s m x ≡ m)) is
    (λ a.
    let (p, done) = when_accepted s (Write i f b v) refl a in
    let caches : (client_at s i f).opens.caching ≡ true = aside_caches (sizes_of s) s i f b out v p in
    let now : after s (Write i f b v) ≡ with_stores s (written_stores true i f b v (stores_of s)) =
    ap (λ (o : Outcome). o.service) done
    ∙ ap (λ t. spaced s (Write i f b v) false (with_stores s (written_stores t i f b v (stores_of s)))) caches
    ∙ unspent s i f b v p out caches in
    (subst⁻¹ (λ s'. Alone s s' i) now (alone_written s i f b v p), λ m. unlisted m a))
  where
    unlisted : (m : Memory) → refused s (Write i f b v) ≡ false → remembered s m (Write i f b v) ≡ m
    unlisted m a = rw (a, out)

-- ---- it is told

pub is_told : (s : Service) (x : Step) → Told s x
is_told s x i (inl is) =
    subst⁻¹ (λ x. refused s x ≡ false → promises_nothing (after s x) i ≡ false) is
    (λ a.
    let (p, done) = when_accepted s (Lift i) refl a in
    done_but_store (λ t. embargoed_at t i ≡ false) (λ t used free e. e) (sizes_of s) s (Lift i) done (lifted (sizes_of s) s i))
  where
    lifted : (z : Sizes) (s : Service) (i : ℕ) → embargoed_at (told z s i) i ≡ false
    lifted z s i = set_or (table_in (dropped_below z i z.files s)).embargoed i false
is_told s x i (inr is) =
    subst⁻¹ (λ x. refused s x ≡ false → promises_nothing (after s x) i ≡ false) is
    (λ a.
    let (p, done) = when_accepted s (Restart i) refl a in
    let z = sizes_of s in
    done_but_store (λ t. embargoed_at t i ≡ false) (λ t used free e. e) z s (Restart i) done
    (set_or (table_in (dropped_below z i z.files (put_aside z s i))).embargoed i false))

pub embargoes : Embargoes
embargoes z =
    record {
      forgotten = forgotten_after z (fresh z) blank none (reached_fresh z);
      unseen = λ steps. unseen (after_steps (fresh z) steps);
      told = λ steps. is_told (after_steps (fresh z) steps);
    }

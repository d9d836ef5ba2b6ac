-- The server forgets a client that is under embargo, on all files: their views change as the protocol says of a restart.
-- Assumes nothing.
use Prim.Native.Nat.{ℕ, zero, suc, ◌<◌, ◌≤◌}
use mathlib.Core.Path.{◌≡◌, refl, sym, ap, ◌∙◌, subst, subst⁻¹, fun_ext}
use mathlib.Core.Bool.{true, false, cond, not, ◌&&◌, ◌||◌, or-true}
use native.Mathlib.Omega.{arith}
use lib.Dec.{eqb, ltb}
use lib.ListN.{length, get_or, set, length-set}
use lib.Seq.{get_or-set_same, get_or-set_other}
use borrow.Author.Tests.{eqb-true, eqb-false, le-ltb, lt-ltb, ltb-true}
use Rattle.sizes.specs.declared.sizes.Sizes.{Sizes}
use Rattle.sizes.specs.Sizes.{Permitted, nobody}
use Rattle.sizes.proofs.InForce.{client_fits}
use Rattle.protocol.specs.declared.entry.Entry.{Entry}
use Rattle.protocol.specs.Client.{no_client}
use Rattle.protocol.specs.Entry.{waits, forgotten_entry}
use Rattle.protocol.proofs.View.{View, at, answer_view, forgotten_view, restarted_view}
use Rattle.service.specs.declared.service.Service.{Service}
use Rattle.service.specs.Aside.{Forgotten}
use Rattle.service.specs.Contents.{table_in, entry_at, embargoed_at}
use Rattle.service.specs.Embargo.{marked, forgotten_below, put_aside}
use Rattle.service.proofs.Tests.{split, conflict, when, unless}
use Rattle.service.proofs.Views.{Sized, In, is_in, view_of, heard_of, same_view}
use Rattle.service.proofs.FileSteps.{forget-step}
use Rattle.service.proofs.Invariant.{waiter_in}

module _ {z : Sizes} (most : Permitted z) {i : ℕ} (hi : i < z.clients) where
  -- ---- all files

  -- every open that waits, and is not of client i, is of a client that is in
  abbrev Waiters : Service → Type 0
  Waiters s =
      (f : ℕ)
      → f < z.files
      → (entry_at s f).waiter < z.clients
      → eqb (entry_at s f).waiter i ≡ false
      → embargoed_at s (entry_at s f).waiter ≡ false

  -- the files below k are done, the others as they were
  pub record Forgetting (k : ℕ) (s s' : Service) : Type 0 where
    pub sized : Sized z s'
    pub recovering : (table_in s').recovering ≡ (table_in s).recovering
    pub reports : (table_in s').reported ≡ (table_in s).reported
    pub embargoes : (table_in s').embargoed ≡ (table_in s).embargoed
    pub done : (f b : ℕ) → f < k → b < z.blocks → view_of z s' f b ≡ restarted_view z.clients (view_of z s f b) i
    pub left : (f b : ℕ) → k ≤ f → b < z.blocks → view_of z s' f b ≡ view_of z s f b

  -- an open that still waits once client i is forgotten waited before, and is another's
  still_waits_lem :
      (e : Entry)
      → waits z.clients (forgotten_entry z.clients e i) ≡ true
      → (e.waiter < z.clients) × (eqb e.waiter i ≡ false) × ((forgotten_entry z.clients e i).waiter ≡ e.waiter)
  still_waits_lem e is =
      let few = most.clients in
      split (eqb e.waiter i)
      (λ own.
      conflict is
      (ap (λ x. ltb x z.clients) (when nobody e.waiter own) ∙ le-ltb nobody z.clients (omega (arith, few))))
      (λ other.
      let same = unless nobody e.waiter other in
      (ltb-true e.waiter z.clients (ap (λ x. ltb x z.clients) (sym same) ∙ is), other, same))

  forgetting :
      (k : ℕ) (s : Service)
      → k ≤ z.files
      → Sized z s
      → embargoed_at s i ≡ true
      → Waiters s
      → Forgetting k s (forgotten_below z i k s)
  unfolding forgotten_below
  forgetting zero s fits n out waiters =
      record {
        sized = n;
        recovering = refl;
        reports = refl;
        embargoes = refl;
        done = λ f b below _. absurd (omega arith);
        left = λ f b _ _. refl;
      }
  forgetting (suc k) s fits n out waiters =
      let h = forgetting k s (omega arith) n out waiters in
      let s' : Service = forgotten_below z i k s in
      let aside : (j : ℕ) → embargoed_at s' j ≡ embargoed_at s j = λ j. ap (λ l. get_or l j false) h.embargoes in
      let same : (entry_at s' k).waiter ≡ (entry_at s k).waiter =
      ap (λ (v : View). v.entry.waiter) (h.left k 0 (omega arith) most.some_block) in
      let p = forget-step most {s = s'} i {f = k} h.sized hi (omega arith)
      (λ is.
      let (below, other, now) = still_waits_lem (entry_at s' k) is in
      subst⁻¹ (In z s') (now ∙ same)
      (record {
        below = subst (λ x. x < z.clients) same below;
        unbarred =
            aside (entry_at s k).waiter
            ∙ waiters k (omega arith) (subst (λ x. x < z.clients) same below) (subst (λ x. eqb x i ≡ false) same other);
      }))
      (aside i ∙ out) in
      record {
        sized = p.sized;
        recovering = p.recovering ∙ h.recovering;
        reports = p.reports ∙ h.reports;
        embargoes = p.embargoes ∙ h.embargoes;
        done = λ f b below hb. split (eqb f k)
            (λ e. let same = eqb-true f k e in
            subst⁻¹ (λ f. view_of z (forgotten_below z i (suc k) s) f b ≡ restarted_view z.clients (view_of z s f b) i) same
            (p.here b hb ∙ ap (λ v. restarted_view z.clients v i) (h.left k b (omega arith) hb)))
            (λ e. let away = eqb-false f k e in
            p.elsewhere f b hb e ∙ h.done f b (omega arith) hb);
        left = λ f b above hb. split (eqb f k)
            (λ e. let same = eqb-true f k e in absurd (omega arith))
            (λ e. p.elsewhere f b hb e ∙ h.left f b (omega arith) hb);
      }

  -- ---- a client is put under embargo

  module _ {s : Service} (n : Sized z s) where
    room : i < length (table_in s).embargoed
    room = rw n.embargoes (client_fits most hi)

    pub marked-self : embargoed_at (marked s i) i ≡ true
    marked-self = get_or-set_same (table_in s).embargoed i true false room

    pub marked_other : (j : ℕ) → eqb j i ≡ false → embargoed_at (marked s i) j ≡ embargoed_at s j
    marked_other j e = get_or-set_other (table_in s).embargoed i j true false (eqb-false j i e)

    sized-marked : Sized z (marked s i)
    sized-marked =
        record {
          sizes = n.sizes;
          entries = n.entries;
          words = n.words;
          reports = n.reports;
          embargoes = length-set (table_in s).embargoed i true ∙ n.embargoes;
          files = n.files;
          sides = n.sides;
          copies = n.copies;
          held = n.held;
          dirty = n.dirty;
        }

    -- what is shown of another client is as it was
    at-marked {ℓ} :
        {A : Type ℓ} (none : A) (g : ℕ → A) (j : ℕ)
        → at i none (λ j. cond (is_in z (marked s i) j) (g j) none) j ≡ at i none (λ j. cond (is_in z s j) (g j) none) j
    at-marked none g j =
        split (eqb j i)
        (λ e. rw e)
        (λ e.
        ap (λ t. cond (eqb j i) none (cond (ltb j z.clients && not t) (g j) none)) (marked_other j e))

    marked-view :
        (f b : ℕ)
        → restarted_view z.clients (view_of z (marked s i) f b) i ≡ restarted_view z.clients (view_of z s f b) i
    marked-view f b =
        ap (λ v. answer_view z.clients v i)
        (same_view {v = forgotten_view z.clients (view_of z (marked s i) f b) i}
        {w = forgotten_view z.clients (view_of z s f b) i}
        refl refl (at-marked no_client _) (at-marked 0 _) (at-marked false _) (at-marked false _))

    marked-waiters : Forgotten s → Waiters (marked s i)
    marked-waiters h f hf hw other =
        marked_other (entry_at s f).waiter other ∙ (waiter_in n h f hf hw).unbarred

    -- all that the embargo changes
    pub record Aside (s' : Service) : Type 0 where
      pub sized : Sized z s'
      pub recovering : (table_in s').recovering ≡ (table_in s).recovering
      pub reports : (table_in s').reported ≡ (table_in s).reported
      pub embargoes : (table_in s').embargoed ≡ set (table_in s).embargoed i true
      pub heard : heard_of z s' ≡ at i true (heard_of z s)
      pub views :
          (f b : ℕ)
          → f < z.files
          → b < z.blocks
          → view_of z s' f b ≡ restarted_view z.clients (view_of z s f b) i

    pub puts-aside : Forgotten s → Aside (put_aside z s i)
    puts-aside h =
        let p = forgetting z.files (marked s i) (omega arith) sized-marked marked-self (marked-waiters h) in
        record {
          sized = p.sized;
          recovering = p.recovering;
          reports = p.reports;
          embargoes = p.embargoes;
          heard =
              (λ k j. ltb j z.clients && (get_or (p.reports k) j false || get_or (p.embargoes k) j false))
              ∙ fun_ext heard-marked;
          views = λ f b hf hb. p.done f b hf hb ∙ marked-view f b;
        }
      where
        heard-marked : (j : ℕ) → heard_of z (marked s i) j ≡ at i true (heard_of z s) j
        heard-marked j =
            split (eqb j i)
            (λ e. rw (e, eqb-true j i e, lt-ltb i z.clients hi, marked-self) (or-true (get_or (table_in s).reported i false)))
            (λ e. rw (e, marked_other j e))

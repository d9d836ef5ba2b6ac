-- The store where a client restarts, is put under embargo or is told of it: the flags of dirty blocks only go, and a
-- client that is no longer under embargo has none left. Assumes nothing.
use Prim.Native.Nat.{ℕ, zero, suc, ◌<◌}
use native.Mathlib.Nat.{not-suc-le-zero}
use native.Mathlib.Omega.{arith}
use mathlib.Core.Path.{◌≡◌, refl, sym, ap, ◌∙◌}
use mathlib.Core.Bool.{Bool, true, false, not}
use mathlib.Core.List.{List}
use lib.Dec.{eqb}
use lib.ListN.{get_or, set}
use lib.Seq.{get_or-set_other}
use borrow.Author.Tests.{eqb-true, eqb-false, not-true}
use Rattle.sizes.specs.declared.sizes.Sizes.{Sizes}
use Rattle.sizes.specs.Sizes.{cell}
use Rattle.decision.specs.Callback.{asks_nothing}
use Rattle.protocol.specs.declared.entry.Entry.{Entry}
use Rattle.protocol.specs.declared.shared.SharedFile.{SharedFile}
use Rattle.protocol.specs.Client.{side_of, keeps_blocks}
use Rattle.protocol.specs.Entry.{call_to, calls_out, answered_entry, forgotten_entry, grant_of}
use Rattle.blocks.specs.declared.stores.Stores.{Stores}
use Rattle.file.specs.FileStep.{FileAfter, after_forgetting, after_dropping}
use Rattle.service.specs.declared.service.Service.{Service}
use Rattle.service.specs.Contents.{table_in, embargoed_at, file_at, stores_of}
use Rattle.service.specs.Embargo.{forgotten_below, dropped_below, marked, put_aside, told, restarted}
use Rattle.service.specs.Space.{is_within}
use Rattle.service.proofs.Tests.{split, either, conflict}
use Rattle.service.proofs.Clearing.{fewer_stored, stored_clear, clear_set}
use Rattle.service.proofs.Committed.{used_counted, dirty_counted, counted_cases, Shrinks}
use Rattle.service.proofs.StoreSteps.{Loses, loses_none, loses_unless}

-- ---- what a service loses

pub record Sheds (s s' : Service) : Type 0 where
  pub sizes : s'.sizes ≡ s.sizes
  pub embargoed : (table_in s').embargoed ≡ (table_in s).embargoed
  pub stores : Loses (stores_of s) (stores_of s')

-- a file of which the server forgets a client
forgetting_loses :
    (z : Sizes) (f : ℕ) (x : SharedFile) (a : Stores) (i : ℕ) → Loses a (after_forgetting z f x a i).stores
unfolding after_forgetting
forgetting_loses z f x a i =
    let e : Entry = forgotten_entry z.clients x.entry i in
    let kind : ℕ = call_to z.clients e i in
    either (λ (o : FileAfter). Loses a o.stores) (asks_nothing kind)
    (λ none. loses_none a)
    (λ some.
    let e' : Entry = answered_entry e i kind in
    either (λ (o : FileAfter). Loses a o.stores) (eqb (calls_out z.clients e') 0)
    (λ last.
    loses_unless z.blocks
    (keeps_blocks e'.mode (grant_of z.clients e' e'.waiter e'.mode) (side_of x.sides e'.waiter))
    e'.waiter f a)
    (λ more. loses_none a))

module _ (z : Sizes) (i : ℕ) where
  pub forgotten_sheds : (k : ℕ) (s : Service) → Sheds s (forgotten_below z i k s)
  unfolding forgotten_below
  forgotten_sheds zero s = record { sizes = refl; embargoed = refl; stores = loses_none (stores_of s) }
  forgotten_sheds (suc k) s =
      let t : Service = forgotten_below z i k s in
      let before : Sheds s t = forgotten_sheds k s in
      let now : Loses (stores_of t) (after_forgetting z k (file_at t k) (stores_of t) i).stores =
      forgetting_loses z k (file_at t k) (stores_of t) i in
      record {
        sizes = before.sizes;
        embargoed = before.embargoed;
        stores =
            record {
              blocks = now.blocks ∙ before.stores.blocks;
              fewer = λ q on. before.stores.fewer q (now.fewer q on);
            };
      }

  pub dropped_sheds : (k : ℕ) (s : Service) → Sheds s (dropped_below z i k s)
  unfolding dropped_below after_dropping
  dropped_sheds zero s = record { sizes = refl; embargoed = refl; stores = loses_none (stores_of s) }
  dropped_sheds (suc k) s =
      let t : Service = dropped_below z i k s in
      let before : Sheds s t = dropped_sheds k s in
      record {
        sizes = before.sizes;
        embargoed = before.embargoed;
        stores =
            record {
              blocks = before.stores.blocks;
              fewer = λ q on. before.stores.fewer q (fewer_stored z.blocks (cell i k) t.dirty q on);
            };
      }

  -- a client that has dropped the files below k has no dirty block of them
  pub dropped_clear :
      (k : ℕ) (s : Service) (g c : ℕ)
      → g < k
      → c < z.blocks
      → get_or (dropped_below z i k s).dirty (cell i g c) false ≡ false
  unfolding dropped_below after_dropping
  dropped_clear zero s g c below hc = absurd (not-suc-le-zero below)
  dropped_clear (suc k) s g c below hc =
      let t : Service = dropped_below z i k s in
      split (eqb g k)
      (λ e. rw (eqb-true g k e) (stored_clear z.blocks (cell i k) t.dirty c hc))
      (λ e.
      let other : g ≡ k → ⊥ = eqb-false g k e in
      split (get_or (dropped_below z i (suc k) s).dirty (cell i g c) false)
      (λ on.
      conflict (fewer_stored z.blocks (cell i k) t.dirty (cell i g c) on)
      (dropped_clear k s g c (omega arith) hc))
      (λ off. off))

-- ---- the blocks that are counted

abbrev Counts : Sizes → Service → Service → List Bool → Type 0
Counts z s s' used = Shrinks z (is_within s) used s.dirty (is_within s') used s'.dirty

module _ (z : Sizes) (s : Service) (i : ℕ) (used : List Bool) where
  pub aside_shrinks : Counts z s (put_aside z s i) used
  aside_shrinks f b hf hb e =
      let now : Service = put_aside z s i in
      let sheds : Sheds (marked s i) now = forgotten_sheds z i z.files (marked s i) in
      counted_cases z.clients (is_within now) used now.dirty f b e
      (used_counted z.clients (is_within s) used s.dirty f b)
      (λ j hj w d.
      let off : get_or (set (table_in s).embargoed i true) j false ≡ false =
      ap (λ (l : List Bool). get_or l j false) (sym sheds.embargoed) ∙ not-true (embargoed_at now j) w in
      dirty_counted z.clients (is_within s) used s.dirty f b j hj
      (ap not (clear_set (table_in s).embargoed i j off)) (sheds.stores.fewer (cell j f b) d))

  pub told_shrinks : Counts z s (told z s i) used
  told_shrinks f b hf hb e =
      let t : Service = dropped_below z i z.files s in
      let sheds : Sheds s t = dropped_sheds z i z.files s in
      counted_cases z.clients (is_within (told z s i)) used t.dirty f b e
      (used_counted z.clients (is_within s) used s.dirty f b)
      (λ j hj w d.
      split (eqb j i)
      (λ same. conflict (rw (eqb-true j i same) at d) (dropped_clear z i z.files s f b hf hb))
      (λ other.
      let stays : embargoed_at (told z s i) j ≡ embargoed_at s j =
      get_or-set_other (table_in t).embargoed i j false false (eqb-false j i other)
      ∙ ap (λ (l : List Bool). get_or l j false) sheds.embargoed in
      dirty_counted z.clients (is_within s) used s.dirty f b j hj (ap not (sym stays) ∙ w)
      (sheds.stores.fewer (cell j f b) d)))

pub restart_shrinks : (z : Sizes) (s : Service) (i : ℕ) (used : List Bool) → Counts z s (restarted z s i) used
restart_shrinks z s i used f b hf hb e =
    aside_shrinks z s i used f b hf hb (told_shrinks z (put_aside z s i) i used f b hf hb e)

-- The view of one file and one block of the service, as the clients without embargo have them, and the lengths of the
-- service's lists. It leads to the views after each step. z are the sizes in force. Assumes nothing.
use Prim.Native.Nat.{ℕ, ◌<◌}
use mathlib.Core.Path.{◌≡◌, sym, ap, ◌∙◌, subst}
use mathlib.Core.Bool.{Bool, true, false, cond, not, ◌&&◌, ◌||◌}
use lib.Dec.{eqb, ltb}
use mathlib.Core.List.{List}
use lib.ListN.{length}
use borrow.Author.Tests.{eqb-true, lt-ltb, ltb-true, not-true}
use Rattle.sizes.specs.declared.sizes.Sizes.{Sizes}
use Rattle.sizes.specs.Sizes.{max_clients, max_files, max_places, max_cells}
use Rattle.protocol.specs.Client.{no_client}
use Rattle.protocol.specs.Table.{seen}
use Rattle.protocol.proofs.View.{View, at, value_in}
use Rattle.blocks.specs.Stores.{value_read}
use Rattle.service.specs.declared.service.Service.{Service}
use Rattle.service.specs.Contents.{sizes_of, table_in, entry_at, block_at, reported_at, embargoed_at, sides_at, client_at, copy_at, with_space}
use Rattle.service.specs.Contents.{held_at, dirty_at, stores_of}
use Rattle.service.proofs.Tests.{split, conflict, unless, both, and_false}

-- z are the sizes in force, and every list of the service has the length of its array
pub record Sized (z : Sizes) (s : Service) : Type 0 where
  pub sizes : sizes_of s ≡ z
  pub entries : length (table_in s).files ≡ max_files
  pub words : length s.server.blocks ≡ max_places
  pub reports : length (table_in s).reported ≡ max_clients
  pub embargoes : length (table_in s).embargoed ≡ max_clients
  pub files : length s.clients ≡ max_files
  pub sides : (f : ℕ) → f < max_files → length (sides_at s f).of ≡ max_clients
  pub copies : length s.copies ≡ max_cells
  pub held : length s.held ≡ max_cells
  pub dirty : length s.dirty ≡ max_cells

-- the store does not matter to it
pub sized_stored : {z : Sizes} (s : Service) (used : List Bool) (free : ℕ) → Sized z s → Sized z (with_space s used free)
sized_stored s used free n =
    record {
      sizes = n.sizes;
      entries = n.entries;
      words = n.words;
      reports = n.reports;
      embargoes = n.embargoes;
      files = n.files;
      sides = n.sides;
      copies = n.copies;
      held = n.held;
      dirty = n.dirty;
    }

-- ---- what the clients have that are in: those in force without embargo

abbrev pub is_in : Sizes → Service → ℕ → Bool
is_in z s i = ltb i z.clients && not (embargoed_at s i)

pub record In (z : Sizes) (s : Service) (i : ℕ) : Type 0 where
  pub below : i < z.clients
  pub unbarred : embargoed_at s i ≡ false

pub is_in_lem : (z : Sizes) (s : Service) (i : ℕ) → In z s i → is_in z s i ≡ true
is_in_lem z s i h = rw (lt-ltb i z.clients h.below, h.unbarred)

pub in_is : (z : Sizes) (s : Service) (i : ℕ) → is_in z s i ≡ true → In z s i
in_is z s i e =
    let (below, unbarred) = both (ltb i z.clients) (not (embargoed_at s i)) e in
    record { below = ltb-true i z.clients below; unbarred = not-true (embargoed_at s i) unbarred }

pub in_force_lem : (z : Sizes) (s : Service) (i : ℕ) → is_in z s i ≡ true → i < z.clients
in_force_lem z s i e = (in_is z s i e).below

-- and of one that is under embargo
pub is_out : (z : Sizes) (s : Service) (i : ℕ) → embargoed_at s i ≡ true → is_in z s i ≡ false
is_out z s i out = ap (λ t. ltb i z.clients && not t) out ∙ and_false (ltb i z.clients)

-- what g gives for a client that is in, and d for any other number: such a number could reach into another file's
-- places, and of a client under embargo nothing is claimed
abbrev pub within {ℓ} : {A : Type ℓ} → (ℕ → Bool) → A → (ℕ → A) → ℕ → A
within shows d g j = cond (shows j) (g j) d

module _ {ℓ} {A : Type ℓ} (shows : ℕ → Bool) (d : A) where
  pub inside : (g : ℕ → A) (i : ℕ) → shows i ≡ true → g i ≡ within shows d g i
  inside g i e = sym (ap (λ t. cond t (g i) d) e)

  pub outside : (g : ℕ → A) (i : ℕ) → shows i ≡ false → within shows d g i ≡ d
  outside g i e = ap (λ t. cond t (g i) d) e

  -- nobody has anything
  pub within_none : (j : ℕ) (has : A) → has ≡ d → cond (shows j) has d ≡ d
  within_none j has nothing = split (shows j) (λ e. rw e nothing) (λ e. rw e)

  -- client i alone changes, if t holds: what client j had and has
  pub within_at :
      (i j : ℕ) (had has a : A) (t : Bool)
      → shows i ≡ true
      → (shows j ≡ true → has ≡ cond (t && eqb j i) a had)
      → cond (shows j) has d ≡ cond (t && eqb j i) a (cond (shows j) had d)
  within_at i j had has a t here changed =
      split (shows j)
      (λ e. rw e (changed e))
      (λ e.
      let other : eqb j i ≡ false =
      split (eqb j i) (λ q. conflict here (subst (λ k. shows k ≡ false) (eqb-true j i q) e)) (λ q. q) in
      rw (e, other, and_false t))

  -- client i alone changes, and is not in
  pub within_out :
      (i j : ℕ) (had has a : A) (t : Bool)
      → shows i ≡ false
      → (shows j ≡ true → has ≡ cond (t && eqb j i) a had)
      → cond (shows j) has d ≡ cond (shows j) had d
  within_out i j had has a t out changed =
      split (shows j)
      (λ e.
      let other : eqb j i ≡ false =
      split (eqb j i) (λ q. conflict (subst (λ k. shows k ≡ true) (eqb-true j i q) e) out) (λ q. q) in
      rw e (changed e ∙ unless a had (ap (λ x. t && x) other ∙ and_false t)))
      (λ e. rw e)

-- file f and its block b
abbrev pub view_of : Sizes → Service → ℕ → ℕ → View
view_of z s f b =
    record {
      entry = seen z.clients (entry_at s f);
      block = block_at s f b;
      client = within (is_in z s) no_client (λ j. client_at s j f);
      copy = within (is_in z s) 0 (λ j. copy_at s j f b);
      held = within (is_in z s) false (λ j. held_at s j f b);
      dirty = within (is_in z s) false (λ j. dirty_at s j f b);
    }

-- the clients that the server has heard, or need not hear
abbrev pub heard_of : Sizes → Service → ℕ → Bool
heard_of z s i = ltb i z.clients && (reported_at s i || embargoed_at s i)

-- what client i has is what its view shows
module _ (z : Sizes) (s : Service) {i : ℕ} (f b : ℕ) (here : In z s i) where
  pub client_is : client_at s i f ≡ (view_of z s f b).client i
  client_is = inside (is_in z s) no_client (λ j. client_at s j f) i (is_in_lem z s i here)

  pub copy_is : copy_at s i f b ≡ (view_of z s f b).copy i
  copy_is = inside (is_in z s) 0 (λ j. copy_at s j f b) i (is_in_lem z s i here)

  pub held_is : held_at s i f b ≡ (view_of z s f b).held i
  held_is = inside (is_in z s) false (λ j. held_at s j f b) i (is_in_lem z s i here)

  pub dirty_is : dirty_at s i f b ≡ (view_of z s f b).dirty i
  dirty_is = inside (is_in z s) false (λ j. dirty_at s j f b) i (is_in_lem z s i here)

  pub value_is : value_read (client_at s i f).opens.caching i f b (stores_of s) ≡ value_in (view_of z s f b) i
  value_is = λ k. cond ((client_is k).opens.caching && held_is k) (copy_is k) (block_at s f b)

pub same_view :
    {v w : View}
    → v.entry ≡ w.entry
    → v.block ≡ w.block
    → ((j : ℕ) → v.client j ≡ w.client j)
    → ((j : ℕ) → v.copy j ≡ w.copy j)
    → ((j : ℕ) → v.held j ≡ w.held j)
    → ((j : ℕ) → v.dirty j ≡ w.dirty j)
    → v ≡ w
same_view e x c y h d =
    λ k.
    record {
      entry = e k;
      block = x k;
      client = λ j. c j k;
      copy = λ j. y j k;
      held = λ j. h j k;
      dirty = λ j. d j k;
    }

-- what is stored at i is what is there
pub at_own {ℓ} : {A : Type ℓ} (h : ℕ → A) (i j : ℕ) → at i (h i) h j ≡ h j
at_own h i j = split (eqb j i) (λ e. rw (e, eqb-true j i e)) (λ e. rw e)

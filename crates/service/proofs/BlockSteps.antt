-- A read, a write and a block that is sent change one block: its view as the protocol says, and no other. It leads to
-- the invariant of the whole service. Assumes nothing.
use Prim.Native.Nat.{ℕ, ◌<◌}
use mathlib.Core.Path.{◌≡◌, refl, ap, ◌∙◌}
use mathlib.Core.Bool.{Bool, true, false, cond, not, ◌&&◌}
use lib.Dec.{eqb}
use lib.ListN.{length, set}
use Rattle.sizes.specs.declared.sizes.Sizes.{Sizes}
use Rattle.sizes.specs.Sizes.{Permitted, place, cell}
use Rattle.sizes.proofs.InForce.{client_fits, file_fits, block_fits}
use Rattle.protocol.proofs.View.{View, at, read_view, written_view, sent_view}
use Rattle.blocks.specs.Stores.{read_stores, written_stores, flushed_stores}
use Rattle.service.specs.declared.service.Service.{Service}
use Rattle.service.specs.Contents.{table_in, embargoed_at, block_at, client_at, copy_at, held_at, dirty_at, stores_of}
use Rattle.service.specs.Contents.{with_stores}
use Rattle.service.proofs.Tests.{eqb_same}
use Rattle.service.proofs.Lists.{get_d_put, length_put}
use Rattle.service.proofs.Contents.{place_same, cell_same, place_in, cell_in}
use Rattle.service.proofs.Views.{Sized, is_in, In, is_in_lem, is_out, in_force_lem, within_at, within_out, view_of, heard_of, client_is, copy_is, held_is, dirty_is}
use Rattle.service.proofs.Views.{same_view, at_own}

-- From s to s' the view of block b of file f becomes w, and every other stays.
pub record BlockStep (z : Sizes) (s s' : Service) (f b : ℕ) (w : View) : Type 0 where
  pub sized : Sized z s'
  pub recovering : (table_in s').recovering ≡ (table_in s).recovering
  pub heard : heard_of z s' ≡ heard_of z s
  pub embargoes : (table_in s').embargoed ≡ (table_in s).embargoed
  pub here : view_of z s' f b ≡ w
  pub elsewhere :
      (g c : ℕ) → c < z.blocks → (eqb g f && eqb c b) ≡ false → view_of z s' g c ≡ view_of z s g c

-- What a step stores of one block, each only if a test holds: the server's block; a client's copy, which is then held;
-- and its dirty flag.
record Move : Type 0 where
  put : Bool
  block : ℕ
  hold : Bool
  copy : ℕ
  flag : Bool
  dirty : Bool

abbrev moved : Service → ℕ → ℕ → ℕ → Move → Service
moved s i f b c =
    with_stores s
    (record {
      blocks = cond c.put (set s.server.blocks (place f b) c.block) s.server.blocks;
      copies = cond c.hold (set s.copies (cell i f b) c.copy) s.copies;
      held = cond c.hold (set s.held (cell i f b) true) s.held;
      dirty = cond c.flag (set s.dirty (cell i f b) c.dirty) s.dirty;
    })

-- where v was the view that is looked at and u the one of the block that is stored; t says whether they are one block
abbrev moved_view : Bool → ℕ → Move → View → View → View
moved_view t i c u v =
    record {
      entry = v.entry;
      block = cond t (cond c.put c.block u.block) v.block;
      client = v.client;
      copy = λ j. cond (t && eqb j i) (cond c.hold c.copy (u.copy i)) (v.copy j);
      held = λ j. cond (t && eqb j i) (cond c.hold true (u.held i)) (v.held j);
      dirty = λ j. cond (t && eqb j i) (cond c.flag c.dirty (u.dirty i)) (v.dirty j);
    }

abbrev in_copy : ℕ → Move
in_copy v = record { put = false; block = 0; hold = true; copy = v; flag = true; dirty = true }

abbrev at_server : ℕ → Move
at_server v = record { put = true; block = v; hold = false; copy = 0; flag = false; dirty = false }

as_view :
    {z : Sizes} {s s' : Service} {f b : ℕ} {w w' : View} → BlockStep z s s' f b w → w ≡ w' → BlockStep z s s' f b w'
as_view p q =
    record {
      sized = p.sized;
      recovering = p.recovering;
      heard = p.heard;
      embargoes = p.embargoes;
      here = p.here ∙ q;
      elsewhere = p.elsewhere;
    }

sized_moved :
    {z : Sizes}
    → Permitted z
    → {s : Service} {i f b : ℕ}
    → Sized z s
    → i < z.clients
    → f < z.files
    → b < z.blocks
    → (c : Move)
    → Sized z (moved s i f b c)
sized_moved {z} most {s} {i} {f} {b} n hi hf hb c =
    record {
      sizes = n.sizes;
      entries = n.entries;
      words = length_put s.server.blocks (place f b) c.block c.put ∙ n.words;
      reports = n.reports;
      embargoes = n.embargoes;
      files = n.files;
      sides = n.sides;
      copies = length_put s.copies (cell i f b) c.copy c.hold ∙ n.copies;
      held = length_put s.held (cell i f b) true c.hold ∙ n.held;
      dirty = length_put s.dirty (cell i f b) c.dirty c.flag ∙ n.dirty;
    }

-- The sizes in force are permitted, client i is in, f is a file and b a block of it.
module _
    {z : Sizes}
    (most : Permitted z)
    {s : Service}
    {i f b : ℕ}
    (n : Sized z s)
    (here : In z s i)
    (hf : f < z.files)
    (hb : b < z.blocks) where
  hi : i < z.clients
  hi = here.below

  view_moved :
      (g d : ℕ) (c : Move) (t : Bool)
      → d < z.blocks
      → (eqb g f && eqb d b) ≡ t
      → view_of z (moved s i f b c) g d ≡ moved_view t i c (view_of z s f b) (view_of z s g d)
  view_moved g d c t hd q =
      let m : ℕ → Bool = is_in z s in
      let p : ℕ = cell i f b in
      let hi' = client_fits most hi in
      let hf' = file_fits most hf in
      let hb' = block_fits most hb in
      let same : (j : ℕ) → is_in z s j ≡ true → eqb (cell j g d) p ≡ (t && eqb j i) =
      λ j hj. cell_same f g t hi' (client_fits most (in_force_lem z s j hj)) hb' (block_fits most hd) q in
      let in_blocks : place f b < length s.server.blocks = place_in s.server.blocks n.words hf' hb' in
      let in_copies : p < length s.copies = cell_in s.copies n.copies hi' hf' hb' in
      let in_held : p < length s.held = cell_in s.held n.held hi' hf' hb' in
      let in_dirty : p < length s.dirty = cell_in s.dirty n.dirty hi' hf' hb' in
      same_view
      refl
      (get_d_put s.server.blocks (place f b) (place g d) c.block 0 t c.put in_blocks
      (place_same f g hb' (block_fits most hd) ∙ q))
      (λ j. refl)
      (λ j. within_at m 0 i j _ _ _ t (is_in_lem z s i here)
      (λ hj. get_d_put s.copies p (cell j g d) c.copy 0 (t && eqb j i) c.hold in_copies (same j hj)
      ∙ ap (λ x. cond (t && eqb j i) (cond c.hold c.copy x) (copy_at s j g d)) (copy_is z s f b here)))
      (λ j. within_at m false i j _ _ _ t (is_in_lem z s i here)
      (λ hj. get_d_put s.held p (cell j g d) true false (t && eqb j i) c.hold in_held (same j hj)
      ∙ ap (λ x. cond (t && eqb j i) (cond c.hold true x) (held_at s j g d)) (held_is z s f b here)))
      (λ j. within_at m false i j _ _ _ t (is_in_lem z s i here)
      (λ hj. get_d_put s.dirty p (cell j g d) c.dirty false (t && eqb j i) c.flag in_dirty (same j hj)
      ∙ ap (λ x. cond (t && eqb j i) (cond c.flag c.dirty x) (dirty_at s j g d)) (dirty_is z s f b here)))

  moved_step : (c : Move) → BlockStep z s (moved s i f b c) f b (moved_view true i c (view_of z s f b) (view_of z s f b))
  moved_step c =
      record {
        sized = sized_moved most n hi hf hb c;
        recovering = refl;
        heard = refl;
        embargoes = refl;
        here = view_moved f b c true hb (rw (eqb_same f) (eqb_same b));
        elsewhere = λ g d hd q. view_moved g d c false hd q;
      }

  pub read_step :
      BlockStep z s (with_stores s (read_stores (client_at s i f).opens.caching i f b (stores_of s))) f b
      (read_view (view_of z s f b) i)
  read_step =
      let v : View = view_of z s f b in
      let fetches : Bool → Bool → Move =
      λ caching held.
      record {
        put = false;
        block = 0;
        hold = caching && not held;
        copy = block_at s f b;
        flag = false;
        dirty = false;
      } in
      as_view (moved_step (fetches (client_at s i f).opens.caching (held_at s i f b)))
      ((λ k. moved_view true i (fetches (client_is z s f b here k).opens.caching (held_is z s f b here k)) v v)
      ∙ same_view refl refl (λ j. refl) (λ j. refl) (λ j. refl) (at_own v.dirty i))

  -- with permission the copy is written, without the server's block
  abbrev written_by : Bool → ℕ → View
  written_by caches x =
      let v = view_of z s f b in
      record {
        entry = v.entry;
        block = cond caches v.block x;
        client = v.client;
        copy = at i (cond caches x (v.copy i)) v.copy;
        held = at i (cond caches true (v.held i)) v.held;
        dirty = at i (cond caches true (v.dirty i)) v.dirty;
      }

  written_step :
      (caches : Bool) (x : ℕ)
      → BlockStep z s (with_stores s (written_stores caches i f b x (stores_of s))) f b (written_by caches x)
  written_step true x = moved_step (in_copy x)
  written_step false x = moved_step (at_server x)

  pub write_step :
      (x : ℕ)
      → BlockStep z s (with_stores s (written_stores (client_at s i f).opens.caching i f b x (stores_of s))) f b
      (written_view (view_of z s f b) i x)
  write_step x =
      as_view (written_step (client_at s i f).opens.caching x)
      (λ k. written_by (client_is z s f b here k).opens.caching x)

  -- the first part of a flush
  pub send_step : BlockStep z s (with_stores s (flushed_stores i f b (stores_of s))) f b (sent_view (view_of z s f b) i)
  send_step =
      let v : View = view_of z s f b in
      let clean : ℕ → Move =
      λ x. record { put = true; block = x; hold = false; copy = 0; flag = true; dirty = false } in
      as_view (moved_step (clean (copy_at s i f b)))
      ((λ k. moved_view true i (clean (copy_is z s f b here k)) v v)
      ∙ same_view refl refl (λ j. refl) (at_own v.copy i) (at_own v.held i) (λ j. refl))

-- A client under embargo writes its copy: no view shows it.
pub hidden_write :
    {z : Sizes}
    → Permitted z
    → {s : Service} (i : ℕ) {f b : ℕ}
    → Sized z s
    → i < z.clients
    → f < z.files
    → b < z.blocks
    → embargoed_at s i ≡ true
    → (x : ℕ)
    → BlockStep z s (with_stores s (written_stores true i f b x (stores_of s))) f b (view_of z s f b)
hidden_write {z} most {s} i {f} {b} n hi hf hb out x =
    record {
      sized = sized_moved most n hi hf hb (in_copy x);
      recovering = refl;
      heard = refl;
      embargoes = refl;
      here = hidden f b true hb (rw (eqb_same f) (eqb_same b));
      elsewhere = λ g d hd q. hidden g d false hd q;
    }
  where
    hidden :
        (g d : ℕ) (t : Bool)
        → d < z.blocks
        → (eqb g f && eqb d b) ≡ t
        → view_of z (moved s i f b (in_copy x)) g d ≡ view_of z s g d
    hidden g d t hd q =
        let shows : ℕ → Bool = is_in z s in
        let gone = is_out z s i out in
        let p : ℕ = cell i f b in
        let hi' = client_fits most hi in
        let hf' = file_fits most hf in
        let hb' = block_fits most hb in
        let same : (j : ℕ) → is_in z s j ≡ true → eqb (cell j g d) p ≡ (t && eqb j i) =
        λ j hj. cell_same f g t hi' (client_fits most (in_force_lem z s j hj)) hb' (block_fits most hd) q in
        same_view refl refl (λ j. refl)
        (λ j. within_out shows 0 i j _ _ x t gone
        (λ hj. get_d_put s.copies p (cell j g d) x 0 (t && eqb j i) true (cell_in s.copies n.copies hi' hf' hb') (same j hj)))
        (λ j. within_out shows false i j _ _ true t gone
        (λ hj. get_d_put s.held p (cell j g d) true false (t && eqb j i) true (cell_in s.held n.held hi' hf' hb') (same j hj)))
        (λ j. within_out shows false i j _ _ true t gone
        (λ hj. get_d_put s.dirty p (cell j g d) true false (t && eqb j i) true (cell_in s.dirty n.dirty hi' hf' hb') (same j hj)))

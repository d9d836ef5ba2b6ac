-- One turn of a client on a file: what a step stores of the file, and what the views show then. It leads to the steps
-- that change one file. Assumes nothing.
use Prim.Native.Nat.{ℕ, ◌<◌}
use mathlib.Core.Path.{◌≡◌, refl, ap, ◌∙◌}
use mathlib.Core.Bool.{Bool, true, false, cond, ◌&&◌}
use lib.Dec.{eqb}
use mathlib.Core.List.{List}
use lib.ListN.{length, get_or, length-set}
use lib.Seq.{set-get_or}
use Rattle.sizes.specs.declared.sizes.Sizes.{Sizes}
use Rattle.sizes.specs.Sizes.{Permitted, first_place, first_cell}
use Rattle.sizes.proofs.InForce.{client_fits, file_fits}
use Rattle.protocol.specs.declared.client.ClientFile.{ClientFile}
use Rattle.protocol.specs.declared.entry.Entry.{Entry}
use Rattle.protocol.specs.Client.{no_client, with_side, kept, sent}
use Rattle.protocol.specs.Table.{seen}
use Rattle.protocol.proofs.View.{View}
use Rattle.table.specs.TableStep.{no_entry}
use Rattle.service.specs.declared.service.Service.{Service}
use Rattle.service.specs.Contents.{table_in, entry_at, embargoed_at, block_at, sides_at, copy_at, held_at, dirty_at, with_file}
use Rattle.service.proofs.Tests.{eqb_same, cond_ap}
use Rattle.service.proofs.Lists.{get_d_set}
use Rattle.service.proofs.Contents.{get_d_kept, length_kept, get_d_sent, length_sent}
use Rattle.service.proofs.Views.{Sized, is_in, In, is_in_lem, is_out, in_force_lem, within_at, within_out, view_of, copy_is, held_is, dirty_is, same_view}
use Rattle.service.proofs.OneFile.{side_put, length_side}

-- From s to s' the view of file f becomes w, at each block, and every other stays.
pub record FileStep (z : Sizes) (s s' : Service) (f : ℕ) (w : ℕ → View) : Type 0 where
  pub sized : Sized z s'
  pub recovering : (table_in s').recovering ≡ (table_in s).recovering
  pub reports : (table_in s').reported ≡ (table_in s).reported
  pub embargoes : (table_in s').embargoed ≡ (table_in s).embargoed
  pub here : (b : ℕ) → b < z.blocks → view_of z s' f b ≡ w b
  pub elsewhere : (g b : ℕ) → b < z.blocks → eqb g f ≡ false → view_of z s' g b ≡ view_of z s g b

-- ---- one turn of a client on a file

-- What a step stores of one file: its entry and a client's side of it. The client's copy is kept or dropped, and its
-- dirty flags are; its dirty blocks are sent or not.
pub record Turn : Type 0 where
  pub entry : Entry
  pub own : ClientFile
  pub keep : Bool
  pub keep_dirty : Bool
  pub send : Bool

abbrev pub turned : Sizes → Service → ℕ → ℕ → Turn → Service
turned z s i f c =
    with_file s f
    (record { entry = c.entry; sides = with_side (sides_at s f) i c.own })
    (record {
      blocks = sent z.blocks c.send s.dirty s.copies (first_cell i f) (first_place f) s.server.blocks;
      copies = kept z.blocks c.keep 0 (first_cell i f) s.copies;
      held = kept z.blocks c.keep false (first_cell i f) s.held;
      dirty = kept z.blocks c.keep_dirty false (first_cell i f) s.dirty;
    })

-- where v was the view that is looked at and u the one of the file that is stored, which then shows the entry e; t says
-- whether they are one file
abbrev pub turned_view : Bool → ℕ → Entry → Turn → View → View → View
turned_view t i e c u v =
    record {
      entry = cond t e v.entry;
      block = cond t (cond (c.send && u.dirty i) (u.copy i) u.block) v.block;
      client = λ j. cond (t && eqb j i) c.own (v.client j);
      copy = λ j. cond (t && eqb j i) (cond c.keep (u.copy i) 0) (v.copy j);
      held = λ j. cond (t && eqb j i) (cond c.keep (u.held i) false) (v.held j);
      dirty = λ j. cond (t && eqb j i) (cond c.keep_dirty (u.dirty i) false) (v.dirty j);
    }

sized_turned :
    {z : Sizes}
    → Permitted z
    → {s : Service} {i f : ℕ}
    → Sized z s
    → i < z.clients
    → f < z.files
    → (c : Turn)
    → Sized z (turned z s i f c)
sized_turned {z} most {s} {i} {f} n hi hf c =
    let room : f < length s.clients = rw n.files (file_fits most hf) in
    let from = first_cell i f in
    record {
      sizes = n.sizes;
      entries = length-set (table_in s).files f c.entry ∙ n.entries;
      words =
          length_sent z.blocks s.dirty s.copies s.server.blocks c.send from (first_place f) ∙ n.words;
      reports = n.reports;
      embargoes = n.embargoes;
      files = length-set s.clients f _ ∙ n.files;
      sides = λ g hg. length_side s.clients f g i c.own room ∙ n.sides g hg;
      copies = length_kept s.copies z.blocks c.keep 0 from ∙ n.copies;
      held = length_kept s.held z.blocks c.keep false from ∙ n.held;
      dirty = length_kept s.dirty z.blocks c.keep_dirty false from ∙ n.dirty;
    }

-- The sizes in force are permitted, client i is in, and f is a file.
module _
    {z : Sizes}
    (most : Permitted z)
    {s : Service}
    {i f : ℕ}
    (n : Sized z s)
    (here : In z s i)
    (hf : f < z.files) where
  hi : i < z.clients
  hi = here.below

  own_fits : i < length (sides_at s f).of
  own_fits = rw (n.sides f (file_fits most hf)) (client_fits most hi)

  view_turned :
      (g b : ℕ) (c : Turn) (t : Bool)
      → b < z.blocks
      → eqb g f ≡ t
      → view_of z (turned z s i f c) g b
      ≡ turned_view t i (seen z.clients c.entry) c (view_of z s f b) (view_of z s g b)
  view_turned g b c t hb q =
      let fits = most.blocks in
      let m = z.clients in
      let k = z.blocks in
      let hi' = client_fits most hi in
      let hf' = file_fits most hf in
      let copy = copy_is z s f b here in
      let dirty = dirty_is z s f b here in
      let held = held_is z s f b here in
      let shows : ℕ → Bool = is_in z s in
      same_view
      (ap (seen m) (get_d_set (table_in s).files f g c.entry no_entry t (rw n.entries (file_fits most hf)) q)
      ∙ cond_ap (seen m) t c.entry (entry_at s g))
      (get_d_sent k s.dirty s.copies s.server.blocks c.send i g t n.words fits hf' hb q
      ∙ (λ x. cond t (cond (c.send && dirty x) (copy x) (block_at s f b)) (block_at s g b)))
      (λ j. within_at shows no_client i j _ _ c.own t (is_in_lem z s i here)
      (λ hj. side_put s.clients f g i c.own (rw n.files (file_fits most hf)) j t own_fits q))
      (λ j. within_at shows 0 i j _ _ _ t (is_in_lem z s i here)
      (λ hj. get_d_kept s.copies k c.keep 0 g t n.copies fits hi' (client_fits most (in_force_lem z s j hj)) hf' hb q
      ∙ ap (λ x. cond (t && eqb j i) (cond c.keep x 0) (copy_at s j g b)) copy))
      (λ j. within_at shows false i j _ _ _ t (is_in_lem z s i here)
      (λ hj. get_d_kept s.held k c.keep false g t n.held fits hi' (client_fits most (in_force_lem z s j hj)) hf' hb q
      ∙ ap (λ x. cond (t && eqb j i) (cond c.keep x false) (held_at s j g b)) held))
      (λ j. within_at shows false i j _ _ _ t (is_in_lem z s i here)
      (λ hj. get_d_kept s.dirty k c.keep_dirty false g t n.dirty fits hi' (client_fits most (in_force_lem z s j hj)) hf' hb q
      ∙ ap (λ x. cond (t && eqb j i) (cond c.keep_dirty x false) (dirty_at s j g b)) dirty))

  pub turned_step :
      (c : Turn)
      → FileStep z s (turned z s i f c) f
      (λ b. turned_view true i (seen z.clients c.entry) c (view_of z s f b) (view_of z s f b))
  turned_step c =
      record {
        sized = sized_turned most n hi hf c;
        recovering = refl;
        reports = refl;
        embargoes = refl;
        here = λ b hb. view_turned f b c true hb (eqb_same f);
        elsewhere = λ g b hb q. view_turned g b c false hb q;
      }

-- A client under embargo changes what it has of file f, and keeps or drops its copy: no view shows it.
module _
    {z : Sizes}
    (most : Permitted z)
    {s : Service}
    (i : ℕ)
    {f : ℕ}
    (n : Sized z s)
    (hi : i < z.clients)
    (hf : f < z.files)
    (out : embargoed_at s i ≡ true)
    (own : ClientFile)
    (keep keep_dirty : Bool) where
  abbrev c : Turn
  c = record { entry = entry_at s f; own = own; keep = keep; keep_dirty = keep_dirty; send = false }

  view_hidden :
      (g b : ℕ) (t : Bool) → b < z.blocks → eqb g f ≡ t → view_of z (turned z s i f c) g b ≡ view_of z s g b
  view_hidden g b t hb q =
      let fits = most.blocks in
      let k = z.blocks in
      let hi' = client_fits most hi in
      let hf' = file_fits most hf in
      let shows : ℕ → Bool = is_in z s in
      let gone = is_out z s i out in
      let fits' : i < length (sides_at s f).of = rw (n.sides f hf') hi' in
      same_view
      (ap (λ (l : List Entry). seen z.clients (get_or l g no_entry)) (set-get_or (table_in s).files f no_entry))
      refl
      (λ j. within_out shows no_client i j _ _ own t gone
      (λ hj. side_put s.clients f g i own (rw n.files hf') j t fits' q))
      (λ j. within_out shows 0 i j _ _ _ t gone
      (λ hj. get_d_kept s.copies k keep 0 g t n.copies fits hi' (client_fits most (in_force_lem z s j hj)) hf' hb q))
      (λ j. within_out shows false i j _ _ _ t gone
      (λ hj. get_d_kept s.held k keep false g t n.held fits hi' (client_fits most (in_force_lem z s j hj)) hf' hb q))
      (λ j. within_out shows false i j _ _ _ t gone
      (λ hj. get_d_kept s.dirty k keep_dirty false g t n.dirty fits hi' (client_fits most (in_force_lem z s j hj)) hf' hb q))

  pub hidden_step : FileStep z s (turned z s i f c) f (λ b. view_of z s f b)
  hidden_step =
      record {
        sized = sized_turned most n hi hf c;
        recovering = refl;
        reports = refl;
        embargoes = refl;
        here = λ b hb. view_hidden f b true hb (eqb_same f);
        elsewhere = λ g b hb q. view_hidden g b false hb q;
      }

-- the view, said in another way
pub as_view :
    {z : Sizes} {s s' : Service} {f : ℕ} {w w' : ℕ → View}
    → FileStep z s s' f w
    → ((b : ℕ) → b < z.blocks → w b ≡ w' b)
    → FileStep z s s' f w'
as_view p q =
    record {
      sized = p.sized;
      recovering = p.recovering;
      reports = p.reports;
      embargoes = p.embargoes;
      here = λ b hb. p.here b hb ∙ q b hb;
      elsewhere = p.elsewhere;
    }

-- two steps on one file
pub then_step :
    {z : Sizes} {s s' s'' : Service} {f : ℕ} {w w' : ℕ → View}
    → FileStep z s s' f w
    → FileStep z s' s'' f w'
    → FileStep z s s'' f w'
then_step p q =
    record {
      sized = q.sized;
      recovering = q.recovering ∙ p.recovering;
      reports = q.reports ∙ p.reports;
      embargoes = q.embargoes ∙ p.embargoes;
      here = q.here;
      elsewhere = λ g b hb e. q.elsewhere g b hb e ∙ p.elsewhere g b hb e;
    }

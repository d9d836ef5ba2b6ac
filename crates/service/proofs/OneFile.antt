-- One file of the service: what stands in its place after it was stored, at the server and at the clients. It leads to
-- the steps on a file, and to a refused step, which stores what is there. Assumes nothing.
use Prim.Native.Nat.{ℕ, ◌<◌}
use mathlib.Core.Path.{◌≡◌, refl, ap, ap₂, ◌∙◌}
use mathlib.Core.Bool.{Bool, true, false, cond, ◌&&◌}
use mathlib.Core.List.{List}
use lib.Dec.{eqb}
use lib.ListN.{length, set, length-set}
use lib.Seq.{get_or-set_same, get_or-set_other, set-get_or, set-set}
use borrow.Author.Tests.{eqb-true, eqb-false}
use Rattle.sizes.specs.declared.sizes.Sizes.{Sizes}
use Rattle.sizes.specs.Sizes.{max_files}
use Rattle.protocol.specs.declared.client.ClientFile.{ClientFile}
use Rattle.protocol.specs.declared.client.Sides.{Sides}
use Rattle.protocol.specs.declared.entry.Entry.{Entry}
use Rattle.protocol.specs.Client.{no_client, side_of, with_side}
use Rattle.blocks.specs.declared.stores.Stores.{Stores}
use Rattle.protocol.specs.declared.shared.SharedFile.{SharedFile}
use Rattle.table.specs.TableStep.{no_entry, no_sides, sides_in}
use Rattle.service.specs.declared.service.Service.{Service}
use Rattle.service.specs.Contents.{table_in, sides_at, file_at, stores_of, with_stores, with_file}
use Rattle.service.proofs.Tests.{split}
use Rattle.service.proofs.Lists.{get_d_set}
use Rattle.service.proofs.Views.{Sized}

pub stands :
    {z : Sizes} {s : Service} {f : ℕ} (x : SharedFile) (a : Stores)
    → Sized z s
    → f < max_files
    → file_at (with_file s f x a) f ≡ x
stands {s = s} {f = f} x a n hf =
    λ k.
    record {
      entry = get_or-set_same (table_in s).files f x.entry no_entry (rw n.entries hf) k;
      sides = get_or-set_same s.clients f x.sides no_sides (rw n.files hf) k;
    }

-- the service with other blocks and copies, and with these files at the server and at the clients
abbrev with_lists : Service → Stores → List Entry → List Sides → Service
with_lists s a entries sides =
    record {
      sizes = s.sizes;
      server =
          record {
            table =
                record {
                  files = entries;
                  recovering = (table_in s).recovering;
                  reported = (table_in s).reported;
                  embargoed = (table_in s).embargoed;
                };
            blocks = a.blocks;
            used = s.server.used;
            free = s.server.free;
          };
      clients = sides;
      copies = a.copies;
      held = a.held;
      dirty = a.dirty;
    }

-- the service with another entry of file f
abbrev pub with_entry_at : Service → ℕ → Entry → Service
with_entry_at s f e = with_lists s (stores_of s) (set (table_in s).files f e) s.clients

-- the clients' sides stay as they are
pub only_entry :
    (s : Service) (f : ℕ) (e : Entry)
    → with_file s f (record { entry = e; sides = sides_at s f }) (stores_of s) ≡ with_entry_at s f e
only_entry s f e =
    ap (with_lists s (stores_of s) (set (table_in s).files f e)) (set-get_or s.clients f no_sides)

-- storing twice, and storing what is there
pub twice :
    (s : Service) (f : ℕ) (x y : SharedFile) (a c : Stores) → with_file (with_file s f x a) f y c ≡ with_file s f y c
twice s f x y a c =
    ap₂ (with_lists s c) (set-set (table_in s).files f x.entry y.entry)
    (set-set s.clients f x.sides y.sides)

pub same_file : (s : Service) (f : ℕ) (a : Stores) → with_file s f (file_at s f) a ≡ with_stores s a
same_file s f a = ap₂ (with_lists s a) (set-get_or (table_in s).files f no_entry) (set-get_or s.clients f no_sides)

pub same_sides : (x : Sides) (i : ℕ) → with_side x i (side_of x i) ≡ x
same_sides x i = λ k. record { of = set-get_or x.of i no_client k }

-- file f stands with another side of client i
module _ (l : List Sides) (f g i : ℕ) (own : ClientFile) (room : f < length l) where
  pub side_put :
      (j : ℕ) (t : Bool)
      → i < length (sides_in l f).of
      → eqb g f ≡ t
      → side_of (sides_in (set l f (with_side (sides_in l f) i own)) g) j ≡ cond (t && eqb j i) own (side_of (sides_in l g) j)
  side_put j true fits e =
      rw (eqb-true g f e)
      (ap (λ x. side_of x j) (get_or-set_same l f _ no_sides room)
      ∙ get_d_set (sides_in l f).of i j own no_client (eqb j i) fits refl)
  side_put j false fits e = ap (λ x. side_of x j) (get_or-set_other l f g _ no_sides (eqb-false g f e))

  pub length_side : length (sides_in (set l f (with_side (sides_in l f) i own)) g).of ≡ length (sides_in l g).of
  length_side =
      split (eqb g f)
      (λ e.
      rw (eqb-true g f e)
      (ap (λ (x : Sides). length x.of) (get_or-set_same l f _ no_sides room) ∙ length-set (sides_in l f).of i own))
      (λ e. ap (λ (x : Sides). length x.of) (get_or-set_other l f g _ no_sides (eqb-false g f e)))

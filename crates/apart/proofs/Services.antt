-- Services that agree in part: on one file, on all others, and then on all. Assumes nothing.
use Prim.Native.Nat.{ℕ}
use mathlib.Core.Path.{◌≡◌, sym, ap, ◌∙◌}
use mathlib.Core.Bool.{Bool, true, false, not, ◌&&◌}
use mathlib.Core.List.{List}
use lib.Dec.{eqb}
use borrow.Author.Tests.{eqb-true}
use Rattle.sizes.specs.declared.sizes.Sizes.{Sizes}
use Rattle.sizes.proofs.Choosing.{split}
use Rattle.protocol.specs.declared.client.Sides.{Sides}
use Rattle.protocol.specs.declared.entry.Entry.{Entry}
use Rattle.blocks.specs.declared.stores.Stores.{Stores}
use Rattle.service.specs.declared.service.Service.{Service}
use Rattle.service.specs.Contents.{table_in, stores_of}
use Rattle.apart.specs.Agree.{AgreeOn, Agrees, blocks_of, copies_of, On, Off}
use Rattle.apart.proofs.Agreeing.{agree_sym, agree_trans, whole, apart_cells, apart_places}

-- ---- fewer places

less : {A : Type 0} {R R' : ℕ → Bool} {d : A} {l m : List A} → ((k : ℕ) → R' k ≡ true → R k ≡ true) → AgreeOn R d l m → AgreeOn R' d l m
less few h = record { long = h.long; same = λ k e. h.same k (few k e) }

-- where R holds, and where it does not but R' does: then wherever R' does
joined : {A : Type 0} {R R' : ℕ → Bool} {d : A} {l m : List A} → AgreeOn R d l m → AgreeOn (λ k. not (R k) && R' k) d l m → AgreeOn R' d l m
joined {R = R} on off =
    record {
      long = on.long;
      same = λ k e. split (R k) (on.same k) (λ out. off.same k (λ j. not (out j) && e j));
    }

module _ {R P Q : ℕ → Bool} where
  pub agrees_sym : {s t : Service} → Agrees R P Q s t → Agrees R P Q t s
  agrees_sym h =
      record {
        sizes = sym h.sizes;
        recovering = sym h.recovering;
        reported = sym h.reported;
        embargoed = sym h.embargoed;
        files = agree_sym h.files;
        clients = agree_sym h.clients;
        stores =
            record {
              blocks = agree_sym h.stores.blocks;
              copies = agree_sym h.stores.copies;
              held = agree_sym h.stores.held;
              dirty = agree_sym h.stores.dirty;
            };
        used = agree_sym h.used;
        free = sym h.free;
      }

  pub agrees_trans : {s t u : Service} → Agrees R P Q s t → Agrees R P Q t u → Agrees R P Q s u
  agrees_trans g h =
      record {
        sizes = g.sizes ∙ h.sizes;
        recovering = g.recovering ∙ h.recovering;
        reported = g.reported ∙ h.reported;
        embargoed = g.embargoed ∙ h.embargoed;
        files = agree_trans g.files h.files;
        clients = agree_trans g.clients h.clients;
        stores =
            record {
              blocks = agree_trans g.stores.blocks h.stores.blocks;
              copies = agree_trans g.stores.copies h.stores.copies;
              held = agree_trans g.stores.held h.stores.held;
              dirty = agree_trans g.stores.dirty h.stores.dirty;
            };
        used = agree_trans g.used h.used;
        free = g.free ∙ h.free;
      }

  pub agrees_less : {R' P' Q' : ℕ → Bool} {s t : Service}
      → ((k : ℕ) → R' k ≡ true → R k ≡ true) → ((k : ℕ) → P' k ≡ true → P k ≡ true) → ((k : ℕ) → Q' k ≡ true → Q k ≡ true)
      → Agrees R P Q s t → Agrees R' P' Q' s t
  agrees_less few_r few_p few_q h =
      record {
        sizes = h.sizes;
        recovering = h.recovering;
        reported = h.reported;
        embargoed = h.embargoed;
        files = less few_r h.files;
        clients = less few_r h.clients;
        stores =
            record {
              blocks = less few_p h.stores.blocks;
              copies = less few_q h.stores.copies;
              held = less few_q h.stores.held;
              dirty = less few_q h.stores.dirty;
            };
        used = less few_p h.used;
        free = h.free;
      }

  pub agrees_joined : {R' P' Q' : ℕ → Bool} {s t : Service}
      → Agrees R P Q s t
      → Agrees (λ k. not (R k) && R' k) (λ k. not (P k) && P' k) (λ k. not (Q k) && Q' k) s t
      → Agrees R' P' Q' s t
  agrees_joined on off =
      record {
        sizes = on.sizes;
        recovering = on.recovering;
        reported = on.reported;
        embargoed = on.embargoed;
        files = joined on.files off.files;
        clients = joined on.clients off.clients;
        stores =
            record {
              blocks = joined on.stores.blocks off.stores.blocks;
              copies = joined on.stores.copies off.stores.copies;
              held = joined on.stores.held off.stores.held;
              dirty = joined on.stores.dirty off.stores.dirty;
            };
        used = joined on.used off.used;
        free = on.free;
      }

  -- everywhere
  pub agrees_whole : {s t : Service} → Agrees R P Q s t → Agrees (λ k. not (R k)) (λ k. not (P k)) (λ k. not (Q k)) s t → s ≡ t
  agrees_whole {s} {t} on off =
      ap (λ z. made z (table_in s).files (table_in s).recovering (table_in s).reported (table_in s).embargoed (stores_of s) s.server.used s.server.free s.clients) on.sizes
      ∙ ap (λ l. made t.sizes l (table_in s).recovering (table_in s).reported (table_in s).embargoed (stores_of s) s.server.used s.server.free s.clients) (whole on.files off.files)
      ∙ ap (λ b. made t.sizes (table_in t).files b (table_in s).reported (table_in s).embargoed (stores_of s) s.server.used s.server.free s.clients) on.recovering
      ∙ ap (λ l. made t.sizes (table_in t).files (table_in t).recovering l (table_in s).embargoed (stores_of s) s.server.used s.server.free s.clients) on.reported
      ∙ ap (λ l. made t.sizes (table_in t).files (table_in t).recovering (table_in t).reported l (stores_of s) s.server.used s.server.free s.clients) on.embargoed
      ∙ ap (λ a. made t.sizes (table_in t).files (table_in t).recovering (table_in t).reported (table_in t).embargoed a s.server.used s.server.free s.clients) same-stores
      ∙ ap (λ l. made t.sizes (table_in t).files (table_in t).recovering (table_in t).reported (table_in t).embargoed (stores_of t) l s.server.free s.clients) (whole on.used off.used)
      ∙ ap (λ k. made t.sizes (table_in t).files (table_in t).recovering (table_in t).reported (table_in t).embargoed (stores_of t) t.server.used k s.clients) on.free
      ∙ ap (λ l. made t.sizes (table_in t).files (table_in t).recovering (table_in t).reported (table_in t).embargoed (stores_of t) t.server.used t.server.free l) (whole on.clients off.clients)
    where
      made : Sizes → List Entry → Bool → List Bool → List Bool → Stores → List Bool → ℕ → List Sides → Service
      made z files recovering reported embargoed a used free clients =
          record {
            sizes = z;
            server =
                record {
                  table = record { files = files; recovering = recovering; reported = reported; embargoed = embargoed };
                  blocks = a.blocks;
                  used = used;
                  free = free;
                };
            clients = clients;
            copies = a.copies;
            held = a.held;
            dirty = a.dirty;
          }

      stores-of : List ℕ → List ℕ → List Bool → List Bool → Stores
      stores-of b c h d = record { blocks = b; copies = c; held = h; dirty = d }

      same-stores : stores_of s ≡ stores_of t
      same-stores =
          ap (λ l. stores-of l s.copies s.held s.dirty) (whole on.stores.blocks off.stores.blocks)
          ∙ ap (λ l. stores-of t.server.blocks l s.held s.dirty) (whole on.stores.copies off.stores.copies)
          ∙ ap (λ l. stores-of t.server.blocks t.copies l s.dirty) (whole on.stores.held off.stores.held)
          ∙ ap (λ l. stores-of t.server.blocks t.copies t.held l) (whole on.stores.dirty off.stores.dirty)

-- ---- what agrees on all files but one agrees on any other
module _ (f g : ℕ) (other : eqb f g ≡ false) where
  other_file : (k : ℕ) → eqb k f ≡ true → not (eqb k g) ≡ true
  other_file k e = ap not (ap (λ (n : ℕ). eqb n g) (eqb-true k f e) ∙ other)

  other_place : (k : ℕ) → blocks_of f k ≡ true → not (blocks_of g k) ≡ true
  other_place k e = ap not (apart_places f g k other e)

  other_cell : (k : ℕ) → copies_of f k ≡ true → not (copies_of g k) ≡ true
  other_cell k e = ap not (apart_cells f g k other e)

  pub off_on : {s t : Service} → Off g s t → On f s t
  off_on h = agrees_less other_file other_place other_cell h

-- The invariant of the whole service: every file and block is as the protocol promises of one, in a running server or
-- in a recovery; and how a step that changes one file, one block or the table keeps it. It leads to the theorem on
-- whole lists of steps. Assumes nothing.
use Prim.Native.Nat.{ℕ, ◌<◌}
use mathlib.Core.Path.{◌≡◌, ap, ◌∙◌, subst⁻¹}
use mathlib.Core.Bool.{Bool, true, false, ◌&&◌}
use mathlib.Core.List.{List, map}
use lib.Dec.{eqb}
use lib.ListN.{length, get_or, take, length-map, get_or-map}
use lib.Seq.{length-take-le, get_or-take}
use borrow.Author.Tests.{eqb-true}
use Rattle.sizes.specs.declared.sizes.Sizes.{Sizes}
use Rattle.sizes.specs.Sizes.{Permitted}
use Rattle.protocol.specs.Book.{History}
use Rattle.protocol.specs.Table.{Row, row_of, seen}
use Rattle.protocol.proofs.View.{View}
use Rattle.table.specs.TableStep.{no_entry}
use Rattle.service.specs.declared.service.Service.{Service}
use Rattle.service.specs.Contents.{table_in, entry_at, embargoed_at}
use Rattle.service.specs.Aside.{Forgotten}
use Rattle.service.specs.Demand3.{Memory, at_block, at_file, table_of, Recovery, none, since}
use Rattle.service.proofs.Tests.{split, conflict, eqb_same, both}
use Rattle.service.proofs.Views.{Sized, In, view_of, heard_of}
use Rattle.service.proofs.FileTurn.{FileStep}
use Rattle.service.proofs.BlockSteps.{BlockStep}
use Rattle.service.proofs.TableSteps.{TableStep}

-- ---- the rows of the table, where z are the sizes in force

abbrev rows_of : Sizes → Service → List Row
rows_of z s = map (λ e. row_of (seen z.clients e)) (take z.files (table_in s).files)

-- the row of file f in a table
abbrev pub row_in : Sizes → List Row → ℕ → Row
row_in z t f = get_or t f (row_of (seen z.clients no_entry))

module _ {z : Sizes} (most : Permitted z) {s : Service} (n : Sized z s) where
  table_is : table_of s ≡ rows_of z s
  table_is = ap (λ z. rows_of z s) n.sizes

  pub table_length : length (table_of s) ≡ z.files
  table_length =
      ap length table_is
      ∙ length-map (take z.files (table_in s).files) (λ e. row_of (seen z.clients e))
      ∙ length-take-le z.files (table_in s).files (rw n.entries most.files)

  pub row_is : (f : ℕ) → f < z.files → row_in z (table_of s) f ≡ row_of (seen z.clients (entry_at s f))
  row_is f hf =
      ap (λ t. row_in z t f) table_is
      ∙ get_or-map (λ e. row_of (seen z.clients e)) (take z.files (table_in s).files) f no_entry
      ∙ ap (λ e. row_of (seen z.clients e)) (get_or-take z.files (table_in s).files f no_entry hf)

-- ---- the invariant

-- P holds of each file, its view at each block, and what the reference memory has for it
abbrev pub Everywhere : Sizes → (ℕ → View → History → Type 0) → Service → Memory → Type 0
Everywhere z P s m = (f b : ℕ) → f < z.files → b < z.blocks → P f (view_of z s f b) (m f b)

-- the server runs
pub record Runs (z : Sizes) (Running : View → History → Type 0) (s : Service) (m : Memory) : Type 0 where
  pub sized : Sized z s
  pub state : (table_in s).recovering ≡ false
  pub views : Everywhere z (λ f v k. Running v k) s m

-- the protocol's promise of each file in a recovery, with these clients heard and the table t to give back
abbrev pub InRecovery :
    Sizes → (View → History → (ℕ → Bool) → Row → Type 0) → (ℕ → Bool) → List Row → Service → Memory → Type 0
InRecovery z Recovering reported t = Everywhere z (λ f v k. Recovering v k reported (row_in z t f))

-- the server recovers the table t
pub record Recovers
    (z : Sizes)
    (Recovering : View → History → (ℕ → Bool) → Row → Type 0)
    (s : Service)
    (m : Memory)
    (t : List Row) : Type 0 where
  pub sized : Sized z s
  pub state : (table_in s).recovering ≡ true
  pub rows : length t ≡ z.files
  pub views : InRecovery z Recovering (heard_of z s) t s m

abbrev pub Stands :
    Sizes → (View → History → Type 0) → (View → History → (ℕ → Bool) → Row → Type 0) → Service → Memory → Recovery → Type 0
Stands z Running Recovering s m none = Runs z Running s m
Stands z Running Recovering s m (since t) = Recovers z Recovering s m t

-- and the server has nothing of a client under embargo
pub record Sound
    (z : Sizes)
    (Running : View → History → Type 0)
    (Recovering : View → History → (ℕ → Bool) → Row → Type 0)
    (s : Service)
    (m : Memory)
    (r : Recovery) : Type 0 where
  pub stands : Stands z Running Recovering s m r
  pub forgotten : Forgotten s

-- an open that waits is of a client that is in
pub waiter_in :
    {z : Sizes} {s : Service}
    → Sized z s
    → Forgotten s
    → (f : ℕ)
    → f < z.files
    → (entry_at s f).waiter < z.clients
    → In z s (entry_at s f).waiter
waiter_in {z} {s} n h f hf hw =
    let w : ℕ = (entry_at s f).waiter in
    record {
      below = hw;
      unbarred =
          split (embargoed_at s w)
          (λ out. conflict (eqb_same w) (h.unknown w f (subst⁻¹ (λ (z : Sizes). w < z.clients) n.sizes hw)
          (subst⁻¹ (λ (z : Sizes). f < z.files) n.sizes hf) out).not_waiting)
          (λ e. e);
    }

-- ---- after a step

-- where the reference memory changes, and where it does not
pub block_here : (m : Memory) (f b : ℕ) (h : History → History) → at_block m f b h f b ≡ h (m f b)
block_here m f b h = rw (eqb_same f, eqb_same b)

pub block_elsewhere :
    (m : Memory) (f b : ℕ) (h : History → History) (g c : ℕ)
    → (eqb g f && eqb c b) ≡ false
    → at_block m f b h g c ≡ m g c
block_elsewhere m f b h g c e = rw e

pub file_here_lem : (m : Memory) (f : ℕ) (h : History → History) (b : ℕ) → at_file m f h f b ≡ h (m f b)
file_here_lem m f h b = rw (eqb_same f)

pub file_elsewhere :
    (m : Memory) (f : ℕ) (h : History → History) (g b : ℕ) → eqb g f ≡ false → at_file m f h g b ≡ m g b
file_elsewhere m f h g b e = rw e

module _ (z : Sizes) (P : ℕ → View → History → Type 0) {s s' : Service} {m : Memory} where
  pub after_file :
      {f : ℕ} {w : ℕ → View} {m' : Memory}
      → Everywhere z P s m
      → FileStep z s s' f w
      → ((b : ℕ) → b < z.blocks → P f (w b) (m' f b))
      → ((g b : ℕ) → eqb g f ≡ false → m' g b ≡ m g b)
      → Everywhere z P s' m'
  after_file {f} {w} {m'} h p k same g b hg hb =
      split (eqb g f)
      (λ e. subst⁻¹ (λ g. P g (view_of z s' g b) (m' g b)) (eqb-true g f e) here)
      (λ e. subst⁻¹ (λ v. P g v (m' g b)) (p.elsewhere g b hb e)
      (subst⁻¹ (λ x. P g (view_of z s g b) x) (same g b e) (h g b hg hb)))
    where
      here : P f (view_of z s' f b) (m' f b)
      here = subst⁻¹ (λ v. P f v (m' f b)) (p.here b hb) (k b hb)

  pub after_block :
      {f b : ℕ} {w : View} {m' : Memory}
      → Everywhere z P s m
      → BlockStep z s s' f b w
      → P f w (m' f b)
      → ((g c : ℕ) → (eqb g f && eqb c b) ≡ false → m' g c ≡ m g c)
      → Everywhere z P s' m'
  after_block {f} {b} {w} {m'} h p k same g c hg hc = split (eqb g f && eqb c b) here elsewhere
    where
      here : (eqb g f && eqb c b) ≡ true → P g (view_of z s' g c) (m' g c)
      here e =
          let (same_file, same_block) = both (eqb g f) (eqb c b) e in
          subst⁻¹ (λ g. P g (view_of z s' g c) (m' g c)) (eqb-true g f same_file)
          (subst⁻¹ (λ c. P f (view_of z s' f c) (m' f c)) (eqb-true c b same_block)
          (subst⁻¹ (λ v. P f v (m' f b)) p.here k))

      elsewhere : (eqb g f && eqb c b) ≡ false → P g (view_of z s' g c) (m' g c)
      elsewhere e =
          subst⁻¹ (λ v. P g v (m' g c)) (p.elsewhere g c hc e)
          (subst⁻¹ (λ x. P g (view_of z s g c) x) (same g c e) (h g c hg hc))

pub after_table :
    {z : Sizes} {Recovering : View → History → (ℕ → Bool) → Row → Type 0} {s s' : Service} {m : Memory} {t : List Row}
    {reported : ℕ → Bool} {w : View → View}
    → TableStep z s s' reported w
    → (table_in s').recovering ≡ true
    → length t ≡ z.files
    → ((f b : ℕ) → f < z.files → b < z.blocks → Recovering (w (view_of z s f b)) (m f b) reported (row_in z t f))
    → Recovers z Recovering s' m t
after_table {z} {Recovering} {s} {s'} {m} {t} {reported} {w} p state rows k =
    record { sized = p.sized; state = state; rows = rows; views = views }
  where
    views : InRecovery z Recovering (heard_of z s') t s' m
    views f b hf hb =
        subst⁻¹ (λ v. Recovering v (m f b) (heard_of z s') (row_in z t f)) (p.everywhere f b hf)
        (subst⁻¹ (λ l. Recovering (w (view_of z s f b)) (m f b) l (row_in z t f)) p.heard (k f b hf hb))

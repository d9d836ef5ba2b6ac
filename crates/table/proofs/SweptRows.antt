-- A step that goes through the rows. Assumes nothing.
use Prim.Native.Nat.{ℕ, ◌+◌, ◌≤◌, ◌<◌}
use mathlib.Core.Path.{◌≡◌, refl, sym, ap, ap₂, ◌∙◌, subst}
use mathlib.Core.List.{List}
use mathlib.Core.Logic.{⊎_elim}
use native.Mathlib.Nat.{eq-or-lt_of_le, le_of_suc-le-suc}
use native.Mathlib.Numerals.{add-one}
use native.Mathlib.Omega.{arith}
use lib.Dec.{eqb, leb}
use lib.ListN.{length}
use lib.Seq.{ext_get_or}
use borrow.Author.Tests.{eqb-true, eqb-false, leb-true, leb-false}
use Rattle.sizes.proofs.Choosing.{split}
use Rattle.sizes.specs.declared.sizes.Sizes.{Sizes}
use Rattle.sizes.specs.Sizes.{max_clients, max_files}
use Rattle.decision.specs.Lists.{stored}
use Rattle.decision.proofs.Storing.{length_stored, get_d_stored, get_d_stored_other}
use Rattle.protocol.specs.declared.client.ClientFile.{ClientFile}
use Rattle.protocol.specs.declared.client.Sides.{Sides}
use Rattle.protocol.specs.declared.entry.Entry.{Entry}
use Rattle.protocol.specs.declared.shared.SharedFile.{SharedFile}
use Rattle.protocol.specs.Client.{side_of}
use Rattle.protocol.specs.Entry.{crashed_entry, reported_entry}
use Rattle.words.specs.Words.{side_held}
use Rattle.words.specs.Rows.{listed, word_at, entry_held, sides_held}
use Rattle.words.proofs.Changing.{side_held_lem}
use Rattle.words.proofs.Listing.{length_listed, get_d_listed, listed_agree}
use Rattle.words.proofs.Places.{same_row, beside_held}
use Rattle.table.specs.declared.recovery.Sweep.{Sweep}
use Rattle.table.specs.declared.recovery.Sweep.TheVariants.{Stay, Crash as Crashes, Report as Reports}
use Rattle.table.specs.TableStep.{no_entry, no_sides, entry_of, sides_in}
use Rattle.table.specs.Swept.{SidesStay, PutsEntry, Sweeps, Swept}

module _ {e : ℕ → Entry} {t₀ : List ℕ} where
  pub sweeps_none : Sweeps 0 e t₀ t₀
  sweeps_none =
      record { long = refl; swept = λ f h. absurd (omega arith); sides = λ f k a b. refl; past = λ g k a b. refl }

  pub sweeps_more :
      {n : ℕ} {t t' : List ℕ} {x : Entry}
      → Sweeps n e t₀ t
      → x ≡ e n
      → PutsEntry n x t t'
      → Sweeps (n + 1) e t₀ t'
  sweeps_more {n} {t} {t'} s entry p =
      record {
        long = p.long ∙ s.long;
        swept =
            λ f h.
            ⊎_elim
            (λ (is : f ≡ n). rw is (p.entry ∙ entry))
            (λ (less : f < n).
            ap (λ (y : SharedFile). y.entry) (beside_held n t t' p.beside f (λ e. omega arith)) ∙ s.swept f less)
            (eq-or-lt_of_le (le_of_suc-le-suc (rw add-one at h)));
        sides =
            λ f k a b.
            split (eqb f n)
            (λ is. rw (eqb-true f n is) (p.sides k a b ∙ s.sides n k a b))
            (λ off. p.beside f k (eqb-false f n off) (omega arith) ∙ s.sides f k a b);
        past = λ g k a b. p.beside g k (λ e. omega arith) b ∙ s.past g k (omega arith) b;
      }

  pub sweeps_all : {n m : ℕ} {t : List ℕ} → n ≤ m → m ≤ n → Sweeps n e t₀ t → Sweeps m e t₀ t
  sweeps_all {n} {m} {t} a b s = let same : n ≡ m = omega arith in subst (λ (k : ℕ). Sweeps k e t₀ t) same s

  -- the entry of a row that the sweep has not come to
  pub not_swept : {n : ℕ} {t : List ℕ} → Sweeps n e t₀ t → (f : ℕ) → n ≤ f → entry_held t f ≡ entry_held t₀ f
  not_swept {n} {t} s f h = ap (λ (y : SharedFile). y.entry) (same_row t t₀ f (λ k lt. s.past f k h lt))

  -- the entry that the client's report makes of the row that the sweep has come to
  pub reported_next :
      {n : ℕ} {t : List ℕ} (i : ℕ)
      → i < max_clients
      → Sweeps n e t₀ t
      → reported_entry (entry_held t n) i (side_held (word_at t n (10 + i)))
      ≡ reported_entry (entry_held t₀ n) i (side_of (sides_held t₀ n) i)
  reported_next {n} {t} i there s =
      ap₂ (λ (x : Entry) (own : ClientFile). reported_entry x i own) (not_swept s n (omega arith))
      (ap side_held (s.sides n (10 + i) (omega arith) (omega arith)) ∙ sym (side_held_lem t₀ n i there))

-- the entries of all files, once the rows are swept
swept_files :
    (n : ℕ) (e v : ℕ → Entry) (t₀ t : List ℕ)
    → n ≤ max_files
    → Sweeps n e t₀ t
    → ((f : ℕ) → f < n → e f ≡ v f)
    → listed max_files (λ f. entry_held t f) ≡ stored n (λ f. f) v (listed max_files (λ f. entry_held t₀ f))
swept_files n e v t₀ t fits s same =
    let l = listed max_files (λ f. entry_held t f) in
    let l₀ = listed max_files (λ f. entry_held t₀ f) in
    let long : length l ≡ max_files = length_listed max_files (λ f. entry_held t f) in
    let long₀ : length l₀ ≡ max_files = length_listed max_files (λ f. entry_held t₀ f) in
    ext_get_or no_entry l (stored n (λ f. f) v l₀) (long ∙ sym (length_stored n (λ f. f) v l₀ ∙ long₀))
    (λ f h.
    let below : f < max_files = omega (arith, h, long) in
    get_d_listed max_files (λ f. entry_held t f) no_entry f below
    ∙ split (leb n f)
    (λ past.
    not_swept s f (leb-true n f past)
    ∙ sym
    (get_d_stored_other n (λ f. f) v l₀ no_entry f (λ k lt e. omega (arith, lt, e, leb-true n f past))
    ∙ get_d_listed max_files (λ f. entry_held t₀ f) no_entry f below))
    (λ inside.
    let lt : f < n = leb-false n f inside in
    s.swept f lt ∙ same f lt
    ∙ sym (get_d_stored n (λ f. f) v l₀ no_entry f lt (omega (arith, below, long₀)) (λ k a b e. omega (arith, a, e)))))

module _ (z : Sizes) (fits : z.files ≤ max_files) (t₀ t : List ℕ) where
  abbrev files₀ : List Entry
  files₀ = listed max_files (λ f. entry_held t₀ f)

  abbrev sides₀ : List Sides
  sides₀ = listed max_files (λ f. sides_held t₀ f)

  entry_there : (f : ℕ) → f < z.files → entry_held t₀ f ≡ entry_of files₀ f
  entry_there f h = sym (get_d_listed max_files (λ f. entry_held t₀ f) no_entry f (omega (arith, h, fits)))

  sides_there : (f : ℕ) → f < z.files → sides_held t₀ f ≡ sides_in sides₀ f
  sides_there f h = sym (get_d_listed max_files (λ f. sides_held t₀ f) no_sides f (omega (arith, h, fits)))

  pub swept_crash :
      Sweeps z.files (λ f. crashed_entry z.clients (entry_held t₀ f)) t₀ t → Swept z Crashes t₀ t
  swept_crash s =
      record {
        long = s.long;
        stays = λ e. cc;
        files =
            swept_files z.files (λ f. crashed_entry z.clients (entry_held t₀ f))
            (λ f. crashed_entry z.clients (entry_of files₀ f)) t₀ t fits s
            (λ f h. ap (λ (e : Entry). crashed_entry z.clients e) (entry_there f h));
        sides = s.sides;
        past = s.past;
      }

  pub swept_report :
      (i : ℕ)
      → Sweeps z.files (λ f. reported_entry (entry_held t₀ f) i (side_of (sides_held t₀ f) i)) t₀ t
      → Swept z (Reports i) t₀ t
  swept_report i s =
      record {
        long = s.long;
        stays = λ e. cc;
        files =
            swept_files z.files (λ f. reported_entry (entry_held t₀ f) i (side_of (sides_held t₀ f) i))
            (λ f. reported_entry (entry_of files₀ f) i (side_of (sides_in sides₀ f) i)) t₀ t fits s
            (λ f h.
            ap₂ (λ (e : Entry) (x : Sides). reported_entry e i (side_of x i)) (entry_there f h) (sides_there f h));
        sides = s.sides;
        past = s.past;
      }

pub swept_stay : (z : Sizes) (t : List ℕ) → Swept z Stay t t
swept_stay z t =
    record { long = refl; stays = λ e. refl; files = refl; sides = λ f k a b. refl; past = λ g k a b. refl }

-- the clients' sides of a file, and of all, once their words are as they came
pub sides_stay : (t₀ t : List ℕ) (f : ℕ) → SidesStay f t₀ t → sides_held t f ≡ sides_held t₀ f
sides_stay t₀ t f same =
    rw (listed_agree max_clients (λ i. side_held (word_at t f (10 + i))) (λ i. side_held (word_at t₀ f (10 + i)))
    (λ i lt. ap side_held (same (10 + i) (omega arith) (omega arith))))

pub swept_sides :
    {z : Sizes} {sweep : Sweep} {t₀ t : List ℕ}
    → Swept z sweep t₀ t
    → listed max_files (λ f. sides_held t f) ≡ listed max_files (λ f. sides_held t₀ f)
swept_sides {z} {sweep} {t₀} {t} s =
    listed_agree max_files (λ f. sides_held t f) (λ f. sides_held t₀ f) (λ f lt. sides_stay t₀ t f (s.sides f))

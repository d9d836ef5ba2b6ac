-- The texts of the picture, as the functions put them together. They look at the flags of the copies only, so the
-- other stores are empty. Assumes nothing.
use Prim.Native.Nat.{ℕ, zero, suc, ◌+◌, ◌%◌, ◌≤◌, ◌<◌}
use mathlib.Core.Path.{◌≡◌, refl, sym, ◌∙◌, ap}
use mathlib.Core.Bool.{Bool, false, cond, not, ◌||◌}
use mathlib.Core.List.{List, [], ◌++◌}
use native.Mathlib.Numerals.{add-one}
use native.Mathlib.Omega.{arith}
use lib.Dec.{eqb, ltb}
use lib.ListN.{get_or, replicate}
use borrow.Author.Tests.{lt-ltb, ne_eqb}
use Rattle.records.specs.Record.{is_open}
use Rattle.sizes.specs.declared.sizes.Sizes.{Sizes}
use Rattle.sizes.specs.Sizes.{max_clients, max_files, max_blocks, first_cell}
use Rattle.decision.specs.Lists.{count, stored}
use Rattle.decision.proofs.Storing.{get_d_stored}
use Rattle.protocol.specs.declared.client.ClientFile.{ClientFile}
use Rattle.protocol.specs.declared.client.Sides.{Sides}
use Rattle.protocol.specs.declared.entry.Entry.{Entry}
use Rattle.blocks.specs.Stores.{lent, dirty_in}
use Rattle.blocks.proofs.Wrapped.{wrapped_cell}
use Rattle.table.specs.TableStep.{entry_of, sides_in}
use Rattle.service.specs.Contents.{sizes_of, table_in, entry_at, embargoed_at, sides_at, stores_of}
use Rattle.stepfile.specs.Summary.{is_listed}
use Rattle.ledger.specs.declared.annotated.Annotated.{Annotated}
use Rattle.ledger.specs.Ledger.{entered, copied_at, waiting_since, embargoed_since}
use Rattle.ledger.specs.Refusals.{times_refused}
use Rattle.phrases.specs.Phrase.{list_text}
use Rattle.phrases.proofs.Lists.{list_agree}
use Rattle.picture.specs.Picture.{is_concerned, concerned, is_pictured, station_if_text, stations_text}
use Rattle.picture.specs.Picture.{head_text, wait_if_text, file_if_text, files_text, refused_text, times_text}
use Rattle.picture.specs.Picture.{aside_if_text, asides_text}

-- one or more
pub some : (n : ℕ) → ltb 0 n ≡ not (eqb n 0)
some zero = refl
some (suc n) = lt-ltb 0 (suc n) (omega arith) ∙ ap not (sym (ne_eqb (suc n) 0 (λ e. omega (arith, e))))

-- base is where client i's copies of file f begin
module _ (i f base : ℕ) (hi : i < max_clients) (hf : f < max_files)
    (is : base ≡ first_cell (i % max_clients) (f % max_files)) where
  first : base ≡ first_cell i f
  first = is ∙ wrapped_cell i f hi hf

  -- the flags of the blocks, as a list of them
  pub list_there :
      (n : ℕ) (flags : List Bool)
      → list_text n (λ b. get_or flags (base + b) false) ≡ list_text n (λ b. get_or flags (first_cell i f + b) false)
  list_there n flags = ap (λ k. list_text n (λ b. get_or flags (k + b) false)) first

  -- whether the file concerns the client
  pub concerned_by :
      (z : Sizes) (held : List Bool) (own : ClientFile) (any : Bool) (blocks : ℕ)
      → any ≡ is_open own.opens
      → blocks ≡ count z.blocks (λ b. get_or held (base + b) false)
      → (any || ltb 0 blocks) ≡ is_concerned z (lent [] [] held []) own i f
  concerned_by z held own any blocks opens counts =
      let there : blocks ≡ count z.blocks (λ b. get_or held (first_cell i f + b) false) =
      counts ∙ ap (λ k. count z.blocks (λ b. get_or held (k + b) false)) first in
      ap (λ x. x || ltb 0 blocks) opens
      ∙ ap (λ x. is_open own.opens || x) (some blocks ∙ ap (λ k. not (eqb k 0)) there)

-- whether a file is told
pub pictured_by :
    (z : Sizes) (held : List Bool) (sides : Sides) (e : Entry) (f : ℕ) (listed : Bool) (stations : ℕ)
    → listed ≡ is_listed z.clients e
    → stations ≡ concerned z (lent [] [] held []) sides f
    → (listed || ltb 0 stations) ≡ is_pictured z (lent [] [] held []) sides e f
pictured_by z held sides e f listed stations is counts =
    ap (λ x. x || ltb 0 stations) is
    ∙ ap (λ x. is_listed z.clients e || x) (some stations ∙ ap (λ k. not (eqb k 0)) counts)

-- one client more
pub stations_next :
    (z : Sizes) (held dirty : List Bool) (sides : Sides) (f n : ℕ)
    → let a = lent [] [] held dirty in
    stations_text z a sides f (n + 1) ≡ stations_text z a sides f n ++ station_if_text z a sides n f
unfolding stations_text
stations_next z held dirty sides f n = rw (add-one n)

-- the other stores are not looked at
stations_flags :
    (z : Sizes) (blocks copies : List ℕ) (held dirty : List Bool) (sides : Sides) (f n : ℕ)
    → stations_text z (lent blocks copies held dirty) sides f n ≡ stations_text z (lent [] [] held dirty) sides f n
unfolding stations_text
stations_flags z blocks copies held dirty sides f zero = refl
stations_flags z blocks copies held dirty sides f (suc n) =
    ap (λ t. t ++ station_if_text z (lent [] [] held dirty) sides n f)
    (stations_flags z blocks copies held dirty sides f n)

-- one number more
pub times_next :
    (counts : List ℕ) (k : ℕ) → times_text counts (k + 1) ≡ times_text counts k ++ refused_text k (times_refused counts k)
unfolding times_text
times_next counts k = rw (add-one k)

-- the files below k, from the parts of the service and the ledger that they look at
unfoldable pub files_from : Sizes → List Entry → List Sides → List Bool → List Bool → List ℕ → ℕ → List ℕ
files_from z entries clients held dirty since zero = []
files_from z entries clients held dirty since (suc k) =
    files_from z entries clients held dirty since k
    ++ file_if_text z (lent [] [] held dirty) (sides_in clients k) (entry_of entries k) k (get_or since k 0)

pub files_next :
    (z : Sizes) (entries : List Entry) (clients : List Sides) (held dirty : List Bool) (since : List ℕ) (k : ℕ)
    → files_from z entries clients held dirty since (k + 1)
    ≡ files_from z entries clients held dirty since k
    ++ file_if_text z (lent [] [] held dirty) (sides_in clients k) (entry_of entries k) k (get_or since k 0)
unfolding files_from
files_next z entries clients held dirty since k = rw (add-one k)

-- they are those of the whole
module _ (t : Annotated) where
  abbrev from : ℕ → List ℕ
  from k =
      let s = t.service in
      files_from (sizes_of s) (table_in s).files s.clients s.held s.dirty t.ledger.since k

  files_from_lem : (k : ℕ) → from k ≡ files_text t k
  unfolding files_from files_text
  files_from_lem zero = refl
  files_from_lem (suc k) =
      let s = t.service in
      let z = sizes_of s in
      let e = entry_at s k in
      let sides = sides_at s k in
      let since = waiting_since t.ledger k in
      let a = lent [] [] s.held s.dirty in
      ap (λ text. text ++ file_if_text z a sides e k since) (files_from_lem k)
      ∙ ap
      (λ text.
      files_text t k
      ++ cond (is_pictured z a sides e k)
      (head_text z.clients e k ++ (text ++ wait_if_text z.clients e k since))
      [])
      (sym (stations_flags z s.server.blocks s.copies s.held s.dirty sides k z.clients))

  pub files_all :
      (z : Sizes) (k : ℕ)
      → z ≡ sizes_of t.service
      → k ≡ z.files
      → let s = t.service in
      files_from z (table_in s).files s.clients s.held s.dirty t.ledger.since k
      ≡ files_text t (sizes_of s).files
  files_all z k is all =
      let s = t.service in
      ap (λ x. files_from x (table_in s).files s.clients s.held s.dirty t.ledger.since k) is
      ∙ files_from_lem k
      ∙ ap (files_text t) (all ∙ ap (λ x. x.files) is)

-- ---- the stations under embargo

-- where a copy stands, from where those of its file begin
pub flag_there :
    (i f base b : ℕ) (flags : List Bool)
    → i < max_clients
    → f < max_files
    → base ≡ first_cell (i % max_clients) (f % max_files)
    → get_or flags (base + b) false ≡ dirty_in (lent [] [] [] flags) i f b
flag_there i f base b flags hi hf is = ap (λ k. get_or flags (k + b) false) (first i f base hi hf is)

pub line_there :
    (i f base b : ℕ) (copied : List ℕ)
    → i < max_clients
    → f < max_files
    → base ≡ first_cell (i % max_clients) (f % max_files)
    → get_or copied (base + b) 0 ≡ copied_at (entered [] [] copied []) i f b
line_there i f base b copied hi hf is = ap (λ k. get_or copied (k + b) 0) (first i f base hi hf is)

-- the clients below n, from the parts of the service and the ledger that they look at
unfoldable pub asides_from : Sizes → List Bool → List Bool → List ℕ → List ℕ → ℕ → List ℕ
asides_from z embargoed dirty copied since zero = []
asides_from z embargoed dirty copied since (suc n) =
    asides_from z embargoed dirty copied since n
    ++ aside_if_text (get_or embargoed n false) z (lent [] [] [] dirty) (entered [] [] copied []) n
    (get_or since (max_files + n) 0)

pub asides_next :
    (z : Sizes) (embargoed dirty : List Bool) (copied since : List ℕ) (n : ℕ)
    → asides_from z embargoed dirty copied since (n + 1)
    ≡ asides_from z embargoed dirty copied since n
    ++ aside_if_text (get_or embargoed n false) z (lent [] [] [] dirty) (entered [] [] copied []) n
    (get_or since (max_files + n) 0)
unfolding asides_from
asides_next z embargoed dirty copied since n = rw (add-one n)

-- they are those of the whole
module _ (t : Annotated) where
  abbrev asides : ℕ → List ℕ
  asides n =
      let s = t.service in
      asides_from (sizes_of s) (table_in s).embargoed s.dirty t.ledger.copied t.ledger.since n

  asides_from_lem : (n : ℕ) → asides n ≡ asides_text t n
  unfolding asides_from asides_text
  asides_from_lem zero = refl
  asides_from_lem (suc n) =
      let s = t.service in
      ap
      (λ text.
      text
      ++ aside_if_text (embargoed_at s n) (sizes_of s) (stores_of s) t.ledger n (embargoed_since t.ledger n))
      (asides_from_lem n)

  pub asides_all :
      (z : Sizes) (n : ℕ)
      → z ≡ sizes_of t.service
      → n ≡ z.clients
      → let s = t.service in
      asides_from z (table_in s).embargoed s.dirty t.ledger.copied t.ledger.since n
      ≡ asides_text t (sizes_of s).clients
  asides_all z n is all =
      let s = t.service in
      ap (λ x. asides_from x (table_in s).embargoed s.dirty t.ledger.copied t.ledger.since n) is
      ∙ asides_from_lem n
      ∙ ap (asides_text t) (all ∙ ap (λ x. x.clients) is)

-- A row stored whole: the head and the callbacks, and then a record and a side for each client. Assumes nothing.
use Prim.Native.Nat.{ℕ, ◌+◌, ◌*◌, ◌<◌, ◌≤◌}
use mathlib.Core.Path.{◌≡◌, refl, sym, ap, ◌∙◌}
use mathlib.Core.List.{List}
use mathlib.Core.Logic.{◌≢◌, ⊎_elim}
use native.Mathlib.Nat.{eq-or-lt_of_le, le_of_suc-le-suc}
use native.Mathlib.Numerals.{add-one}
use native.Mathlib.Omega.{arith}
use lib.ListN.{length, get_or, set, length-set}
use lib.Seq.{ext_get_or}
use Rattle.records.specs.declared.record.ClientRecord.{ClientRecord}
use Rattle.records.specs.Record.{not_open}
use Rattle.sizes.specs.Sizes.{max_clients, max_files}
use Rattle.protocol.specs.declared.client.ClientFile.{ClientFile}
use Rattle.protocol.specs.Client.{no_client}
use Rattle.protocol.specs.declared.shared.SharedFile.{SharedFile}
use Rattle.words.specs.Words.{record_held, side_held, calls_held, Head}
use Rattle.words.specs.Rows.{listed, row_words, table_words, word_at, head_at, Puts}
use Rattle.words.proofs.Listing.{length_listed, get_d_listed}
use Rattle.words.proofs.Places.{stored_there, stored_beside, stored_elsewhere}

-- i records and sides of row f are stored; the head, the callbacks and the other rows are as in t₀
pub record Filled (f : ℕ) (records : List ClientRecord) (sides : List ClientFile) (t₀ t : List ℕ) (i : ℕ) : Type 0 where
  pub passed : i ≤ max_clients
  pub long : length t ≡ length t₀
  pub head : head_at t f ≡ head_at t₀ f
  pub calls : word_at t f 18 ≡ word_at t₀ f 18
  pub known : (j : ℕ) → j < i → record_held (word_at t f (2 + j)) ≡ get_or records j not_open
  pub side : (j : ℕ) → j < i → side_held (word_at t f (10 + j)) ≡ get_or sides j no_client
  pub others : (g j : ℕ) → g ≢ f → j < row_words → word_at t g j ≡ word_at t₀ g j

module _ {f : ℕ} {records : List ClientRecord} {sides : List ClientFile} {t₀ : List ℕ} where
  pub filled_none : Filled f records sides t₀ t₀ 0
  filled_none =
      record {
        passed = omega arith;
        long = refl;
        head = refl;
        calls = refl;
        known = λ j h. absurd (omega arith);
        side = λ j h. absurd (omega arith);
        others = λ g j off h. refl;
      }

  pub filled_more :
      {t : List ℕ} {i : ℕ} (r s : ℕ)
      → f < max_files
      → length t₀ ≡ table_words
      → Filled f records sides t₀ t i
      → i < max_clients
      → record_held r ≡ get_or records i not_open
      → side_held s ≡ get_or sides i no_client
      → Filled f records sides t₀ (set (set t (f * row_words + (2 + i)) r) (f * row_words + (10 + i)) s) (i + 1)
  filled_more {t} {i} r s there size c more known side =
      let one = set t (f * row_words + (2 + i)) r in
      let two = set one (f * row_words + (10 + i)) s in
      let long₁ : length one ≡ length t = length-set t (f * row_words + (2 + i)) r in
      let long₂ : length two ≡ length one = length-set one (f * row_words + (10 + i)) s in
      let beside : (j : ℕ) → j ≢ 2 + i → j ≢ 10 + i → word_at two f j ≡ word_at t f j =
      λ j a b. stored_beside one f (10 + i) s j b ∙ stored_beside t f (2 + i) r j a in
      record {
        passed = omega arith;
        long = long₂ ∙ long₁ ∙ c.long;
        head = beside 1 (λ e. omega arith) (λ e. omega arith) ∙ c.head;
        calls = beside 18 (λ e. omega arith) (λ e. omega arith) ∙ c.calls;
        known =
            λ j h.
            ⊎_elim
            (λ (e : j ≡ i).
            rw e
            (ap record_held
            (stored_beside one f (10 + i) s (2 + i) (λ e. omega arith)
            ∙ stored_there t f (2 + i) r (omega (arith, c.long)))
            ∙ known))
            (λ (less : j < i). ap record_held (beside (2 + j) (λ e. omega arith) (λ e. omega arith)) ∙ c.known j less)
            (eq-or-lt_of_le (le_of_suc-le-suc (rw add-one at h)));
        side =
            λ j h.
            ⊎_elim
            (λ (e : j ≡ i). rw e (ap side_held (stored_there one f (10 + i) s (omega (arith, c.long))) ∙ side))
            (λ (less : j < i). ap side_held (beside (10 + j) (λ e. omega arith) (λ e. omega arith)) ∙ c.side j less)
            (eq-or-lt_of_le (le_of_suc-le-suc (rw add-one at h)));
        others =
            λ g j off h.
            stored_elsewhere one f (10 + i) s g j (omega arith) h off
            ∙ stored_elsewhere t f (2 + i) r g j (omega arith) h off
            ∙ c.others g j off h;
      }

-- the whole row: the head h and the callbacks k stored into t₀, and then the rest
pub filled_puts :
    (x : SharedFile) (t₀ t : List ℕ) (f i h k : ℕ)
    → (let t₁ = set (set t₀ (f * row_words + 1) h) (f * row_words + 18) k in
    f < max_files
    → length t₀ ≡ table_words
    → length x.entry.records ≡ max_clients
    → length x.sides.of ≡ max_clients
    → Head h x.entry.version x.entry.last x.entry.waiter x.entry.mode
    → calls_held k ≡ x.entry.calls
    → Filled f x.entry.records x.sides.of t₁ t i
    → max_clients ≤ i
    → Puts f x t₀ t)
filled_puts x t₀ t f i h k there size records sides head calls c past =
    let one = set t₀ (f * row_words + 1) h in
    let two = set one (f * row_words + 18) k in
    let long₁ : length one ≡ length t₀ = length-set t₀ (f * row_words + 1) h in
    let long₂ : length two ≡ length one = length-set one (f * row_words + 18) k in
    let headed : head_at t f ≡ h =
    c.head ∙ stored_beside one f 18 k 1 (λ e. omega arith) ∙ stored_there t₀ f 1 h (omega arith) in
    let called : word_at t f 18 ≡ k = c.calls ∙ stored_there one f 18 k (omega arith) in
    let known : listed max_clients (λ j. record_held (word_at t f (2 + j))) ≡ x.entry.records =
    ext_get_or not_open _ _ (length_listed max_clients _ ∙ sym records)
    (λ j lt.
    let below : j < max_clients = omega (arith, lt, length_listed max_clients (λ j. record_held (word_at t f (2 + j)))) in
    get_d_listed max_clients (λ j. record_held (word_at t f (2 + j))) not_open j below ∙ c.known j (omega arith)) in
    let sided : listed max_clients (λ j. side_held (word_at t f (10 + j))) ≡ x.sides.of =
    ext_get_or no_client _ _ (length_listed max_clients _ ∙ sym sides)
    (λ j lt.
    let below : j < max_clients = omega (arith, lt, length_listed max_clients (λ j. side_held (word_at t f (10 + j)))) in
    get_d_listed max_clients (λ j. side_held (word_at t f (10 + j))) no_client j below ∙ c.side j (omega arith)) in
    record {
      long = c.long ∙ long₂ ∙ long₁;
      here = rw (headed, called, known, sided, head.version, head.last, head.waiter, head.mode, calls);
      beside =
          λ g j off lt.
          c.others g j off lt
          ∙ stored_elsewhere one f 18 k g j (omega arith) lt off
          ∙ stored_elsewhere t₀ f 1 h g j (omega arith) lt off;
    }

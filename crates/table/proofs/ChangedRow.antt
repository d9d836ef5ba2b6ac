-- A row after a crash: its records cleared, its head and its callbacks stored; and after a report: the client's record and
-- the head. Assumes nothing.
use Prim.Native.Nat.{ℕ, ◌+◌, ◌*◌, ◌<◌, ◌≤◌}
use mathlib.Core.Path.{◌≡◌, refl, sym, ap, ◌∙◌, subst, subst⁻¹}
use mathlib.Core.Bool.{Bool, true, false, cond}
use mathlib.Core.List.{List}
use mathlib.Core.Logic.{◌≢◌}
use native.Mathlib.Omega.{arith}
use lib.Dec.{leb}
use lib.ListN.{length, set, length-set}
use lib.Seq.{ext_get_or, set-get_or}
use borrow.Author.Tests.{leb-true, leb-false}
use Rattle.sizes.proofs.Choosing.{split}
use Rattle.sizes.specs.Sizes.{max_clients, max_files, nobody}
use Rattle.records.specs.declared.record.Mode.TheVariants.{Read}
use Rattle.records.specs.declared.version.Version.{Version}
use Rattle.records.specs.Record.{not_open}
use Rattle.decision.specs.Lists.{filled}
use Rattle.decision.proofs.Storing.{length_stored, get_d_stored, get_d_stored_other}
use Rattle.protocol.specs.declared.entry.Entry.{Entry}
use Rattle.protocol.specs.declared.shared.SharedFile.{SharedFile}
use Rattle.protocol.specs.Entry.{crashed_entry, reported_entry}
use Rattle.words.specs.Words.{record_held, side_held, version_held, last_held, waiter_held, mode_held, calls_held, Head}
use Rattle.words.specs.Rows.{listed, row_words, table_words, word_at, head_at, entry_held}
use Rattle.words.proofs.Changing.{stored_three, reported_held_lem}
use Rattle.words.proofs.Listing.{length_listed, get_d_listed}
use Rattle.words.proofs.Places.{stored_there, stored_beside, stored_elsewhere}
use Rattle.table.specs.Swept.{Cleared, PutsEntry}

-- a list by place of which the first n are alike
pub listed_filled {ℓ} :
    {A : Type ℓ} (d a : A) (m n : ℕ) (g h : ℕ → A)
    → n ≤ m
    → ((j : ℕ) → j < n → h j ≡ a)
    → ((j : ℕ) → n ≤ j → j < m → h j ≡ g j)
    → listed m h ≡ filled n a (listed m g)
listed_filled {A} d a m n g h fits low high =
    let l = listed m h in
    let l₀ = listed m g in
    let long : length l ≡ m = length_listed m h in
    let long₀ : length l₀ ≡ m = length_listed m g in
    ext_get_or d l (filled n a l₀) (long ∙ sym (length_stored n (λ i. i) (λ i. a) l₀ ∙ long₀))
    (λ j lt.
    let below : j < m = omega (arith, lt, long) in
    get_d_listed m h d j below
    ∙ split (leb n j)
    (λ past.
    high j (leb-true n j past) below
    ∙ sym
    (get_d_stored_other n (λ i. i) (λ i. a) l₀ d j (λ k less e. omega (arith, less, e, leb-true n j past))
    ∙ get_d_listed m g d j below))
    (λ inside.
    let less : j < n = leb-false n j inside in
    low j less ∙ sym (get_d_stored n (λ i. i) (λ i. a) l₀ d j less (omega (arith, below, long₀)) (λ k p q e. omega (arith, p, e)))))

pub crashed_puts :
    (t₀ t : List ℕ) (f n h k : ℕ) (v : Version)
    → n ≤ max_clients
    → f < max_files
    → length t₀ ≡ table_words
    → Cleared f t₀ t n
    → v ≡ version_held (head_at t f)
    → Head h v nobody nobody Read
    → calls_held k ≡ filled n 0 (calls_held (word_at t f 18))
    → PutsEntry f (crashed_entry n (entry_held t₀ f)) t₀ (set (set t (f * row_words + 1) h) (f * row_words + 18) k)
crashed_puts t₀ t f n h k v fits there size c is head calls =
    let one = set t (f * row_words + 1) h in
    let two = set one (f * row_words + 18) k in
    let long₁ : length one ≡ length t = length-set t (f * row_words + 1) h in
    let long₂ : length two ≡ length one = length-set one (f * row_words + 18) k in
    let word : (j : ℕ) → j ≢ 1 → j ≢ 18 → word_at two f j ≡ word_at t f j =
    λ j a b. stored_beside one f 18 k j b ∙ stored_beside t f 1 h j a in
    let headed : head_at two f ≡ h =
    stored_beside one f 18 k 1 (λ e. omega arith) ∙ stored_there t f 1 h (omega (arith, c.long)) in
    let called : word_at two f 18 ≡ k = stored_there one f 18 k (omega (arith, c.long)) in
    let known : listed max_clients (λ j. record_held (word_at two f (2 + j))) ≡ filled n not_open (listed max_clients (λ j. record_held (word_at t₀ f (2 + j)))) =
    listed_filled not_open not_open max_clients n (λ j. record_held (word_at t₀ f (2 + j))) (λ j. record_held (word_at two f (2 + j))) fits
    (λ j lt. ap record_held (word (2 + j) (λ e. omega arith) (λ e. omega arith) ∙ c.cleared j lt))
    (λ j le lt. ap record_held (word (2 + j) (λ e. omega arith) (λ e. omega arith) ∙ c.past (2 + j) (omega arith))) in
    let version : version_held h ≡ version_held (head_at t₀ f) = head.version ∙ is ∙ ap version_held c.head in
    let cleared : calls_held k ≡ filled n 0 (calls_held (word_at t₀ f 18)) = calls ∙ ap (λ w. filled n 0 (calls_held w)) (c.past 18 (omega arith)) in
    record {
      long = long₂ ∙ long₁ ∙ c.long;
      entry = rw (headed, called, known, version, head.last, head.waiter, head.mode, cleared);
      sides = λ j le lt. word j (λ e. omega arith) (λ e. omega arith) ∙ c.past j (omega arith);
      beside =
          λ g j off lt.
          stored_elsewhere one f 18 k g j (omega arith) lt off
          ∙ stored_elsewhere t f 1 h g j (omega arith) lt off
          ∙ c.beside g j off lt;
    }

-- a report stores the record and the head; the side stands there as it came
pub reported_puts :
    (t : List ℕ) (f i r h : ℕ)
    → i < max_clients
    → f < max_files
    → length t ≡ table_words
    → record_held r ≡ record_held (word_at t f (10 + i))
    → Head h (version_held (head_at t f))
    (cond (side_held (word_at t f (10 + i))).marked i (last_held (head_at t f)))
    (waiter_held (head_at t f))
    (mode_held (head_at t f))
    → PutsEntry f (reported_entry (entry_held t f) i (side_held (word_at t f (10 + i)))) t
    (set (set t (f * row_words + (2 + i)) r) (f * row_words + 1) h)
reported_puts t f i r h client there size known head =
    let fits : f * row_words + row_words ≤ length t = omega arith in
    let one = set t (f * row_words + (2 + i)) r in
    let two = set one (f * row_words + 1) h in
    let word : (j : ℕ) → j ≢ 1 → j ≢ 2 + i → word_at two f j ≡ word_at t f j =
    λ j a b. stored_beside one f 1 h j a ∙ stored_beside t f (2 + i) r j b in
    let side : word_at two f (10 + i) ≡ word_at t f (10 + i) = word (10 + i) (λ e. omega arith) (λ e. omega arith) in
    let same : stored_three t f i r h (word_at two f (10 + i)) ≡ two = set-get_or two (f * row_words + (10 + i)) 0 in
    record {
      long = simp length-set;
      entry =
          ap (λ (l : List ℕ). entry_held l f) (sym same)
          ∙ ap (λ (x : SharedFile). x.entry)
          (reported_held_lem t f i r h (word_at two f (10 + i)) client fits known head (ap side_held side));
      sides = λ j le lt. word j (λ e. omega arith) (λ e. omega arith);
      beside =
          λ g j off lt.
          stored_elsewhere one f 1 h g j (omega arith) lt off ∙ stored_elsewhere t f (2 + i) r g j (omega arith) lt off;
    }

-- without the flag the head stays
pub reported_unmarked :
    (t : List ℕ) (f i r : ℕ)
    → i < max_clients
    → f < max_files
    → length t ≡ table_words
    → record_held r ≡ record_held (word_at t f (10 + i))
    → (side_held (word_at t f (10 + i))).marked ≡ false
    → PutsEntry f (reported_entry (entry_held t f) i (side_held (word_at t f (10 + i)))) t (set t (f * row_words + (2 + i)) r)
reported_unmarked t f i r client there size known unmarked =
    let one = set t (f * row_words + (2 + i)) r in
    let e : Entry = reported_entry (entry_held t f) i (side_held (word_at t f (10 + i))) in
    let head : Head (head_at t f) (version_held (head_at t f))
    (cond (side_held (word_at t f (10 + i))).marked i (last_held (head_at t f)))
    (waiter_held (head_at t f))
    (mode_held (head_at t f)) =
    rw unmarked (record { version = refl; last = refl; waiter = refl; mode = refl }) in
    let same : head_at t f ≡ head_at one f = sym (stored_beside t f (2 + i) r 1 (λ e. omega arith)) in
    subst (λ (l : List ℕ). PutsEntry f e t l)
    (ap (λ h. set one (f * row_words + 1) h) same ∙ set-get_or one (f * row_words + 1) 0)
    (reported_puts t f i r (head_at t f) client there size known head)

-- with it the client is the last writer; the head is read once the record is stored
pub reported_marked :
    (t : List ℕ) (f i r h : ℕ)
    → i < max_clients
    → f < max_files
    → length t ≡ table_words
    → record_held r ≡ record_held (word_at t f (10 + i))
    → (side_held (word_at t f (10 + i))).marked ≡ true
    → (let one = set t (f * row_words + (2 + i)) r in
    Head h (version_held (head_at one f)) i (waiter_held (head_at one f)) (mode_held (head_at one f)))
    → PutsEntry f (reported_entry (entry_held t f) i (side_held (word_at t f (10 + i)))) t
    (set (set t (f * row_words + (2 + i)) r) (f * row_words + 1) h)
reported_marked t f i r h client there size known marked head =
    let same : head_at (set t (f * row_words + (2 + i)) r) f ≡ head_at t f = stored_beside t f (2 + i) r 1 (λ e. omega arith) in
    let before : Head h (version_held (head_at t f)) i (waiter_held (head_at t f)) (mode_held (head_at t f)) =
    subst (λ w. Head h (version_held w) i (waiter_held w) (mode_held w)) same head in
    reported_puts t f i r h client there size known
    (subst⁻¹
    (λ (b : Bool). Head h (version_held (head_at t f)) (cond b i (last_held (head_at t f))) (waiter_held (head_at t f)) (mode_held (head_at t f)))
    marked before)

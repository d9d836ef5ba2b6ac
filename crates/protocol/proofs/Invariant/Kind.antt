-- What a client is called for, by the counts that name the file's state and the client's own record: the facts of the
-- table of calls that WS needs. It leads to the callbacks that an open is due. Assumes nothing.
use Prim.Native.Nat.{ℕ, ◌<◌, ◌≤◌}
use mathlib.Core.Path.{◌≡◌, refl, sym, ◌∙◌, ap₂}
use mathlib.Core.Bool.{Bool, true, false, cond, ◌&&◌, ◌||◌}
use mathlib.Core.Logic.{◌⊎◌, inl, inr}
use native.Mathlib.Omega.{arith}
use lib.Dec.{eqb, ltb, leb}
use borrow.Author.Tests.{eq-eqb, ne_eqb, lt-ltb, le-ltb, lt-leb, leb-false}
use Rattle.records.specs.declared.record.Mode.{Mode}
use Rattle.records.specs.declared.record.Mode.TheVariants.{Read, Write}
use Rattle.records.specs.declared.record.ClientRecord.{ClientRecord}
use Rattle.decision.specs.declared.state.FileState.{FileState}
use Rattle.decision.specs.declared.state.FileState.TheVariants.{Closed, ClosedDirty, OneReader, OneReaderDirty, MultReaders, OneWriter, WriteShared}
use Rattle.decision.specs.declared.state.Property.TheVariants.{Open, Uncached, Writing}
use Rattle.records.specs.Record.{is_open}
use Rattle.decision.specs.State.{tally, state_of}
use Rattle.decision.specs.Callback.{callback_kind, writes_back, invalidates}
use Rattle.protocol.specs.Entry.{kind_of}
use Rattle.protocol.proofs.Invariant.Flags.{conflict, split, cases}

module _ (n : ℕ) (r : ℕ → ClientRecord) (last t : ℕ) where
  abbrev pub kind : Mode → ℕ
  kind mode = callback_kind (state_of n r last) mode (r t) (eqb t last)

  -- the last writer of a closed file is called to write back
  pub closed_sends : (mode : Mode) → tally n r Open ≡ 0 → last < n → eqb t last ≡ true → writes_back (kind mode) ≡ true
  unfolding state_of
  closed_sends mode none below same =
      let closed = eq-eqb (tally n r Open) 0 none in
      let dirty = lt-leb n last below in
      elim mode as (λ k. writes_back (kind k) ≡ true) [ Read ↦ simp (closed, dirty, same) | Write ↦ simp (closed, dirty, same) ]

  -- and so is the last writer that alone has it open, for reading
  pub reader_sends :
      (mode : Mode)
      → tally n r Open ≡ 1
      → tally n r Uncached ≡ 0
      → tally n r Writing ≡ 0
      → last < n
      → is_open (r last) ≡ true
      → eqb t last ≡ true
      → writes_back (kind mode) ≡ true
  unfolding state_of
  reader_sends mode one all-cache unwritten below o same =
      let opened = ne_eqb (tally n r Open) 0 (omega arith) in
      let single = eq-eqb (tally n r Open) 1 one in
      let unshared = le-ltb 0 (tally n r Uncached) (omega arith) in
      let reading = le-ltb 0 (tally n r Writing) (omega arith) in
      let dirty = lt-ltb last n below in
      elim mode as (λ k. writes_back (kind k) ≡ true) [
        | Read ↦ simp (opened, single, unshared, reading, dirty, o, same)
        | Write ↦ simp (opened, single, unshared, reading, dirty, o, same)
      ]

  -- the one that alone has it open, with writers and permission, is called for both
  pub writer_both :
      (mode : Mode)
      → tally n r Open ≡ 1
      → tally n r Uncached ≡ 0
      → 0 < tally n r Writing
      → is_open (r t) ≡ true
      → kind mode ≡ 3
  unfolding state_of
  writer_both mode one all-cache some o =
      let opened = ne_eqb (tally n r Open) 0 (omega arith) in
      let single = eq-eqb (tally n r Open) 1 one in
      let unshared = le-ltb 0 (tally n r Uncached) (omega arith) in
      let written = lt-ltb 0 (tally n r Writing) some in
      simp (opened, single, unshared, written, o)

  -- at a write open, one that may cache is called to invalidate, whatever the state
  pub caching_drops :
      0 < tally n r Open
      → is_open (r t) ≡ true
      → (r t).caching ≡ true
      → (eqb (tally n r Open) 1 ≡ true → (ltb last n && is_open (r last)) ≡ true → eqb t last ≡ true)
      → invalidates (kind Write) ≡ true
  unfolding state_of
  caching_drops some o p single-is =
      let opened = ne_eqb (tally n r Open) 0 (omega arith) in
      split (ltb 0 (tally n r Uncached)) (λ shared. simp (opened, shared, o, p))
      (λ unshared. split (eqb (tally n r Open) 1)
      (λ single. split (ltb 0 (tally n r Writing)) (λ written. simp (opened, unshared, single, written, o))
      (λ reading. split (ltb last n && is_open (r last))
      (λ dirty. let same = single-is single dirty in simp (opened, unshared, single, reading, dirty, same))
      (λ clean. simp (opened, unshared, single, reading, clean, o))))
      (λ many. simp (opened, unshared, many, o)))

-- Only a client that is open or the last writer is called to write back.
unsent :
    (state : FileState) (mode : Mode) (r : ClientRecord) (is_last : Bool)
    → is_open r ≡ false
    → is_last ≡ false
    → writes_back (callback_kind state mode r is_last) ≡ false
unsent Closed mode r is_last o l = cc
unsent ClosedDirty Read r is_last o l = cc
unsent ClosedDirty Write r is_last o l = cc
unsent OneReader Read r is_last o l = cc
unsent OneReader Write r is_last o l = cc
unsent OneReaderDirty Read r is_last o l = cc
unsent OneReaderDirty Write r is_last o l = cc
unsent MultReaders Read r is_last o l = cc
unsent MultReaders Write r is_last o l = cc
unsent OneWriter mode r is_last o l = cc
unsent WriteShared mode r is_last o l = cc

pub sends_whom :
    (state : FileState) (mode : Mode) (r : ClientRecord) (is_last : Bool)
    → writes_back (callback_kind state mode r is_last) ≡ true
    → (is_open r ≡ true) ⊎ (is_last ≡ true)
sends_whom state mode r is_last e =
    split (is_open r) (λ o. inl o)
    (λ o. split is_last (λ l. inr l) (λ l. absurd (conflict e (unsent state mode r is_last o l))))

-- A number that is no kind neither writes back nor invalidates, and reads as none, which does neither.
same_kind : (x k : ℕ) → 0 < k → k ≤ 3 → eqb (kind_of x) k ≡ eqb x k
same_kind x k some small =
    cases (λ b. eqb (cond b x 0) k ≡ eqb x k) (leb x 3) (λ _. refl)
    (λ e. let large = leb-false x 3 e in
    ne_eqb 0 k (omega arith) ∙ sym (ne_eqb x k (omega arith)))

pub same_sends : (x : ℕ) → writes_back (kind_of x) ≡ writes_back x
same_sends x = ap₂ ◌||◌ (same_kind x 1 (omega arith) (omega arith)) (same_kind x 3 (omega arith) (omega arith))

pub same_drops : (x : ℕ) → invalidates (kind_of x) ≡ invalidates x
same_drops x = ap₂ ◌||◌ (same_kind x 2 (omega arith) (omega arith)) (same_kind x 3 (omega arith) (omega arith))

-- Looking for a clash in the lent arrays: a side of which the low half is 0 says nothing, so that the files between two at
-- which the loop looks have no clash. Assumes nothing.
use Prim.Native.Nat.{ℕ, ◌+◌, ◌*◌, ◌/◌, ◌%◌, ◌≤◌, ◌<◌}
use mathlib.Core.Path.{◌≡◌, refl, sym, ap, ap₂, ◌∙◌}
use mathlib.Core.Bool.{Bool, true, false, cond, not, ◌&&◌, ◌||◌}
use mathlib.Core.List.{List}
use native.Mathlib.Nat.{mod-eq_of_lt}
use native.Mathlib.Omega.{arith}
use lib.Dec.{eqb, leb, ltb}
use lib.ListN.{get_or}
use lib.Seq.{get_or-take}
use borrow.Author.Tests.{eqb-true, eqb-false, ltb-true, ltb-false, leb-false, ne_eqb, eq-eqb}
use Rattle.sizes.specs.declared.sizes.Sizes.{Sizes}
use Rattle.sizes.specs.Sizes.{max_clients, max_files, Permitted}
use Rattle.sizes.proofs.Choosing.{split, conflict}
use Rattle.decision.specs.Lists.{first_of}
use Rattle.decision.proofs.Finding.{NoneBelow, first_agree}
use Rattle.protocol.specs.declared.client.ClientFile.{ClientFile}
use Rattle.protocol.specs.declared.client.Sides.{Sides}
use Rattle.protocol.specs.declared.entry.Entry.{Entry}
use Rattle.protocol.specs.declared.reply.Reply.TheVariants.{Refused}
use Rattle.protocol.specs.declared.step.Step.TheVariants.{Report}
use Rattle.protocol.specs.Client.{no_client, side_of}
use Rattle.protocol.specs.Clash.{says_anything, clash, accepted_of, clashes_with, clashes_on}
use Rattle.protocol.specs.Refusal.{Test}
use Rattle.protocol.proofs.Tested.{client_there, when_refused, when_accepted}
use Rattle.table.specs.Clash.{clash_file}
use Rattle.table.specs.TableStep.{no_entry, no_sides, entry_in, sides_in, is_reported, is_embargoed, report_tests}
use Rattle.table.specs.Recovery.{kept, recovery_step}
use Rattle.words.specs.Words.{side_held}
use Rattle.words.specs.Rows.{listed, row_words, word_at, entry_held, sides_held}
use Rattle.words.proofs.Changing.{side_held_lem}
use Rattle.words.proofs.Listing.{get_d_listed}
use Rattle.service.specs.Lent.{recovering_held, reported_held, embargoed_held, table_held}
use Rattle.service.specs.Served.{Silent}
use Rattle.service.proofs.LentFlags.{flag_embargoed}
use Rattle.service.proofs.Serving.{clash_held, recovery_held, heard}

-- the four parts of a word of which the low half is 0
first : (w : ℕ) → w % 4294967296 ≡ 0 → w % 256 ≡ 0
first w h = omega arith

second : (w : ℕ) → w % 4294967296 ≡ 0 → w / 256 % 256 ≡ 0
second w h = omega arith

third : (w : ℕ) → w % 4294967296 ≡ 0 → w / 65536 % 256 ≡ 0
third w h = omega arith

fourth : (w : ℕ) → w % 4294967296 ≡ 0 → w / 16777216 % 256 ≡ 0
fourth w h = omega arith

silent_side : (w : ℕ) → w % 4294967296 ≡ 0 → says_anything (side_held w) ≡ false
silent_side w h = rw (first w h, second w h, third w h, fourth w h)

-- the words that say nothing: none, one more, and four more
pub silent_none : (i from : ℕ) (t : List ℕ) → Silent i from from t
silent_none i from t f low high = absurd (omega (arith, low, high))

pub silent_next :
    (i from to : ℕ) (t : List ℕ)
    → Silent i from to t
    → word_at t to (10 + i) % 4294967296 ≡ 0
    → Silent i from (to + 1) t
silent_next i from to t silent here f low high =
    split (eqb f to)
    (λ e. rw (eqb-true f to e) here)
    (λ off. silent f low (omega (arith, high, eqb-false f to off)))

pub silent_four :
    (i from to : ℕ) (t : List ℕ)
    → Silent i from to t
    → get_or t (to * row_words + (10 + i)) 0 % 4294967296
    + get_or t (to * row_words + (10 + i) + 24) 0 % 4294967296
    + get_or t (to * row_words + (10 + i) + 48) 0 % 4294967296
    + get_or t (to * row_words + (10 + i) + 72) 0 % 4294967296
    ≡ 0
    → Silent i from (to + 4) t
silent_four i from to t silent sum f low high =
    split (ltb f to)
    (λ before. silent f low (ltb-true f to before))
    (λ past.
    let from-to : to ≤ f = ltb-false f to past in
    let base : ℕ = to * row_words + (10 + i) in
    split (eqb f to)
    (λ e. word base (omega (arith, eqb-true f to e)) (omega (arith, sum)))
    (λ e₀.
    split (eqb f (to + 1))
    (λ e. word (base + 24) (omega (arith, eqb-true f (to + 1) e)) (omega (arith, sum)))
    (λ e₁.
    split (eqb f (to + 2))
    (λ e. word (base + 48) (omega (arith, eqb-true f (to + 2) e)) (omega (arith, sum)))
    (λ e₂.
    word (base + 72)
    (omega (arith, high, from-to, eqb-false f to e₀, eqb-false f (to + 1) e₁, eqb-false f (to + 2) e₂))
    (omega (arith, sum))))))
  where
    word : (p : ℕ) → f * row_words + (10 + i) ≡ p → get_or t p 0 % 4294967296 ≡ 0 → word_at t f (10 + i) % 4294967296 ≡ 0
    word p place zero = ap (λ p. get_or t p 0 % 4294967296) place ∙ zero

module _ (n i : ℕ) (accepted : ℕ → Bool) (t : List ℕ) where
  -- whether the client's side of a file clashes
  abbrev pub clashes_here : ℕ → Bool
  clashes_here f = clashes_on n accepted (entry_held t f) (side_held (word_at t f (10 + i)))

  silent_here : (f : ℕ) → word_at t f (10 + i) % 4294967296 ≡ 0 → clashes_here f ≡ false
  silent_here f h =
      ap
      (λ (b : Bool).
      b
      && (clash (side_held (word_at t f (10 + i))) no_client
      || ltb (clashes_with n accepted (entry_held t f) (side_held (word_at t f (10 + i)))) n))
      (silent_side (word_at t f (10 + i)) h)

  pub none_first : (to : ℕ) → Silent i 0 to t → NoneBelow to clashes_here
  none_first to silent f below = silent_here f (silent f (omega arith) below)

  pub none_on :
      (from to : ℕ) → NoneBelow from clashes_here → clashes_here from ≡ false → Silent i (from + 1) to t → NoneBelow to clashes_here
  none_on from to none here silent f below =
      split (ltb f from)
      (λ before. none f (ltb-true f from before))
      (λ past.
      split (eqb f from)
      (λ e. rw (eqb-true f from e) here)
      (λ off. silent_here f (silent f (omega (arith, ltb-false f from past, eqb-false f from off)) below)))

-- ---- the report in the arrays, and in the service that they hold

clashes_agree :
    (n : ℕ) (p q : ℕ → Bool) (e : Entry) (own : ClientFile)
    → ((j : ℕ) → j < n → p j ≡ q j)
    → clashes_on n p e own ≡ clashes_on n q e own
clashes_agree n p q e own same =
    ap (λ k. says_anything own && (clash own no_client || ltb k n))
    (first_agree n (λ j. p j && clash own (accepted_of e j)) (λ j. q j && clash own (accepted_of e j))
    (λ j below. ap (λ (b : Bool). b && clash own (accepted_of e j)) (same j below)))

module _ (sizes : Sizes) (most : Permitted sizes) (i : ℕ) (t : List ℕ) (flags : List Bool) where
  abbrev pub file_here : ℕ
  file_here =
      clash_file sizes (λ j. get_or flags j false) (entry_held t) (λ f. side_held (word_at t f (10 + i)))

  pub clash_held_lem : i < max_clients → ltb file_here sizes.files ≡ clash_held sizes t flags i
  clash_held_lem there =
      ap (λ k. ltb k sizes.files)
      (first_agree sizes.files
      (λ f. clashes_on sizes.clients (λ j. get_or flags j false) (entry_held t f) (side_held (word_at t f (10 + i))))
      (λ f.
      clashes_on sizes.clients (is_reported (reported_held flags)) (entry_in (table_held t flags) f)
      (side_of (sides_in (listed max_files (λ g. sides_held t g)) f) i))
      (λ f below.
      let file : f < max_files = omega (arith, below, most.files) in
      let entry : entry_in (table_held t flags) f ≡ entry_held t f = get_d_listed max_files (λ g. entry_held t g) no_entry f file in
      let side : side_of (sides_in (listed max_files (λ g. sides_held t g)) f) i ≡ side_held (word_at t f (10 + i)) =
      ap (λ (x : Sides). side_of x i) (get_d_listed max_files (λ g. sides_held t g) no_sides f file)
      ∙ side_held_lem t f i there in
      clashes_agree sizes.clients (λ j. get_or flags j false) (is_reported (reported_held flags)) (entry_held t f)
      (side_held (word_at t f (10 + i)))
      (λ j low. sym (get_or-take max_clients flags j false (omega (arith, low, most.clients))))
      ∙ ap₂ (λ (e : Entry) (own : ClientFile). clashes_on sizes.clients (is_reported (reported_held flags)) e own) (sym entry) (sym side)))

-- the tests of a report, by the flags at the client's wrapped place
module _ (sizes : Sizes) (most : Permitted sizes) (i : ℕ) (flags : List Bool) where
  abbrev wrapped : Bool → List Test
  wrapped meets =
      report_tests sizes (get_or flags (9 + i % max_clients) false) (get_or flags 8 false) (get_or flags (i % max_clients) false) meets i

  abbrev plain : Bool → List Test
  plain meets =
      report_tests sizes (is_embargoed (embargoed_held flags) i) (recovering_held flags) (is_reported (reported_held flags) i) meets i

  tests_wrapped : (meets : Bool) → first_of (wrapped meets) ≡ first_of (plain meets)
  tests_wrapped meets =
      split (leb sizes.clients i)
      (λ e. rw e)
      (λ e.
      let below : i < max_clients = omega (arith, leb-false sizes.clients i e, most.clients) in
      ap₂ (λ (x y : Bool). first_of (report_tests sizes x (recovering_held flags) y meets i))
      (ap (λ k. get_or flags (9 + k) false) (mod-eq_of_lt below) ∙ sym (flag_embargoed flags i below))
      (ap (λ k. get_or flags k false) (mod-eq_of_lt below) ∙ sym (get_or-take max_clients flags i false below)))

  -- with the last test, once the others were passed, and where one was not
  later :
      (a b d e meets : Bool)
      → eqb (cond a 2 (cond b 20 (cond d 6 (cond e 7 0)))) 0 ≡ false
      → ◌≡◌ {A = ℕ}
      (cond a 2 (cond b 20 (cond d 6 (cond e 7 0))))
      (cond a 2 (cond b 20 (cond d 6 (cond e 7 (cond meets 22 0)))))
  later true b d e meets h = refl
  later false true d e meets h = refl
  later false false true e meets h = refl
  later false false false true meets h = refl
  later false false false false meets h = conflict refl h

  last :
      (a b d e meets : Bool)
      → eqb (cond a 2 (cond b 20 (cond d 6 (cond e 7 0)))) 0 ≡ true
      → ◌≡◌ {A = ℕ} (cond meets 22 0) (cond a 2 (cond b 20 (cond d 6 (cond e 7 (cond meets 22 0)))))
  last true b d e meets h = conflict h refl
  last false true d e meets h = conflict h refl
  last false false true e meets h = conflict h refl
  last false false false true meets h = conflict h refl
  last false false false false meets h = refl

  -- the second test, where none holds
  unbarred : (a b : Bool) (rest : ℕ) → eqb (cond a 2 (cond b 20 rest)) 0 ≡ true → b ≡ false
  unbarred true b rest h = conflict h refl
  unbarred false true rest h = conflict h refl
  unbarred false false rest h = refl

  module _ (k : ℕ) (is : k ≡ first_of (wrapped false)) where
    number-later : (meets : Bool) → (k ≡ 0 → ⊥) → k ≡ first_of (plain meets)
    number-later meets h =
        is
        ∙ later (leb sizes.clients i) (get_or flags (9 + i % max_clients) false) (not (get_or flags 8 false))
        (get_or flags (i % max_clients) false) meets (ap (λ n. eqb n 0) (sym is) ∙ ne_eqb k 0 h)
        ∙ tests_wrapped meets

    number-last : (meets : Bool) → k ≡ 0 → cond meets 22 0 ≡ first_of (plain meets)
    number-last meets h =
        last (leb sizes.clients i) (get_or flags (9 + i % max_clients) false) (not (get_or flags 8 false))
        (get_or flags (i % max_clients) false) meets (ap (λ n. eqb n 0) (sym is) ∙ eq-eqb k 0 h)
        ∙ tests_wrapped meets

    pub reporter-there : k ≡ 0 → i < max_clients
    reporter-there h = omega (arith, client_there sizes i k _ is h, most.clients)

    pub reporter-below : k ≡ 0 → i < sizes.clients
    reporter-below h = client_there sizes i k _ is h

    -- and without embargo
    pub reporter-within : k ≡ 0 → get_or flags (max_clients + 1 + i) false ≡ false
    reporter-within h =
        ap (λ n. get_or flags (max_clients + 1 + n) false) (sym (mod-eq_of_lt (reporter-there h)))
        ∙ unbarred (leb sizes.clients i) (get_or flags (9 + i % max_clients) false) _ (ap (λ n. eqb n 0) (sym is) ∙ eq-eqb k 0 h)

    -- refused by one of the first four
    pub early-refused :
        (meets : Bool)
        → (k ≡ 0 → ⊥)
        → recovery_step sizes (recovery_held flags) meets (Report i) ≡ kept (recovery_held flags) (Refused k)
    unfolding recovery_step
    early-refused meets h =
        when_refused (plain meets) (λ n. kept (recovery_held flags) (Refused n)) (heard i flags) k (number-later meets h) h

    pub clash-refused :
        (meets : Bool)
        → k ≡ 0
        → meets ≡ true
        → recovery_step sizes (recovery_held flags) meets (Report i) ≡ kept (recovery_held flags) (Refused 22)
    unfolding recovery_step
    clash-refused meets h c =
        when_refused (plain meets) (λ n. kept (recovery_held flags) (Refused n)) (heard i flags) 22
        (ap (λ (b : Bool). cond b 22 0) (sym c) ∙ number-last meets h) (λ e. omega (arith, e))

    pub report-taken :
        (meets : Bool)
        → k ≡ 0
        → meets ≡ false
        → recovery_step sizes (recovery_held flags) meets (Report i) ≡ heard i flags
    unfolding recovery_step
    report-taken meets h c =
        when_accepted (plain meets) (λ n. kept (recovery_held flags) (Refused n)) (heard i flags) 0
        (ap (λ (b : Bool). cond b 22 0) (sym c) ∙ number-last meets h) refl

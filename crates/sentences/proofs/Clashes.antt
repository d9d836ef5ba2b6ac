-- What is said of a report that clashes looks at the clients and the files in force alone; and what the lent arrays have
-- of it. Assumes nothing.
use Prim.Native.Nat.{ℕ, ◌+◌, ◌≤◌, ◌<◌}
use mathlib.Core.Path.{◌≡◌, refl, sym, ap, subst⁻¹, ◌∙◌}
use mathlib.Core.Bool.{Bool, true, false, cond, ◌&&◌, ◌||◌}
use mathlib.Core.List.{List, []}
use native.Mathlib.Omega.{arith}
use lib.Dec.{ltb}
use lib.ListN.{get_or}
use lib.Seq.{get_or-take}
use borrow.Author.Tests.{ltb-true, le-ltb, lt-ltb}
use Rattle.std.specs.Prelude.{Option, Some, None}
use Rattle.std.specs.Option.{is_some}
use Rattle.sizes.specs.declared.sizes.Sizes.{Sizes}
use Rattle.sizes.specs.Sizes.{Permitted, max_clients}
use Rattle.sizes.proofs.Choosing.{split, when, unless}
use Rattle.decision.proofs.Beyond.{get_d_past}
use Rattle.decision.specs.Lists.{found_below}
use Rattle.decision.proofs.Finding.{first_agree, first_none, first_has, found_some}
use Rattle.protocol.specs.declared.client.ClientFile.{ClientFile}
use Rattle.protocol.specs.declared.entry.Entry.{Entry}
use Rattle.protocol.specs.Clash.{clash, says_anything, accepted_of, clashes_with, clashes_on}
use Rattle.protocol.specs.Client.{no_client, side_of}
use Rattle.table.specs.Clash.{clash_file}
use Rattle.table.specs.TableStep.{is_reported}
use Rattle.words.specs.Words.{side_held}
use Rattle.words.specs.Rows.{listed, word_at, entry_held, sides_held}
use Rattle.words.proofs.Changing.{side_held_lem}
use Rattle.words.proofs.Listing.{length_listed}
use Rattle.service.specs.Lent.{reported_held}
use Rattle.service.proofs.Tests.{conflict, and_false}
use Rattle.phrases.specs.Clash.{untrue_text, not_both_text}
use Rattle.sentences.specs.Explained.{clash_on_text, clash_text}

-- ---- the number that was found, or none

found_past : (n m : ℕ) → found_below n m ≡ None → ltb m n ≡ false
found_past n m none = sym (found_some n m) ∙ ap is_some none

found_in : (n m k : ℕ) → found_below n m ≡ Some k → ltb m n ≡ true
found_in n m k some = sym (found_some n m) ∙ ap is_some some

found_at : (n m k : ℕ) → found_below n m ≡ Some k → k ≡ m
found_at n m k some = ap or_m (sym some) ∙ ap or_m (when (Some m) None (found_in n m k some))
  where
    or_m : Option ℕ → ℕ
    or_m (Some j) = j
    or_m None = m

-- a side that clashes, and not alone, clashes with another
module _ (n : ℕ) (p : ℕ → Bool) (e : Entry) {own own' none : ClientFile} {alone : Bool} {o : Option ℕ} (is : own' ≡ own)
    (nothing : none ≡ no_client) (told : alone ≡ clash own' none) (not : alone ≡ false)
    (with : o ≡ found_below n (clashes_with n p e own')) where
  pub not_alone : clash own no_client ≡ false
  not_alone = (λ k. clash (sym is k) (sym nothing k)) ∙ sym told ∙ not

  pub other_there : clashes_on n p e own ≡ true → o ≡ None → ⊥
  other_there clashes none =
      let nobody : ltb (clashes_with n p e own) n ≡ false =
      ap (λ d. ltb (clashes_with n p e d) n) (sym is) ∙ found_past n _ (sym with ∙ none) in
      conflict clashes (rw (not_alone, nobody) (and_false (says_anything own)))

  pub other_is : {j : ℕ} → o ≡ Some j → j ≡ clashes_with n p e own'
  other_is {j = j} some = found_at n _ j (sym with ∙ some)

-- ---- the clients and the files in force

module _ (n : ℕ) (p q : ℕ → Bool) (same : (j : ℕ) → j < n → p j ≡ q j) (e : Entry) (own : ClientFile) where
  with_agree : clashes_with n p e own ≡ clashes_with n q e own
  with_agree =
      first_agree n (λ j. p j && clash own (accepted_of e j)) (λ j. q j && clash own (accepted_of e j))
      (λ j h. ap (λ (b : Bool). b && clash own (accepted_of e j)) (same j h))

  on_agree : clashes_on n p e own ≡ clashes_on n q e own
  on_agree = ap (λ (k : ℕ). says_anything own && (clash own no_client || ltb k n)) with_agree

  on_text_agree : (i f : ℕ) → clash_on_text n p e own i f ≡ clash_on_text n q e own i f
  on_text_agree i f =
      ap (λ (j : ℕ). cond (clash own no_client) (untrue_text f i own) (not_both_text f i own j (accepted_of e j))) with_agree

module _
    (z : Sizes) (p q : ℕ → Bool) (e e' : ℕ → Entry) (own own' : ℕ → ClientFile)
    (accepted : (j : ℕ) → j < z.clients → p j ≡ q j) (entries : (f : ℕ) → f < z.files → e f ≡ e' f)
    (sides : (f : ℕ) → f < z.files → own f ≡ own' f) where
  file_agree : clash_file z p e own ≡ clash_file z q e' own'
  file_agree =
      first_agree z.files (λ f. clashes_on z.clients p (e f) (own f)) (λ f. clashes_on z.clients q (e' f) (own' f))
      (λ f h.
      on_agree z.clients p q accepted (e f) (own f)
      ∙ (λ k. clashes_on z.clients q (entries f h k) (sides f h k)))

  pub clash_agree : (i : ℕ) → clash_text z p e own i ≡ clash_text z q e' own' i
  clash_agree i =
      let f = clash_file z p e own in
      split (ltb f z.files)
      (λ is.
      let below : f < z.files = ltb-true f z.files is in
      when (clash_on_text z.clients p (e f) (own f) i f) [] is
      ∙ on_text_agree z.clients p q accepted (e f) (own f) i f
      ∙ (λ k. clash_on_text z.clients q (entries f below k) (sides f below k) i f)
      ∙ sym (when (clash_on_text z.clients q (e' f) (own' f) i f) [] is))
      (λ not.
      unless (clash_on_text z.clients p (e f) (own f) i f) [] not
      ∙ sym (unless (clash_on_text z.clients q (e' f) (own' f) i f) [] not))
      ∙ ap (λ (g : ℕ). cond (ltb g z.files) (clash_on_text z.clients q (e' g) (own' g) i g) []) file_agree

-- ---- in lent arrays

module _ (z : Sizes) (permitted : Permitted z) (t : List ℕ) (flags : List Bool) (i : ℕ) where
  -- who has reported, and what the client says, by their places
  abbrev given : ℕ → Bool
  given j = get_or flags j false

  abbrev worded : ℕ → ClientFile
  worded f = side_held (word_at t f (10 + i))

  abbrev sided : ℕ → ClientFile
  sided f = side_of (sides_held t f) i

  abbrev pub held : List ℕ
  held = clash_text z (is_reported (reported_held flags)) (entry_held t) sided i

  -- there is no such client
  pub no_client_lem : max_clients ≤ i → [] ≡ held
  no_client_lem past =
      let none : (f : ℕ) → sided f ≡ no_client =
      λ f.
      get_d_past no_client (listed max_clients (λ j. side_held (word_at t f (10 + j)))) i max_clients
      (length_listed max_clients (λ j. side_held (word_at t f (10 + j))))
      past in
      let first : clash_file z (is_reported (reported_held flags)) (entry_held t) sided ≡ z.files =
      first_none z.files (λ f. clashes_on z.clients (is_reported (reported_held flags)) (entry_held t f) (sided f))
      (λ f h. ap (λ (own : ClientFile). clashes_on z.clients (is_reported (reported_held flags)) (entry_held t f) own) (none f)) in
      sym
      (unless _ []
      (ap (λ (g : ℕ). ltb g z.files) first ∙ le-ltb z.files z.files (omega arith)))

  module _ (client : i < max_clients) where
    flags-agree : (j : ℕ) → j < z.clients → given j ≡ is_reported (reported_held flags) j
    flags-agree j h = sym (get_or-take max_clients flags j false (omega (arith, h, permitted.clients)))

    held-agree : clash_text z given (entry_held t) worded i ≡ held
    held-agree =
        clash_agree z given (is_reported (reported_held flags)) (entry_held t) (entry_held t) worded sided flags-agree
        (λ f h. refl) (λ f h. sym (side_held_lem t f i client)) i

    module _ {o : Option ℕ} (answer : o ≡ found_below z.files (clash_file z given (entry_held t) worded)) where
      pub no_file_lem : o ≡ None → [] ≡ held
      no_file_lem none =
          sym
          (unless (clash_on_text z.clients given (entry_held t _) (worded _) i _) []
          (found_past z.files _ (sym answer ∙ none)))
          ∙ held-agree

      module _ {file : ℕ} (some : o ≡ Some file) where
        found : file ≡ clash_file z given (entry_held t) worded
        found = found_at z.files _ file (sym answer ∙ some)

        below : file < z.files
        below = subst⁻¹ (λ k. k < z.files) found (ltb-true _ z.files (found_in z.files _ file (sym answer ∙ some)))

        pub clashes-there : clashes_on z.clients given (entry_held t file) (sided file) ≡ true
        clashes-there =
            ap (λ (own : ClientFile). clashes_on z.clients given (entry_held t file) own) (side_held_lem t file i client)
            ∙ ap (λ (g : ℕ). clashes_on z.clients given (entry_held t g) (worded g)) found
            ∙ first_has z.files (λ f. clashes_on z.clients given (entry_held t f) (worded f)) (rw (← found) below)

        pub on-file : clash_on_text z.clients given (entry_held t file) (sided file) i file ≡ held
        on-file =
            ap (λ (own : ClientFile). clash_on_text z.clients given (entry_held t file) own i file) (side_held_lem t file i client)
            ∙ sym (when (clash_on_text z.clients given (entry_held t file) (worded file) i file) [] (lt-ltb file z.files below))
            ∙ ap (λ (g : ℕ). cond (ltb g z.files) (clash_on_text z.clients given (entry_held t g) (worded g) i g) []) found
            ∙ held-agree

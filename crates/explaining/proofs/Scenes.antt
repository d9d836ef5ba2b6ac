-- The scene that the code finds in lent arrays, with wrapped numbers, gives the same sentence as the definition's: a step
-- that names no client is refused with 2 and one that names no file with 2 or 3, whose sentences look at neither. Assumes
-- nothing.
use Prim.Native.Nat.{ℕ, ◌%◌}
use mathlib.Core.Path.{◌≡◌, refl, ap, ◌∙◌}
use mathlib.Core.Bool.{Bool, true, false, cond}
use mathlib.Core.List.{List}
use native.Mathlib.Nat.{mod-eq_of_lt}
use native.Mathlib.Omega.{arith}
use lib.Dec.{eqb, leb}
use borrow.Author.Tests.{leb-true, leb-false}
use Rattle.sizes.specs.declared.sizes.Sizes.{Sizes}
use Rattle.sizes.specs.Sizes.{max_clients, max_files}
use Rattle.sizes.proofs.InForce.{in_force_permitted, client_fits, file_fits}
use Rattle.protocol.specs.declared.client.Sides.{Sides}
use Rattle.protocol.specs.declared.entry.Entry.{Entry}
use Rattle.protocol.specs.declared.reply.Reply.{Reply}
use Rattle.protocol.specs.declared.reply.Reply.TheVariants.{Granted, Waiting, Value, Refused, Answered}
use Rattle.protocol.specs.declared.reply.Reply.TheVariants.{AnsweredGrant, Done}
use Rattle.protocol.specs.declared.step.Step.{Step}
use Rattle.protocol.specs.declared.step.Step.TheVariants.{Open, Close, Read, Write, Flush, Answer, Crash, Report, End}
use Rattle.protocol.specs.declared.step.Step.TheVariants.{Restart, Embargo, Lift}
use Rattle.protocol.specs.Reply.{is_refused}
use Rattle.protocol.specs.Step.{client_of, file_of}
use Rattle.table.specs.TableStep.{is_reported}
use Rattle.service.specs.declared.service.Service.{Service}
use Rattle.service.specs.declared.outcome.Outcome.{Outcome}
use Rattle.service.specs.Contents.{sizes_of, table_in, entry_at, embargoed_at, sides_at}
use Rattle.service.specs.Step.{step_of}
use Rattle.service.specs.Demand3.{refused}
use Rattle.service.proofs.Tests.{split, conflict, when}
use Rattle.service.proofs.Accepted.{refusal_of, rejected}
use Rattle.ledger.specs.declared.ledger.Ledger.{Ledger}
use Rattle.ledger.specs.declared.told.Told.{Told}
use Rattle.ledger.specs.Ledger.{waiting_since, embargoed_since, may_cache, step_told}
use Rattle.sentences.specs.Scene.{Scene, scene_of, Whole, whole_of}
use Rattle.sentences.specs.Explained.{besides_text, forgotten_text, is_embargo, clash_text, said_of}

abbrev pub scene_by :
    Sizes → List Bool → List Bool → List Bool → List Bool → Entry → Entry → Sides → ℕ → Bool → ℕ → Told → Bool → Scene
scene_by z reported embargoed used dirty e e' sides since aside embargo told caching =
    record {
      sizes = z;
      reported = reported;
      embargoed = embargoed;
      used = used;
      dirty = dirty;
      entry = e;
      after = e';
      sides = sides;
      since = since;
      aside = aside;
      embargo = embargo;
      told = told;
      caching = caching;
    }

-- what is said of the step x where it is refused with 22
abbrev pub clash_said : Sizes → List Bool → Whole → Step → List ℕ
clash_said z reported w x = clash_text z (is_reported reported) w.after (w.side_after (client_of x)) (client_of x)

-- ---- a step that names no client

module _ (s : Service) (x : Step) where
  with_number : (k : ℕ) → refusal_of s x ≡ k → eqb k 0 ≡ false → (step_of s x).reply ≡ Refused k
  with_number k e n =
      ap (λ (o : Outcome). o.reply) (rejected s x (ap (λ (j : ℕ). eqb j 0) e ∙ n)) ∙ ap Refused e

some_client_lem : (s : Service) → leb (sizes_of s).clients 0 ≡ true → ⊥
some_client_lem s e = omega (arith, leb-true (sizes_of s).clients 0 e, (in_force_permitted s.sizes).some_client)

pub no_client_refused : (s : Service) (x : Step) → leb (sizes_of s).clients (client_of x) ≡ true → (step_of s x).reply ≡ Refused 2
no_client_refused s (Open m i f) h = with_number s (Open m i f) 2 (when 2 _ h) refl
no_client_refused s (Close m i f) h = with_number s (Close m i f) 2 (when 2 _ h) refl
no_client_refused s (Read i f b) h = with_number s (Read i f b) 2 (when 2 _ h) refl
no_client_refused s (Write i f b v) h = with_number s (Write i f b v) 2 (when 2 _ h) refl
no_client_refused s (Flush i f b) h = with_number s (Flush i f b) 2 (when 2 _ h) refl
no_client_refused s (Answer i f) h = with_number s (Answer i f) 2 (when 2 _ h) refl
no_client_refused s Crash h = absurd (some_client_lem s h)
no_client_refused s (Report i) h = with_number s (Report i) 2 (when 2 _ h) refl
no_client_refused s End h = absurd (some_client_lem s h)
no_client_refused s (Restart i) h = with_number s (Restart i) 2 (when 2 _ h) refl
no_client_refused s (Embargo i f) h = with_number s (Embargo i f) 2 (when 2 _ h) refl
no_client_refused s (Lift i) h = with_number s (Lift i) 2 (when 2 _ h) refl

-- ---- a step that names no file

-- the first two tests, of which the second holds
early : (P : Type 0) (client file : Bool) (rest k : ℕ) → k ≡ cond client 2 (cond file 3 rest) → file ≡ true → (k ≡ 2 → P) → (k ≡ 3 → P) → P
early P true file rest k e h second third = second e
early P false true rest k e h second third = third e
early P false false rest k e h second third = conflict h refl

module _ (s : Service) (x : Step) where
  -- by the two numbers
  numbered : (P : Type 0) → ((step_of s x).reply ≡ Refused 2 → P) → ((step_of s x).reply ≡ Refused 3 → P) → (refusal_of s x ≡ 2 → P) × (refusal_of s x ≡ 3 → P)
  numbered P second third = (λ e. second (with_number s x 2 e refl), λ e. third (with_number s x 3 e refl))

some_file_lem : (s : Service) → leb (sizes_of s).files 0 ≡ true → ⊥
some_file_lem s e = omega (arith, leb-true (sizes_of s).files 0 e, (in_force_permitted s.sizes).some_file)

no_file_refused :
    (P : Type 0) (s : Service) (x : Step)
    → leb (sizes_of s).files (file_of x) ≡ true
    → ((step_of s x).reply ≡ Refused 2 → P)
    → ((step_of s x).reply ≡ Refused 3 → P)
    → P
no_file_refused P s (Open m i f) h second third =
    let (two, three) = numbered s (Open m i f) P second third in
    early P (leb (sizes_of s).clients i) (leb (sizes_of s).files f) _ _ refl h two three
no_file_refused P s (Close m i f) h second third =
    let (two, three) = numbered s (Close m i f) P second third in
    early P (leb (sizes_of s).clients i) (leb (sizes_of s).files f) _ _ refl h two three
no_file_refused P s (Read i f b) h second third =
    let (two, three) = numbered s (Read i f b) P second third in
    early P (leb (sizes_of s).clients i) (leb (sizes_of s).files f) _ _ refl h two three
no_file_refused P s (Write i f b v) h second third =
    let (two, three) = numbered s (Write i f b v) P second third in
    early P (leb (sizes_of s).clients i) (leb (sizes_of s).files f) _ _ refl h two three
no_file_refused P s (Flush i f b) h second third =
    let (two, three) = numbered s (Flush i f b) P second third in
    early P (leb (sizes_of s).clients i) (leb (sizes_of s).files f) _ _ refl h two three
no_file_refused P s (Answer i f) h second third =
    let (two, three) = numbered s (Answer i f) P second third in
    early P (leb (sizes_of s).clients i) (leb (sizes_of s).files f) _ _ refl h two three
no_file_refused P s Crash h second third = absurd (some_file_lem s h)
no_file_refused P s (Report i) h second third = absurd (some_file_lem s h)
no_file_refused P s End h second third = absurd (some_file_lem s h)
no_file_refused P s (Restart i) h second third = absurd (some_file_lem s h)
no_file_refused P s (Embargo i f) h second third =
    let (two, three) = numbered s (Embargo i f) P second third in
    early P (leb (sizes_of s).clients i) (leb (sizes_of s).files f) _ _ refl h two three
no_file_refused P s (Lift i) h second third = absurd (some_file_lem s h)

-- ---- the same sentence

module _
    (fresh : Bool) (x : Step) (kinds : List ℕ) (z : Sizes) (p q u v : List Bool) (e₁ e₂ a₁ a₂ : Entry) (d₁ d₂ : Sides)
    (n₁ n₂ : ℕ) (b₁ b₂ : Bool) (m₁ m₂ : ℕ) (t₁ t₂ : Told) (c₁ c₂ : Bool) (w₁ w₂ : Whole) where
  abbrev Same : Reply → Type 0
  Same r =
      said_of fresh (scene_by z p q u v e₁ a₁ d₁ n₁ b₁ m₁ t₁ c₁) w₁ x kinds r
      ≡ said_of fresh (scene_by z p q u v e₂ a₂ d₂ n₂ b₂ m₂ t₂ c₂) w₂ x kinds r

  -- a refusal looks at the entry, and at the lines of the wait and of the embargo; that of a report that clashes at all
  -- files after it
  same_refused :
      (r : Reply)
      → is_refused r ≡ true
      → e₁ ≡ e₂
      → n₁ ≡ n₂
      → m₁ ≡ m₂
      → clash_said z p w₁ x ≡ clash_said z p w₂ x
      → Same r
  same_refused (Refused k) h e n m w = rw (e, n, m, w)
  same_refused (Granted g) h e n m w = conflict h refl
  same_refused Waiting h e n m w = conflict h refl
  same_refused (Value v) h e n m w = conflict h refl
  same_refused (Answered k) h e n m w = conflict h refl
  same_refused (AnsweredGrant k i g) h e n m w = conflict h refl
  same_refused Done h e n m w = conflict h refl

  -- any other reply does not look at the line of a wait
  same_accepted :
      (r : Reply)
      → is_refused r ≡ false
      → e₁ ≡ e₂
      → a₁ ≡ a₂
      → d₁ ≡ d₂
      → b₁ ≡ b₂
      → m₁ ≡ m₂
      → t₁ ≡ t₂
      → c₁ ≡ c₂
      → besides_text z w₁ x ≡ besides_text z w₂ x
      → (is_embargo x ≡ true → forgotten_text z w₁ (client_of x) ≡ forgotten_text z w₂ (client_of x))
      → Same r
  same_accepted (Refused k) h e a d b m t c w u = conflict refl h
  same_accepted (Granted g) h e a d b m t c w u = rw d
  same_accepted Waiting h e a d b m t c w u = rw e
  same_accepted (Value v) h e a d b m t c w u = rw (t, b, m)
  same_accepted (Answered k) h e a d b m t c w u =
      split (is_embargo x) (λ is. rw (is, u is)) (λ is. rw (is, a))
  same_accepted (AnsweredGrant k i g) h e a d b m t c w u =
      split (is_embargo x) (λ is. rw (is, u is)) (λ is. rw (is, e, d))
  same_accepted Done h e a d b m t c w u = rw (c, b, m, w)

-- what the code finds in the row of the step's file and at its client, wrapped, and tells of a read
module _ (fresh : Bool) (s : Service) (l : Ledger) (x : Step) (z : Sizes) (sized : z ≡ sizes_of s) (told : Told) (caching : Bool)
    (whole : Whole) (found : refused s x ≡ false → (told ≡ step_told s l x) × (caching ≡ may_cache s x))
    (clashes : clash_said (sizes_of s) (table_in s).reported whole x ≡ clash_said (sizes_of s) (table_in s).reported (whole_of s l x) x)
    (looks : besides_text (sizes_of s) whole x ≡ besides_text (sizes_of s) (whole_of s l x) x)
    (forgets :
    is_embargo x ≡ true
    → forgotten_text (sizes_of s) whole (client_of x) ≡ forgotten_text (sizes_of s) (whole_of s l x) (client_of x)) where
  abbrev g : ℕ
  g = file_of x % max_files

  abbrev i : ℕ
  i = client_of x % max_clients

  abbrev o : Outcome
  o = step_of s x

  abbrev scene : Sizes → Scene
  scene k =
      scene_by k (table_in s).reported (table_in s).embargoed s.server.used o.service.dirty (entry_at s g) (entry_at o.service g) (sides_at s g)
      (waiting_since l g) (embargoed_at s i) (embargoed_since l i) told caching

  abbrev Alike : Type 0
  Alike =
      said_of fresh (scene (sizes_of s)) whole x o.calls o.reply
      ≡ said_of fresh (scene_of s l x) (whole_of s l x) x o.calls o.reply

  in_force_lem : Alike
  in_force_lem =
      split (leb (sizes_of s).clients (client_of x))
      (λ none. rw (no_client_refused s x none))
      (λ who.
      let own : i ≡ client_of x =
      mod-eq_of_lt (client_fits (in_force_permitted s.sizes) (leb-false (sizes_of s).clients (client_of x) who)) in
      split (leb (sizes_of s).files (file_of x))
      (λ none. no_file_refused Alike s x none (λ e. rw e) (λ e. rw e))
      (λ some.
      let here : g ≡ file_of x =
      mod-eq_of_lt (file_fits (in_force_permitted s.sizes) (leb-false (sizes_of s).files (file_of x) some)) in
      split (refused s x)
      (λ not-ok.
      same_refused fresh x o.calls (sizes_of s) _ ((table_in s).embargoed) s.server.used o.service.dirty _ _ (entry_at o.service g)
      ((scene_of s l x).after) _ _ _ _ (embargoed_at s i) ((scene_of s l x).aside) _ _ told ((scene_of s l x).told) caching
      ((scene_of s l x).caching) whole (whole_of s l x) o.reply
      not-ok
      (ap (entry_at s) here)
      (ap (waiting_since l) here)
      (ap (embargoed_since l) own)
      clashes)
      (λ ok.
      same_accepted fresh x o.calls (sizes_of s) _ _ _ _ _ _ _ _ _ _ _ _ _ _ _ _ _ _ _ _ whole (whole_of s l x) o.reply
      ok
      (ap (entry_at s) here)
      (ap (entry_at o.service) here)
      (ap (sides_at s) here)
      (ap (embargoed_at s) own)
      (ap (embargoed_since l) own)
      (found ok).0
      (found ok).1
      looks
      forgets)))

  pub said_alike :
      said_of fresh (scene z) whole x o.calls o.reply
      ≡ said_of fresh (scene_of s l x) (whole_of s l x) x o.calls o.reply
  said_alike = ap (λ (k : Sizes). said_of fresh (scene k) whole x o.calls o.reply) sized ∙ in_force_lem

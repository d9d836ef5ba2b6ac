-- A restart, an embargo and a lift that are taken file by file are those that the definitions give, and the grants are
-- said. Assumes nothing.
use Prim.Native.Nat.{ℕ, suc, ◌+◌, ◌*◌, ◌%◌, ◌<◌, ◌≤◌}
use mathlib.Core.Path.{◌≡◌, refl, sym, ap, ◌∙◌, subst, subst⁻¹}
use mathlib.Core.Bool.{Bool, true, false, cond, not, true≢false}
use mathlib.Core.List.{List, [], ◌∷◌, ◌++◌, append-nil}
use native.Mathlib.Nat.{mod-eq_of_lt}
use native.Mathlib.Omega.{arith}
use lib.Dec.{eqb, leb}
use lib.ListN.{length, get_or, set, length-set, length-append}
use lib.Seq.{get_or-set_other, get_or-set_same, set-set, take-set-le, take-set-lt, drop-set-lt}
use types.Run.{OneOf}
use denote.Enum.Declared.{tag_of}
use borrow.Author.Tests.{leb-false, lt-leb, le-leb, ne_eqb}
use Rattle.sizes.specs.declared.sizes.Sizes.{Sizes}
use Rattle.sizes.specs.Sizes.{Permitted, max_clients, max_files, nobody, in_force}
use Rattle.sizes.proofs.InForce.{client_fits, file_fits}
use Rattle.decision.specs.Lists.{first_of}
use Rattle.protocol.specs.declared.entry.Entry.{Entry}
use Rattle.protocol.specs.declared.reply.Grant.{Grant}
use Rattle.protocol.specs.declared.reply.Granting.{Granting}
use Rattle.protocol.specs.declared.reply.Reply.{Reply}
use Rattle.protocol.specs.declared.reply.Reply.TheVariants.{Granted, Waiting, Value, Refused, Answered}
use Rattle.protocol.specs.declared.reply.Reply.TheVariants.{AnsweredGrant, Done}
use Rattle.protocol.specs.declared.shared.SharedFile.{SharedFile}
use Rattle.protocol.specs.declared.step.Step.{Step}
use Rattle.protocol.specs.declared.step.Step.TheVariants.{Restart, Embargo, Lift}
use Rattle.protocol.specs.Refusal.{restart_tests, embargo_tests, lift_tests}
use Rattle.protocol.specs.Reply.{grant_values, is_refused, no_calls, no_grants, brought, placed}
use Rattle.protocol.proofs.OtherKinds.{not_among}
use Rattle.protocol.specs.contracts.reply.Reply.{the_type}
use Rattle.blocks.specs.declared.stores.Stores.{Stores}
use Rattle.file.specs.FileStep.{FileAfter, after_forgetting, after_dropping}
use Rattle.file.specs.Held.{Leaves}
use Rattle.table.specs.TableStep.{no_entry}
use Rattle.words.specs.Rows.{entry_held, file_held}
use Rattle.words.specs.Said.{granting_said, Begun, SaysIn, SaidSoFar}
use Rattle.words.proofs.Listing.{get_d_listed, listed_agree, listed_set}
use Rattle.words.proofs.SaidWords.{begun_next}
use Rattle.words.proofs.SaidGrants.{said_none, said_more, said_same, grants_said_lem, answer_granting, further, answer_grants_said}
use Rattle.service.specs.declared.service.Service.{Service}
use Rattle.service.specs.declared.outcome.Outcome.{Outcome}
use Rattle.service.specs.Contents.{sizes_of, table_in, entry_at, embargoed_at, file_at, with_file, with_table}
use Rattle.service.specs.Lent.{state_flags, lent_flags, recovering_held, reported_held, embargoed_held, used_held, service_held}
use Rattle.service.specs.Embargo.{forgotten_file, forgotten_on, forgotten_below, grants_below, marking, marked, put_aside, grants_aside}
use Rattle.service.specs.Embargo.{dropped_on, dropped_below, heard, answering}
use Rattle.service.specs.Served.{Forgets, Drops, MovesAll}
use Rattle.service.specs.Step.{moved}
use Rattle.service.proofs.Tests.{split}
use Rattle.service.proofs.Accepted.{tests_in, refused_with, done_of, done_moved, refused_moved, answering_service}
use Rattle.service.proofs.LentFlags.{flag_embargoed}
use Rattle.service.proofs.Serving.{puts_service, file_at_lem}

-- ---- one file

-- what is left of file k, by its row, is put into the service
module _
    (k : ℕ)
    (o : SharedFile → FileAfter)
    (t t' : List ℕ)
    (a : Stores)
    (reply : Reply)
    (left : Stores)
    (there : k < max_files)
    (p : Leaves (o (file_held t (k % max_files))) (k % max_files) t t' reply left)
    (given : Sizes)
    (flags : List Bool)
  where
    put : Leaves (o (file_held t k)) k t t' reply left
    put = subst (λ g. Leaves (o (file_held t g)) g t t' reply left) (mod-eq_of_lt there) p

    abbrev came : Service
    came = service_held given t flags a

    same_left : o (file_held t k) ≡ o (file_at came k)
    same_left = ap o (sym (file_at_lem given flags a k t there))

    leaves-service :
        service_held given t' flags left ≡ with_file came k (o (file_at came k)).file (o (file_at came k)).stores
    leaves-service =
        ap (λ (a : Stores). service_held given t' flags a) put.stores_after
        ∙ puts_service given flags a (o (file_held t k)).stores k (o (file_held t k)).file t t' there put.puts
        ∙ ap (λ (o : FileAfter). with_file came k o.file o.stores) same_left

    leaves-reply : reply ≡ (o (file_at came k)).reply
    leaves-reply = put.reply_after ∙ ap (λ (o : FileAfter). o.reply) same_left

    leaves-long : length t' ≡ length t
    leaves-long = put.puts.long

-- ---- the server forgets, file by file

-- nothing is said yet, or that no block was sent
pub begun_none : (words : List ℕ) → Begun words 0 [] words
begun_none words = record { first = refl; long = refl; past = refl }

pub begun_sent : (words : List ℕ) → 0 < length words → Begun words 1 (0 ∷ []) (set words 0 0)
begun_sent words some = begun_next words [] words 0 0 some (begun_none words)

pub forgets_none :
    (sizes : Sizes) (i : ℕ) (t : List ℕ) (a : Stores) (words₀ pre words : List ℕ) (from : ℕ)
    → Begun words₀ from pre words
    → length pre ≡ from
    → Forgets sizes i 0 t a words₀ pre t a words from
unfolding forgotten_below grants_below
forgets_none sizes i t a words₀ pre words from begun is =
    let first : Begun words₀ (length pre) pre words = subst⁻¹ (λ n. Begun words₀ n pre words) is begun in
    let none : from ≡ length pre + 4 * 0 = omega (arith, is) in
    record {
      long = refl;
      few = omega (arith, is);
      service = λ given flags. refl;
      said = λ given flags. said_none words₀ pre words first;
      count = λ given flags. none;
    }

-- as many files, said in another way
pub forgets_as :
    {sizes : Sizes} {i k n : ℕ} {t₀ : List ℕ} {a₀ : Stores} {words₀ pre t : List ℕ} {a : Stores} {words : List ℕ} {at : ℕ}
    → k ≡ n
    → Forgets sizes i k t₀ a₀ words₀ pre t a words at
    → Forgets sizes i n t₀ a₀ words₀ pre t a words at
forgets_as {sizes} {i} {t₀ = t₀} {a₀} {words₀} {pre} {t} {a} {words} {at} e r =
    subst (λ m. Forgets sizes i m t₀ a₀ words₀ pre t a words at) e r

-- the reply of file k is said: the grants so far with the one that it brings
abbrev pub Brings : Reply → ℕ → List ℕ → ℕ → List ℕ → Type 0
Brings reply at words at' words' =
    (words₀ pre : List ℕ) (gs : List Granting)
    → at ≡ length pre + 4 * length gs
    → SaidSoFar words₀ pre gs words
    → SaidSoFar words₀ pre (gs ++ brought reply) words' × (at' ≡ length pre + 4 * length (gs ++ brought reply))

abbrev others : List ℕ
others = 0 ∷ 1 ∷ 2 ∷ 3 ∷ 4 ∷ 6 ∷ []

-- a reply that is no answer with a grant brings none
pub brings_none : (y : Reply) → OneOf others (tag_of the_type y) → brought y ≡ []
brings_none (Granted g) h = refl
brings_none Waiting h = refl
brings_none (Value v) h = refl
brings_none (Refused k) h = refl
brings_none (Answered n) h = refl
brings_none (AnsweredGrant n j g) h = absurd (not_among others 5 refl h)
brings_none Done h = refl

pub nothing_brought : (y : Reply) (at : ℕ) (words : List ℕ) → brought y ≡ [] → Brings y at words at words
nothing_brought y at words is words₀ pre gs count so =
    subst⁻¹
    (λ (l : List Granting). SaidSoFar words₀ pre (gs ++ l) words × (at ≡ length pre + 4 * length (gs ++ l)))
    is (
      said_same words₀ pre gs words so,
      count ∙ ap (λ (l : List Granting). length pre + 4 * length l) (sym (append-nil gs)),
    )

pub one_brought :
    (y : Reply) (sent who : ℕ) (g : Grant) (at : ℕ) (ws ws' : List ℕ)
    → y ≡ AnsweredGrant sent who g
    → who < max_clients
    → ((words₀ vs : List ℕ) → Begun words₀ at vs ws → Begun words₀ (at + 4) (vs ++ (who ∷ grant_values g)) ws')
    → granting_said ws' at ≡ record { client = who; grant = g }
    → ((j : ℕ) → j + 4 ≤ at → granting_said ws' j ≡ granting_said ws j)
    → Brings y at ws (at + 4) ws'
one_brought y sent who g at ws ws' is low begun there kept words₀ pre gs count so =
    let one : Granting = record { client = who; grant = g } in
    subst⁻¹
    (λ (y : Reply). SaidSoFar words₀ pre (gs ++ brought y) ws' × (at + 4 ≡ length pre + 4 * length (gs ++ brought y)))
    is (
      said_more words₀ pre gs ws so ws' at who g count (ne_eqb who nobody (λ e. omega arith)) begun there kept,
      omega (arith, count, length-append gs (one ∷ [])),
    )

module _
    {sizes : Sizes}
    {i k : ℕ}
    {t₀ : List ℕ}
    {a₀ : Stores}
    {words₀ pre t : List ℕ}
    {a : Stores}
    {words : List ℕ}
    {at : ℕ}
    (most : Permitted sizes)
    (hk : k < sizes.files)
    (r : Forgets sizes i k t₀ a₀ words₀ pre t a words at)
    (t' : List ℕ)
    (left : Stores)
    (reply : Reply)
    (words' : List ℕ)
    (at' : ℕ)
    (p : Leaves (after_forgetting sizes k (file_held t (k % max_files)) a i) (k % max_files) t t' reply left)
    (brings : Brings reply at words at' words')
    (few : at' ≤ at + 4)
  where
    abbrev forgets : SharedFile → FileAfter
    forgets x = after_forgetting sizes k x a i

    there : k < max_files
    there = file_fits most hk

    forgets-service :
        (given : Sizes) (flags : List Bool)
        → service_held given t' flags left ≡ forgotten_on sizes i (forgotten_below sizes i k (service_held given t₀ flags a₀)) k
    forgets-service given flags =
        leaves-service k forgets t t' a reply left there p given flags
        ∙ ap (λ (s : Service). forgotten_on sizes i s k) (r.service given flags)

    same-reply :
        (given : Sizes) (flags : List Bool)
        → reply ≡ (forgotten_file sizes i (forgotten_below sizes i k (service_held given t₀ flags a₀)) k).reply
    same-reply given flags =
        leaves-reply k forgets t t' a reply left there p given flags
        ∙ ap (λ (s : Service). (forgotten_file sizes i s k).reply) (r.service given flags)

    pub forgets-next : Forgets sizes i (suc k) t₀ a₀ words₀ pre t' left words' at'
    unfolding forgotten_below grants_below
    forgets-next =
        record {
          long = leaves-long k forgets t t' a reply left there p sizes [] ∙ r.long;
          few = omega (arith, few, r.few);
          service = forgets-service;
          said = λ given flags.
              let gs = grants_below sizes i k (service_held given t₀ flags a₀) in
              subst (λ (y : Reply). SaidSoFar words₀ pre (gs ++ brought y) words') (same-reply given flags)
              (brings words₀ pre gs (r.count given flags) (r.said given flags)).0;
          count = λ given flags.
              let gs = grants_below sizes i k (service_held given t₀ flags a₀) in
              subst (λ (y : Reply). at' ≡ length pre + 4 * length (gs ++ brought y)) (same-reply given flags)
              (brings words₀ pre gs (r.count given flags) (r.said given flags)).1;
        }

-- ---- the client drops, file by file

pub drops_none : (sizes : Sizes) (i : ℕ) (t : List ℕ) (a : Stores) → Drops sizes i 0 t a t a
unfolding dropped_below
drops_none sizes i t a = record { long = refl; service = λ given flags. refl }

pub drops_as :
    {sizes : Sizes} {i k n : ℕ} {t₀ : List ℕ} {a₀ : Stores} {t : List ℕ} {a : Stores}
    → k ≡ n
    → Drops sizes i k t₀ a₀ t a
    → Drops sizes i n t₀ a₀ t a
drops_as {sizes} {i} {t₀ = t₀} {a₀} {t} {a} e r = subst (λ m. Drops sizes i m t₀ a₀ t a) e r

pub drops_next :
    {sizes : Sizes} {i k : ℕ} {t₀ : List ℕ} {a₀ : Stores} {t : List ℕ} {a : Stores}
    → Permitted sizes
    → k < sizes.files
    → Drops sizes i k t₀ a₀ t a
    → (t' : List ℕ) (left : Stores) (reply : Reply)
    → Leaves (after_dropping sizes k (file_held t (k % max_files)) a i) (k % max_files) t t' reply left
    → Drops sizes i (suc k) t₀ a₀ t' left
unfolding dropped_below
drops_next {sizes} {i} {k} {t₀} {a₀} {t} {a} most hk r t' left reply p =
    let drops : SharedFile → FileAfter = λ x. after_dropping sizes k x a i in
    let there = file_fits most hk in
    record {
      long = leaves-long k drops t t' a reply left there p sizes [] ∙ r.long;
      service = λ given flags.
          leaves-service k drops t t' a reply left there p given flags
          ∙ ap (λ (s : Service). dropped_on sizes i s k) (r.service given flags);
    }

-- ---- the flags

-- whether client i is under embargo, stored
module _ (flags : List Bool) (i : ℕ) (v : Bool) where
  abbrev pub flagged : List Bool
  flagged = set flags (max_clients + 1 + i) v

  pub flagged_recovering : recovering_held flagged ≡ recovering_held flags
  flagged_recovering = get_or-set_other flags (max_clients + 1 + i) max_clients v false (λ e. omega arith)

  flagged_reported : reported_held flagged ≡ reported_held flags
  flagged_reported = take-set-le max_clients flags (max_clients + 1 + i) v (omega arith)

  flagged_embargoed : length flags ≡ lent_flags → i < max_clients → embargoed_held flagged ≡ set (embargoed_held flags) i v
  flagged_embargoed long hi =
      listed_set max_clients (λ k. get_or flags (max_clients + 1 + k) false) (λ k. get_or flagged (max_clients + 1 + k) false) i v hi
      (get_or-set_same flags (max_clients + 1 + i) v false (omega (arith, long, hi)))
      (λ k h off. get_or-set_other flags (max_clients + 1 + i) (max_clients + 1 + k) v false (λ e. off (omega (arith, e))))

  flagged_used : i < max_clients → used_held flagged ≡ used_held flags
  flagged_used hi = drop-set-lt state_flags flags (max_clients + 1 + i) v (omega (arith, hi))

  flagged_service :
      length flags ≡ lent_flags
      → i < max_clients
      → (given : Sizes) (t : List ℕ) (a : Stores)
      → (let s = service_held given t flags a in service_held given t flagged a ≡ with_table s (marking v i (table_in s)))
  flagged_service long hi given t a =
      rw (flagged_recovering, flagged_reported, flagged_embargoed long hi, flagged_used hi)

-- the client is heard
module _ (flags : List Bool) (i : ℕ) (hi : i < max_clients) where
  abbrev hears : Bool → List Bool
  hears recovers = cond recovers (set flags i true) flags

  hears_recovering : (b : Bool) → recovering_held (hears b) ≡ recovering_held flags
  hears_recovering true = get_or-set_other flags i max_clients true false (λ e. omega arith)
  hears_recovering false = refl

  hears_reported : (b : Bool) → reported_held (hears b) ≡ cond b (set (reported_held flags) i true) (reported_held flags)
  hears_reported true = take-set-lt max_clients flags i true hi
  hears_reported false = refl

  hears_embargoed : (b : Bool) → embargoed_held (hears b) ≡ embargoed_held flags
  hears_embargoed true =
      listed_agree max_clients (λ k. get_or (set flags i true) (max_clients + 1 + k) false) (λ k. get_or flags (max_clients + 1 + k) false)
      (λ k h. get_or-set_other flags i (max_clients + 1 + k) true false (λ e. omega (arith, e, hi)))
  hears_embargoed false = refl

  hears_used : (b : Bool) → used_held (hears b) ≡ used_held flags
  hears_used true = drop-set-lt state_flags flags i true (omega (arith, hi))
  hears_used false = refl

  hears_long : (b : Bool) → length (hears b) ≡ length flags
  hears_long true = length-set flags i true
  hears_long false = refl

-- it is told: it is under embargo no more, and heard
abbrev pub tells : List Bool → ℕ → List Bool
tells flags i =
    cond (recovering_held flags) (set (flagged flags i false) i true) (flagged flags i false)

tells_long : (flags : List Bool) (i : ℕ) → i < max_clients → length (tells flags i) ≡ length flags
tells_long flags i hi =
    hears_long (flagged flags i false) i hi (recovering_held flags) ∙ length-set flags (max_clients + 1 + i) false

tells_service :
    (flags : List Bool) (i : ℕ)
    → length flags ≡ lent_flags
    → i < max_clients
    → (given : Sizes) (t : List ℕ) (a : Stores)
    → (let s = service_held given t flags a in
    service_held given t (tells flags i) a ≡ with_table s (heard i (marking false i (table_in s))))
tells_service flags i long hi given t a =
    let off : List Bool = flagged flags i false in
    let b : Bool = recovering_held flags in
    rw (
      hears_recovering off i hi b,
      hears_reported off i hi b,
      hears_embargoed off i hi b,
      hears_used off i hi b,
      flagged_recovering flags i false,
      flagged_reported flags i false,
      flagged_embargoed flags i false long hi,
      flagged_used flags i false hi,
    )

-- so it is with one that is put under embargo just before
tells_flagged : (flags : List Bool) (i : ℕ) → tells (flagged flags i true) i ≡ tells flags i
tells_flagged flags i =
    ap (λ b. cond b (set (flagged (flagged flags i true) i false) i true) (flagged (flagged flags i true) i false))
    (flagged_recovering flags i true)
    ∙ ap (λ (l : List Bool). cond (recovering_held flags) (set l i true) l) (set-set flags (max_clients + 1 + i) true false)

-- ---- refused, or done, but for the store

rejected_in :
    (z : Sizes) (s : Service) (x : Step) (k : ℕ)
    → z ≡ sizes_of s
    → first_of (tests_in false false z s x) ≡ k
    → eqb k 0 ≡ false
    → moved false false s x ≡ refused_with k s
rejected_in z s x k force is some =
    let number : first_of (tests_in false false (sizes_of s) s x) ≡ k = ap (λ (z : Sizes). first_of (tests_in false false z s x)) (sym force) ∙ is in
    refused_moved false false s x (ap (λ k. eqb k 0) number ∙ some) ∙ ap (λ k. refused_with k s) number

accepted_in :
    (z : Sizes) (s : Service) (x : Step)
    → z ≡ sizes_of s
    → first_of (tests_in false false z s x) ≡ 0
    → moved false false s x ≡ done_of z s x
accepted_in z s x force is =
    done_moved false false s x (ap (λ k. eqb k 0) (ap (λ (z : Sizes). first_of (tests_in false false z s x)) (sym force) ∙ is))
    ∙ ap (λ (z : Sizes). done_of z s x) (sym force)

pub refused_moves :
    (sizes : Sizes) (x : Step) (k : ℕ) (t : List ℕ) (flags : List Bool) (a : Stores) (words₀ words : List ℕ) (said : ℕ)
    → ((given : Sizes) → first_of (tests_in false false sizes (service_held given t flags a) x) ≡ k)
    → eqb k 0 ≡ false
    → SaysIn words₀ said words (Refused k) no_calls no_grants
    → MovesAll sizes x t flags a words₀ t flags a words said
refused_moves sizes x k t flags a words₀ words said number some says =
    record {
      long = refl;
      flags_long = refl;
      service = λ given force. ap (λ (o : Outcome). o.service) (sym (is given force));
      says = λ given force.
          subst⁻¹ (λ (o : Outcome). SaysIn words₀ said words o.reply o.calls o.grants) (is given force) says;
      silent = λ given force. ap (λ (o : Outcome). o.calls) (is given force);
      refused = λ given force e. (refl, refl);
    }
  where
    is : (given : Sizes)
        → sizes ≡ in_force given
        → moved false false (service_held given t flags a) x ≡ refused_with k (service_held given t flags a)
    is given force = rejected_in sizes (service_held given t flags a) x k force (number given) some

-- the outcome o, where the step is done
done_moves :
    (sizes : Sizes) (x : Step) (t₀ : List ℕ) (flags₀ : List Bool) (a₀ : Stores) (words₀ t : List ℕ) (flags : List Bool)
    (a : Stores) (words : List ℕ) (said : ℕ)
    → ((given : Sizes) → first_of (tests_in false false sizes (service_held given t₀ flags₀ a₀) x) ≡ 0)
    → length t ≡ length t₀
    → length flags ≡ length flags₀
    → ((given : Sizes) → service_held given t flags a ≡ (done_of sizes (service_held given t₀ flags₀ a₀) x).service)
    → ((given : Sizes)
    → (let o = done_of sizes (service_held given t₀ flags₀ a₀) x in
    SaysIn words₀ said words o.reply o.calls o.grants × (o.calls ≡ no_calls) × (is_refused o.reply ≡ false)))
    → MovesAll sizes x t₀ flags₀ a₀ words₀ t flags a words said
done_moves sizes x t₀ flags₀ a₀ words₀ t flags a words said passes long flags_long service says =
    record {
      long = long;
      flags_long = flags_long;
      service = λ given force. service given ∙ ap (λ (o : Outcome). o.service) (sym (is given force));
      says = λ given force.
          subst⁻¹ (λ (o : Outcome). SaysIn words₀ said words o.reply o.calls o.grants) (is given force)
          (says given).0;
      silent = λ given force. ap (λ (o : Outcome). o.calls) (is given force) ∙ (says given).1;
      refused = λ given force e.
          absurd
          (true≢false (sym e ∙ ap (λ (o : Outcome). is_refused o.reply) (is given force) ∙ (says given).2));
    }
  where
    is : (given : Sizes)
        → sizes ≡ in_force given
        → moved false false (service_held given t₀ flags₀ a₀) x ≡ done_of sizes (service_held given t₀ flags₀ a₀) x
    is given force = accepted_in sizes (service_held given t₀ flags₀ a₀) x force (passes given)

-- ---- the tests

pub absent_restart : (z : Sizes) (i : ℕ) → z.clients ≤ i → first_of (restart_tests z i) ≡ 2
absent_restart z i past = rw (le-leb z.clients i past)

pub absent_lift_lem : (z : Sizes) (e : Bool) (i : ℕ) → z.clients ≤ i → first_of (lift_tests z e i) ≡ 2
absent_lift_lem z e i past = rw (le-leb z.clients i past)

-- of a client that is there, by its flag
pub lift_tested :
    (z : Sizes) (given : Sizes) (t : List ℕ) (flags : List Bool) (a : Stores) (i : ℕ)
    → i < z.clients
    → i < max_clients
    → first_of (lift_tests z (embargoed_at (service_held given t flags a) i) i)
    ≡ cond (not (get_or flags (max_clients + 1 + i) false)) 21 0
lift_tested z given t flags a i there fits = rw (lt-leb z.clients i there, flag_embargoed flags i fits)

-- the entry of a file that is not there is not looked at
pub embargo_tested :
    (z : Sizes) (given : Sizes) (t : List ℕ) (flags : List Bool) (a : Stores) (i f : ℕ)
    → Permitted z
    → first_of (embargo_tests z (recovering_held flags) (entry_at (service_held given t flags a) f) i f)
    ≡ first_of (embargo_tests z (recovering_held flags) (entry_held t (f % max_files)) i f)
embargo_tested z given t flags a i f most =
    split (leb z.files f)
    (λ e. rw e)
    (λ e.
    let there : f < max_files = file_fits most (leb-false z.files f e) in
    ap (λ (x : Entry). first_of (embargo_tests z (recovering_held flags) x i f))
    (get_d_listed max_files (λ g. entry_held t g) no_entry f there ∙ ap (entry_held t) (sym (mod-eq_of_lt there))))

-- a client that an embargo is not refused to is there
pub embargo_there :
    (z : Sizes) (recovering : Bool) (e : Entry) (i f : ℕ)
    → first_of (embargo_tests z recovering e i f) ≡ 0
    → i < z.clients
embargo_there z recovering e i f passes =
    leb-false z.clients i
    (split (leb z.clients i)
    (λ absent. absurd (two (sym (rw absent at passes))))
    (λ there. there))
  where
    two : ◌≡◌ {A = ℕ} 0 2 → ⊥
    two e = omega (arith, e)

-- ---- all files

module _
    {sizes : Sizes}
    {i : ℕ}
    {t₀ : List ℕ}
    {a₀ : Stores}
    {words₀ pre t : List ℕ}
    {a : Stores}
    {words : List ℕ}
    {at : ℕ}
    (most : Permitted sizes)
    (hi : i < sizes.clients)
    (r : Forgets sizes i sizes.files t₀ a₀ words₀ pre t a words at)
    (flags₀ : List Bool)
    (size : length flags₀ ≡ lent_flags)
  where
    fits : i < max_clients
    fits = client_fits most hi

    abbrev held : Sizes → Service
    held given = service_held given t₀ flags₀ a₀

    -- marked at the server, as the flags mark it
    marks : (given : Sizes) → service_held given t₀ (flagged flags₀ i true) a₀ ≡ marked (held given) i
    marks given = flagged_service flags₀ i true size fits given t₀ a₀

    aside : (given : Sizes) → service_held given t (flagged flags₀ i true) a ≡ put_aside sizes (held given) i
    aside given =
        r.service given (flagged flags₀ i true)
        ∙ ap (λ (s : Service). forgotten_below sizes i sizes.files s) (marks given)

    spoken : (given : Sizes) → SaidSoFar words₀ pre (grants_aside sizes (held given) i) words
    spoken given =
        subst (λ (s : Service). SaidSoFar words₀ pre (grants_below sizes i sizes.files s) words) (marks given)
        (r.said given (flagged flags₀ i true))

    counted : (given : Sizes) → at ≡ length pre + 4 * length (grants_aside sizes (held given) i)
    counted given =
        subst (λ (s : Service). at ≡ length pre + 4 * length (grants_below sizes i sizes.files s)) (marks given)
        (r.count given (flagged flags₀ i true))

    few-granted : (given : Sizes) → length (grants_aside sizes (held given) i) ≤ max_files
    few-granted given = omega (arith, counted given, r.few, most.files)

-- a restart says its grants after K
pub restart_moves :
    {sizes : Sizes} {i : ℕ} {t₀ : List ℕ} {a₀ : Stores} {words₀ t₁ : List ℕ} {a₁ : Stores} {words : List ℕ} {at : ℕ}
    {t : List ℕ} {a : Stores}
    → Permitted sizes
    → i < sizes.clients
    → Forgets sizes i sizes.files t₀ a₀ words₀ [] t₁ a₁ words at
    → Drops sizes i sizes.files t₁ a₁ t a
    → (flags₀ flags : List Bool)
    → length flags₀ ≡ lent_flags
    → flags ≡ tells flags₀ i
    → (said : ℕ)
    → said ≡ 75 + 256 * at
    → MovesAll sizes (Restart i) t₀ flags₀ a₀ words₀ t flags a words said
restart_moves {sizes} {i} {t₀} {a₀} {words₀} {t₁} {a₁} {words} {at} {t} {a} most hi r d flags₀ flags size is said tells-it =
    let fit = client_fits most hi in
    done_moves sizes (Restart i) t₀ flags₀ a₀ words₀ t flags a words said
    (λ given. rw (lt-leb sizes.clients i hi))
    (d.long ∙ r.long)
    (ap length is ∙ tells_long flags₀ i fit)
    (λ given.
    let on : List Bool = flagged flags₀ i true in
    let long : length on ≡ lent_flags = length-set flags₀ (max_clients + 1 + i) true ∙ size in
    ap (λ (l : List Bool). service_held given t l a) (is ∙ sym (tells_flagged flags₀ i))
    ∙ tells_service on i long fit given t a
    ∙ ap (λ (s : Service). with_table s (heard i (marking false i (table_in s))))
    (d.service given on
    ∙ ap (λ (s : Service). dropped_below sizes i sizes.files s) (aside most hi r flags₀ size given)))
    (λ given.
    let gs = grants_aside sizes (service_held given t₀ flags₀ a₀) i in
    let all : at ≡ 0 + 4 * length gs = counted most hi r flags₀ size given in
    let count : at ≡ 4 * length gs = omega (arith, all) in (
      grants_said_lem words₀ gs words said
          (few-granted most hi r flags₀ size given)
          (spoken most hi r flags₀ size given)
          (tells-it ∙ ap (λ n. 75 + 256 * n) count),
      refl,
      refl,
    ))

-- an embargo says them after A 0
said_answering :
    {words₀ words : List ℕ} {said : ℕ} (s : Service) (gs : List Granting)
    → SaysIn words₀ said words (answer_granting gs) no_calls (placed (further gs))
    → (let o = answering s gs in
    SaysIn words₀ said words o.reply o.calls o.grants × (o.calls ≡ no_calls) × (is_refused o.reply ≡ false))
said_answering s [] h = (h, refl, refl)
said_answering s (g ∷ gs) h = (h, refl, refl)

pub embargo_moves :
    {sizes : Sizes} {i f : ℕ} {t₀ : List ℕ} {a₀ : Stores} {words₀ t : List ℕ} {a : Stores} {words : List ℕ} {at : ℕ}
    → Permitted sizes
    → (flags₀ : List Bool)
    → length flags₀ ≡ lent_flags
    → first_of (embargo_tests sizes (recovering_held flags₀) (entry_held t₀ (f % max_files)) i f) ≡ 0
    → Forgets sizes i sizes.files t₀ a₀ words₀ (0 ∷ []) t a words at
    → (said : ℕ)
    → said ≡ 65 + 256 * at
    → MovesAll sizes (Embargo i f) t₀ flags₀ a₀ words₀ t (flagged flags₀ i true) a words said
embargo_moves {sizes} {i} {f} {t₀} {a₀} {words₀} {t} {a} {words} {at} most flags₀ size passes r said tells-it =
    let hi = embargo_there sizes (recovering_held flags₀) (entry_held t₀ (f % max_files)) i f passes in
    done_moves sizes (Embargo i f) t₀ flags₀ a₀ words₀ t (flagged flags₀ i true) a words said
    (λ given. embargo_tested sizes given t₀ flags₀ a₀ i f most ∙ passes)
    r.long
    (length-set flags₀ (max_clients + 1 + i) true)
    (λ given.
    let s = service_held given t₀ flags₀ a₀ in
    aside most hi r flags₀ size given ∙ sym (answering_service (put_aside sizes s i) (grants_aside sizes s i)))
    (λ given.
    let s = service_held given t₀ flags₀ a₀ in
    let gs = grants_aside sizes s i in
    said_answering (put_aside sizes s i) gs
    (answer_grants_said words₀ gs words said
    (few-granted most hi r flags₀ size given)
    (spoken most hi r flags₀ size given)
    (tells-it ∙ ap (λ n. 65 + 256 * n) (counted most hi r flags₀ size given))))

-- a lift says K alone
pub lift_moves :
    {sizes : Sizes} {i : ℕ} {t₀ : List ℕ} {a₀ : Stores} {t : List ℕ} {a : Stores}
    → Permitted sizes
    → i < sizes.clients
    → Drops sizes i sizes.files t₀ a₀ t a
    → (flags₀ flags : List Bool)
    → length flags₀ ≡ lent_flags
    → not (get_or flags₀ (max_clients + 1 + i) false) ≡ false
    → flags ≡ tells flags₀ i
    → (words₀ words : List ℕ) (said : ℕ)
    → SaysIn words₀ said words Done no_calls no_grants
    → MovesAll sizes (Lift i) t₀ flags₀ a₀ words₀ t flags a words said
lift_moves {sizes} {i} {t₀} {a₀} {t} {a} most hi d flags₀ flags size under is words₀ words said says =
    let fit = client_fits most hi in
    done_moves sizes (Lift i) t₀ flags₀ a₀ words₀ t flags a words said
    (λ given. lift_tested sizes given t₀ flags₀ a₀ i hi fit ∙ ap (λ b. cond b 21 0) under)
    d.long
    (ap length is ∙ tells_long flags₀ i fit)
    (λ given.
    ap (λ (l : List Bool). service_held given t l a) is
    ∙ tells_service flags₀ i size fit given t a
    ∙ ap (λ (s : Service). with_table s (heard i (marking false i (table_in s)))) (d.service given flags₀))
    (λ given. (says, refl, refl))

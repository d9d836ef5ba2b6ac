-- A step that was taken makes the trace that its definition gives: what the station could do itself is looked up at
-- wrapped numbers, which an accepted step has as they are, and the records of a refusal do not look at it. A line that
-- is no step makes no record. At most max_blocks blocks are sent, and the records of a step have room. Assumes nothing.
use Prim.Native.Nat.{ℕ, zero, suc, ◌+◌, ◌%◌, ◌≤◌, ◌<◌}
use native.Mathlib.Nat.{mod-eq_of_lt, min-le_left}
use native.Mathlib.Omega.{arith}
use mathlib.Core.Path.{◌≡◌, refl, sym, ap, ap₂, subst⁻¹, ◌∙◌}
use mathlib.Core.Bool.{Bool, true, false, cond, not, ◌||◌}
use mathlib.Core.List.{List, [], ◌∷◌, ◌++◌}
use lib.Dec.{eqb}
use lib.ListN.{length, get_or, replicate, length-append, length-take, length-replicate}
use borrow.Author.Tests.{leb-false}
use Rattle.sizes.specs.declared.sizes.Sizes.{Sizes}
use Rattle.sizes.specs.Sizes.{max_clients, max_files, max_blocks, nobody, in_force, cell}
use Rattle.sizes.proofs.InForce.{in_force_permitted, client_fits, file_fits, block_fits}
use Rattle.records.specs.declared.record.Mode.TheVariants.{Read as ForRead, Write as ForWrite}
use Rattle.decision.specs.Callback.{writes_back, call_if, ordered_calls}
use Rattle.decision.proofs.Counting.{count_at_most}
use Rattle.protocol.specs.declared.client.ClientFile.{ClientFile}
use Rattle.protocol.specs.declared.client.Sides.{Sides}
use Rattle.protocol.specs.declared.reply.Granting.{Granting}
use Rattle.protocol.specs.declared.reply.Reply.{Reply}
use Rattle.protocol.specs.declared.reply.Reply.TheVariants as replies
use Rattle.protocol.specs.declared.step.Step.{Step}
use Rattle.protocol.specs.declared.step.Step.TheVariants.{Open, Close, Read, Write, Flush, Answer, Crash, Report, End}
use Rattle.protocol.specs.declared.step.Step.TheVariants.{Restart, Embargo, Lift}
use Rattle.protocol.specs.Client.{no_client, side_of}
use Rattle.protocol.specs.Entry.{call_to, calls_for, calls_out, answered_entry}
use Rattle.protocol.specs.Needs.{needs_server}
use Rattle.protocol.specs.Reply.{is_refused, brought, no_granting, no_grants, placed}
use Rattle.protocol.specs.Step.{client_of, file_of, block_of}
use Rattle.blocks.specs.declared.stores.Stores.{Stores}
use Rattle.blocks.specs.Stores.{sent_blocks, dirty_in}
use Rattle.table.specs.TableStep.{no_sides}
use Rattle.words.specs.Words.{side_held}
use Rattle.words.specs.Rows.{word_at, sides_held}
use Rattle.words.specs.Said.{reply_said, calls_said, grants_said}
use Rattle.words.proofs.Listing.{get_d_listed}
use Rattle.service.specs.declared.service.Service.{Service}
use Rattle.service.specs.declared.outcome.Outcome.{Outcome}
use Rattle.service.specs.Contents.{sizes_of, entry_at, client_at, held_at, stores_of}
use Rattle.service.specs.Embargo.{answering, put_aside, grants_aside}
use Rattle.service.specs.Step.{step_of}
use Rattle.service.specs.Lent.{service_held, Stepped}
use Rattle.service.specs.Demand3.{refused}
use Rattle.service.proofs.Tests.{split, conflict}
use Rattle.service.proofs.Accepted.{done_of, refusal_of, accepted, rejected, when_accepted}
use Rattle.service.proofs.Speaking.{stepped_outcome}
use Rattle.trace.specs.declared.record.TraceKind.TheVariants.{Sent}
use Rattle.trace.specs.declared.record.TraceOutcome.TheVariants.{Done}
use Rattle.trace.specs.Records.{noted, names_station, sends_one, sent_by, call_records, open_record, open_records}
use Rattle.trace.specs.Records.{records_of, serves_itself, itself_found, trace_of, trace_room}
use Rattle.std.proofs.Common.{Some}

-- ---- what a station does itself

or_none_lem : (a : Bool) → (a || false) ≡ a
or_none_lem true = refl
or_none_lem false = refl

-- the records of a refusal do not look at it
pub refused_alike :
    (stations : ℕ) (x : Step) (k : ℕ) (calls : List ℕ) (grants : List Granting) (a b : Bool)
    → records_of stations x a (replies.Refused k) calls grants ≡ records_of stations x b (replies.Refused k) calls grants
unfolding records_of
refused_alike stations x k calls grants a b = refl

pub refusal_alike :
    (stations : ℕ) (x : Step) (reply : Reply) (calls : List ℕ) (grants : List Granting) (a b : Bool)
    → is_refused reply ≡ true
    → records_of stations x a reply calls grants ≡ records_of stations x b reply calls grants
refusal_alike stations x (replies.Granted g) calls grants a b e = conflict e refl
refusal_alike stations x replies.Waiting calls grants a b e = conflict e refl
refusal_alike stations x (replies.Value v) calls grants a b e = conflict e refl
refusal_alike stations x (replies.Refused k) calls grants a b e = refused_alike stations x k calls grants a b
refusal_alike stations x (replies.Answered n) calls grants a b e = conflict e refl
refusal_alike stations x (replies.AnsweredGrant n i g) calls grants a b e = conflict e refl
refusal_alike stations x replies.Done calls grants a b e = conflict e refl

-- ---- how many blocks are sent

one_few : (t : Bool) → cond t 1 0 ≤ max_blocks
one_few true = omega arith
one_few false = omega arith

-- an answer: those that are dirty, of the blocks in force
blocks_few : (n kind i f : ℕ) (a : Stores) → n ≤ max_blocks → sent_blocks n kind i f a ≤ max_blocks
blocks_few n kind i f a fits =
    split (writes_back kind)
    (λ e. rw e (omega (arith, fits, count_at_most n (λ b. dirty_in a i f b))))
    (λ e. rw e (omega arith))

-- an embargo: none
answering_few :
    (x : Step) (t : Bool) (s : Service) (gs : List Granting) → sent_by x t (answering s gs).reply ≤ max_blocks
answering_few x t s [] = omega arith
answering_few x t s (g ∷ gs) = omega arith

-- what is done, where z are the sizes in force
done_few :
    (z : Sizes) (s : Service) (x : Step) (t : Bool)
    → z.blocks ≤ max_blocks
    → sent_by x t (done_of z s x).reply ≤ max_blocks
done_few z s (Open m i f) t fits =
    split (eqb (calls_for z.clients (entry_at s f) i m) 0) (λ e. rw e (omega arith)) (λ e. rw e (omega arith))
done_few z s (Close m i f) t fits = one_few (sends_one (Close m i f) t)
done_few z s (Read i f b) t fits = omega arith
done_few z s (Write i f b v) t fits = one_few (sends_one (Write i f b v) t)
done_few z s (Flush i f b) t fits = omega arith
done_few z s (Answer i f) t fits =
    let kind = call_to z.clients (entry_at s f) i in
    let few = blocks_few z.blocks kind i f (stores_of s) fits in
    split (eqb (calls_out z.clients (answered_entry (entry_at s f) i kind)) 0) (λ e. rw e few) (λ e. rw e few)
done_few z s Crash t fits = omega arith
done_few z s (Report i) t fits = omega arith
done_few z s End t fits = omega arith
done_few z s (Restart i) t fits = omega arith
done_few z s (Embargo i f) t fits = answering_few (Embargo i f) t (put_aside z s i) (grants_aside z s i)
done_few z s (Lift i) t fits = omega arith

pub sent_few : (s : Service) (x : Step) (t : Bool) → sent_by x t (step_of s x).reply ≤ max_blocks
sent_few s x t =
    let Few : Outcome → Type 0 = λ o. sent_by x t o.reply ≤ max_blocks in
    split (eqb (refusal_of s x) 0)
    (λ e. subst⁻¹ Few (accepted s x e) (done_few (sizes_of s) s x t (in_force_permitted s.sizes).blocks))
    (λ e. subst⁻¹ Few (rejected s x e) (omega arith))

-- ---- wrapped numbers

-- what is found of the station at the wrapped places
abbrev found_itself : Service → Step → Bool
found_itself s x =
    let i = client_of x % max_clients in
    let f = file_of x % max_files in
    not (needs_server x (client_at s i f) (held_at s i f (block_of x % max_blocks)) false)

module _ (s : Service) where
  same_client : (i : ℕ) → i < (sizes_of s).clients → i % max_clients ≡ i
  same_client i there = mod-eq_of_lt (client_fits (in_force_permitted s.sizes) there)

  same_file : (f : ℕ) → f < (sizes_of s).files → f % max_files ≡ f
  same_file f there = mod-eq_of_lt (file_fits (in_force_permitted s.sizes) there)

  same_block : (b : ℕ) → b < (sizes_of s).blocks → b % max_blocks ≡ b
  same_block b there = mod-eq_of_lt (block_fits (in_force_permitted s.sizes) there)

  -- an accepted step names what there is, and only a read and a write look at it
  found_itself_lem : (x : Step) → refused s x ≡ false → found_itself s x ≡ serves_itself s x
  found_itself_lem (Open ForRead i f) a = refl
  found_itself_lem (Open ForWrite i f) a = refl
  found_itself_lem (Close ForRead i f) a = refl
  found_itself_lem (Close ForWrite i f) a = refl
  found_itself_lem (Read i f b) a =
      let (client, (file, (block, _))) = (when_accepted s (Read i f b) refl a).0 in
      rw
      (same_client i (leb-false _ i client), same_file f (leb-false _ f file), same_block b (leb-false _ b block))
      refl
  found_itself_lem (Write i f b v) a =
      let (client, (file, _)) = (when_accepted s (Write i f b v) refl a).0 in
      rw (same_client i (leb-false _ i client), same_file f (leb-false _ f file)) refl
  found_itself_lem (Flush i f b) a = refl
  found_itself_lem (Answer i f) a = refl
  found_itself_lem Crash a = refl
  found_itself_lem (Report i) a = refl
  found_itself_lem End a = refl
  found_itself_lem (Restart i) a = refl
  found_itself_lem (Embargo i f) a = refl
  found_itself_lem (Lift i) a = refl

  -- so the trace goes by what is found
  found_traced :
      (x : Step)
      → records_of (sizes_of s).clients x (found_itself s x) (step_of s x).reply (step_of s x).calls
      (step_of s x).grants
      ≡ trace_of s x
  found_traced x =
      let o = step_of s x in
      split (refused s x)
      (λ e.
      refusal_alike (sizes_of s).clients x o.reply o.calls o.grants (found_itself s x)
      (serves_itself s x) e)
      (λ e.
      ap (λ t. records_of (sizes_of s).clients x t o.reply o.calls o.grants) (found_itself_lem x e))

-- ---- a line

-- the client's side in the arrays is the one of the service that they hold
side_there :
    (z : Sizes) (t : List ℕ) (flags : List Bool) (a : Stores) (i f : ℕ)
    → i < max_clients
    → f < max_files
    → side_held (word_at t f (10 + i)) ≡ client_at (service_held z t flags a) i f
side_there z t flags a i f client file =
    sym (get_d_listed max_clients (λ j. side_held (word_at t f (10 + j))) no_client i client)
    ∙ ap (λ (d : Sides). side_of d i) (sym (get_d_listed max_files (λ g. sides_held t g) no_sides f file))

-- of a step: what is found in the service that is held
itself_there :
    (given : Sizes) (x : Step) (t₀ : List ℕ) (flags₀ : List Bool) (a₀ : Stores)
    → itself_found (Some x) t₀ a₀.held ≡ found_itself (service_held given t₀ flags₀ a₀) x
itself_there given x t₀ flags₀ a₀ =
    let i = client_of x % max_clients in
    let f = file_of x % max_files in
    let held = get_or a₀.held (cell i f (block_of x % max_blocks)) false in
    ap (λ (own : ClientFile). not (needs_server x own held false))
    (side_there given t₀ flags₀ a₀ i f (omega arith) (omega arith))

-- a line that is a step makes its trace
pub step_traced :
    (given : Sizes) (x : Step) (t₀ : List ℕ) (flags₀ : List Bool) (a₀ : Stores) (words₀ t : List ℕ) (flags : List Bool)
    (a : Stores) (words : List ℕ) (said : ℕ)
    → Stepped given (Some x) t₀ flags₀ a₀ words₀ t flags a words said
    → (itself : Bool)
    → itself ≡ itself_found (Some x) t₀ a₀.held
    → (stations : ℕ)
    → stations ≡ (in_force given).clients
    → (sent_by x itself (reply_said said words) ≤ max_blocks)
    × (records_of stations x itself (reply_said said words) (calls_said said words) (grants_said said words)
    ≡ trace_of (service_held given t₀ flags₀ a₀) x)
step_traced given x t₀ flags₀ a₀ words₀ t flags a words said taken itself found stations force =
    let s = service_held given t₀ flags₀ a₀ in
    let o = step_of s x in
    let outcome = stepped_outcome given x t₀ flags₀ a₀ words₀ t flags a words said taken in
    let reply : reply_said said words ≡ o.reply = ap (λ (k : Outcome). k.reply) outcome in
    let calls : calls_said said words ≡ o.calls = ap (λ (k : Outcome). k.calls) outcome in
    let grants : grants_said said words ≡ o.grants = ap (λ (k : Outcome). k.grants) outcome in
    let known : itself ≡ found_itself s x = found ∙ itself_there given x t₀ flags₀ a₀ in (
      subst⁻¹ (λ (r : Reply). sent_by x itself r ≤ max_blocks) reply (sent_few s x itself),
      (λ k. records_of (force k) x (known k) (reply k) (calls k) (grants k)) ∙ found_traced s x,
    )

-- ---- the records have room

call_few : (i k : ℕ) → length (call_if i k) ≤ 1
call_few i k = split (eqb k 0) (λ e. rw e (omega arith)) (λ e. rw e (omega arith))

ordered_few : (n : ℕ) (calls : List ℕ) → length (ordered_calls n calls) ≤ n
unfolding ordered_calls
ordered_few zero calls = omega arith
ordered_few (suc n) calls =
    let last = call_if n (get_or calls n 0) in
    rw (length-append (ordered_calls n calls) last) (omega (arith, ordered_few n calls, call_few n (get_or calls n 0)))

-- one record for each call, and at most one for each grant
calls_long : (cs : List (ℕ × ℕ)) → length (call_records cs) ≡ length cs
unfolding call_records
calls_long [] = refl
calls_long (c ∷ cs) = ap suc (calls_long cs)

open_few : (opener : ℕ) → length (open_record opener) ≤ 1
open_few opener = split (eqb opener nobody) (λ e. rw e (omega arith)) (λ e. rw e (omega arith))

opens_few : (gs : List Granting) → length (open_records gs) ≤ length gs
unfolding open_records
opens_few [] = omega arith
opens_few (g ∷ gs) =
    rw (length-append (open_record g.client) (open_records gs))
    (omega (arith, opens_few gs, open_few g.client))

brought_few : (reply : Reply) → length (brought reply) ≤ 1
brought_few (replies.Granted g) = omega arith
brought_few replies.Waiting = omega arith
brought_few (replies.Value v) = omega arith
brought_few (replies.Refused k) = omega arith
brought_few (replies.Answered n) = omega arith
brought_few (replies.AnsweredGrant n i g) = omega arith
brought_few replies.Done = omega arith

-- the grants that stand beside a reply
none_long : length no_grants ≤ max_files
none_long = rw (length-replicate max_files no_granting) (omega arith)

placed_few : (gs : List Granting) → length (placed gs) ≤ max_files
placed_few gs = rw (length-take max_files (gs ++ no_grants)) (min-le_left max_files (length (gs ++ no_grants)))

answering_placed : (s : Service) (gs : List Granting) → length (answering s gs).grants ≤ max_files
answering_placed s [] = placed_few []
answering_placed s (g ∷ gs) = placed_few gs

done_grants : (z : Sizes) (s : Service) (x : Step) → length (done_of z s x).grants ≤ max_files
done_grants z s (Open m i f) = none_long
done_grants z s (Close m i f) = none_long
done_grants z s (Read i f b) = none_long
done_grants z s (Write i f b v) = none_long
done_grants z s (Flush i f b) = none_long
done_grants z s (Answer i f) = none_long
done_grants z s Crash = none_long
done_grants z s (Report i) = none_long
done_grants z s End = none_long
done_grants z s (Restart i) = placed_few (grants_aside z s i)
done_grants z s (Embargo i f) = answering_placed (put_aside z s i) (grants_aside z s i)
done_grants z s (Lift i) = none_long

pub grants_few : (s : Service) (x : Step) → length (step_of s x).grants ≤ max_files
grants_few s x =
    let Fit : Outcome → Type 0 = λ o. length o.grants ≤ max_files in
    split (eqb (refusal_of s x) 0)
    (λ e. subst⁻¹ Fit (accepted s x e) (done_grants (sizes_of s) s x))
    (λ e. subst⁻¹ Fit (rejected s x e) none_long)

-- of any reply that sends no more blocks than there can be in a file, with no more grants than there can be files
pub records_fit :
    (stations : ℕ) (x : Step) (itself : Bool) (reply : Reply) (calls : List ℕ) (grants : List Granting)
    → sent_by x itself reply ≤ max_blocks
    → length grants ≤ max_files
    → length (records_of stations x itself reply calls grants) ≤ trace_room
unfolding records_of
records_fit stations x itself reply calls grants few fit =
    let n = sent_by x itself reply in
    let sent = replicate n (noted (client_of x) Sent Done) in
    let called = call_records (ordered_calls max_clients calls) in
    let opened = open_records (brought reply ++ grants) in
    let long : length (sent ++ (called ++ opened)) ≡ n + (length (ordered_calls max_clients calls) + length opened) =
    length-append sent (called ++ opened)
    ∙ ap₂ ◌+◌ (length-replicate n (noted (client_of x) Sent Done))
    (length-append called opened ∙ ap (λ (k : ℕ). k + length opened) (calls_long (ordered_calls max_clients calls))) in
    split (names_station stations x)
    (λ e.
    rw e
    (omega (
      arith,
      long,
      few,
      fit,
      ordered_few max_clients calls,
      opens_few (brought reply ++ grants),
      length-append (brought reply) grants,
      brought_few reply,
    )))
    (λ e. rw e (omega arith))

pub trace_fits : (s : Service) (x : Step) → length (trace_of s x) ≤ trace_room
trace_fits s x =
    let o = step_of s x in
    records_fit (sizes_of s).clients x (serves_itself s x) o.reply o.calls o.grants
    (sent_few s x (serves_itself s x)) (grants_few s x)

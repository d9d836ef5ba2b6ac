-- The records of a line, noted one after the other: each is stored after those that count, and counts itself or is
-- stored over. Assumes nothing.
use Prim.Native.Nat.{ℕ, ◌+◌, ◌≤◌, ◌<◌}
use mathlib.Core.Path.{◌≡◌, refl, sym, ap, ◌∙◌, subst}
use mathlib.Core.Bool.{Bool, true, false, cond, not}
use mathlib.Core.List.{List, [], ◌∷◌, ◌++◌, append-nil, append_assoc}
use native.Mathlib.Nat.{add-zero, le_refl}
use native.Mathlib.Numerals.{add-one}
use native.Mathlib.Omega.{arith}
use lib.Dec.{eqb}
use lib.ListN.{length, get_or, set, take, replicate, length-set, replicate-append-replicate}
use lib.Seq.{take-suc, take-set-le, take-suc-set}
use Rattle.sizes.proofs.Choosing.{split, cond_not}
use Rattle.sizes.specs.Sizes.{max_clients, nobody}
use Rattle.decision.specs.Callback.{ordered_calls, call_if}
use Rattle.protocol.specs.declared.reply.Granting.{Granting}
use Rattle.protocol.specs.declared.reply.Reply.{Reply}
use Rattle.protocol.specs.declared.step.Step.{Step}
use Rattle.protocol.specs.Reply.{brought, no_granting}
use Rattle.protocol.specs.Step.{client_of}
use Rattle.words.specs.Said.{calls?, letter_said, calls_said}
use Rattle.trace.specs.declared.record.TraceKind.TheVariants.{Open, Sent, Call}
use Rattle.trace.specs.declared.record.TraceOutcome.TheVariants.{Done}
use Rattle.trace.specs.declared.record.TraceRecord.{TraceRecord}
use Rattle.trace.specs.Records.{noted, names_station, kind_of, outcome_of, sent_by, call_records, open_record, open_records}
use Rattle.trace.specs.Records.{records_of, trace_room}

-- a record is stored after those that count
store :
    (records : List TraceRecord) (count : ℕ) (r : TraceRecord) (b : Bool)
    → count < length records
    → take (count + cond b 1 0) (set records count r) ≡ take count records ++ cond b (r ∷ []) []
store records count r true below = rw add-one (take-suc-set records count r below)
store records count r false below =
    rw add-zero (take-set-le count records count r (le_refl count) ∙ sym (append-nil (take count records)))

-- ---- the lists of records grow at their ends

-- the records of lists that stand one after the other
calls_after_lem : (a b : List (ℕ × ℕ)) → call_records (a ++ b) ≡ call_records a ++ call_records b
unfolding call_records
calls_after_lem [] b = refl
calls_after_lem (c ∷ a) b = ap (λ (l : List TraceRecord). noted c.0 Call Done ∷ l) (calls_after_lem a b)

opens_after : (a b : List Granting) → open_records (a ++ b) ≡ open_records a ++ open_records b
unfolding open_records
opens_after [] b = refl
opens_after (g ∷ a) b =
    ap (λ (l : List TraceRecord). open_record g.client ++ l) (opens_after a b)
    ∙ sym (append_assoc (open_record g.client) (open_records a) (open_records b))

-- the record of one call, where there is one
call_record : (called kind : ℕ) → call_records (call_if called kind) ≡ cond (not (eqb kind 0)) (noted called Call Done ∷ []) []
unfolding call_records
call_record called kind = split (eqb kind 0) (λ e. rw e) (λ e. rw e)

-- one more station, and one more open
call_next :
    (called : ℕ) (calls : List ℕ) (v : TraceRecord)
    → v ≡ noted called Call Done
    → call_records (ordered_calls called calls) ++ cond (not (eqb (get_or calls called 0) 0)) (v ∷ []) []
    ≡ call_records (ordered_calls (called + 1) calls)
unfolding ordered_calls
call_next called calls v is =
    let kind = get_or calls called 0 in
    rw (add-one, is)
    (ap (λ (l : List TraceRecord). call_records (ordered_calls called calls) ++ l) (sym (call_record called kind))
    ∙ sym (calls_after_lem (ordered_calls called calls) (call_if called kind)))

open_next :
    (k : ℕ) (grants : List Granting) (opener : ℕ)
    → k < length grants
    → opener ≡ (get_or grants k no_granting).client
    → open_records (take k grants) ++ open_record opener ≡ open_records (take (k + 1) grants)
unfolding open_records
open_next k grants opener within who =
    let g : Granting = get_or grants k no_granting in
    rw (add-one, take-suc grants k no_granting within, who)
    (sym
    (opens_after (take k grants) (g ∷ [])
    ∙ ap (λ (l : List TraceRecord). open_records (take k grants) ++ l) (append-nil (open_record g.client))))

-- where nobody may be called, nobody is
pub called_all :
    (said : ℕ) (words : List ℕ) (places : ℕ)
    → places ≡ cond (calls? (letter_said said)) max_clients 0
    → call_records (ordered_calls places (calls_said said words)) ≡ call_records (ordered_calls max_clients (calls_said said words))
unfolding ordered_calls call_records
called_all said words places is =
    split (calls? (letter_said said)) (λ w. rw (is, w)) (λ w. rw (is, w))

-- ---- one more record

-- So many turns have added these records to those that counted before; each turn adds one at most.
pub record Noting
    (records₀ : List TraceRecord)
    (count₀ turns : ℕ)
    (records : List TraceRecord)
    (count : ℕ)
    (added : List TraceRecord) : Type 0 where
  pub long : length records ≡ trace_room
  pub few : count ≤ count₀ + turns
  pub first : take count records ≡ take count₀ records₀ ++ added

-- nothing is added yet
pub noting_none : (records : List TraceRecord) (count : ℕ) → length records ≡ trace_room → Noting records count 0 records count []
noting_none records count long =
    record { long = long; few = omega arith; first = sym (append-nil (take count records)) }

module _
    (records₀ : List TraceRecord)
    (count₀ : ℕ)
    (records : List TraceRecord)
    (count : ℕ)
    (v : TraceRecord)
    (below : count < trace_room)
  where
    -- the record v is stored, and counts or not
    noting-more :
        (turns : ℕ) (added : List TraceRecord) (b : Bool) (one : ℕ)
        → Noting records₀ count₀ turns records count added
        → one ≡ cond b 1 0
        → Noting records₀ count₀ (turns + 1) (set records count v) (count + one) (added ++ cond b (v ∷ []) [])
    noting-more turns added b one so is =
        let room : count < length records = omega (arith, so.long) in
        let most : cond b 1 0 ≤ 1 = split b (λ e. rw e (omega arith)) (λ e. rw e (omega arith)) in
        record {
          long = length-set records count v ∙ so.long;
          few = omega (arith, so.few, most, is);
          first =
              ap (λ n. take (count + n) (set records count v)) is
              ∙ store records count v b room
              ∙ ap (λ (l : List TraceRecord). l ++ cond b (v ∷ []) []) so.first
              ∙ append_assoc (take count₀ records₀) added (cond b (v ∷ []) []);
        }

    -- one more block that was sent
    pub sent-more :
        (station turns : ℕ)
        → v ≡ noted station Sent Done
        → Noting records₀ count₀ turns records count (replicate turns (noted station Sent Done))
        → Noting records₀ count₀ (turns + 1) (set records count v) (count + 1) (replicate (turns + 1) (noted station Sent Done))
    sent-more station turns is so =
        let x : TraceRecord = noted station Sent Done in
        let alike : replicate turns x ++ (v ∷ []) ≡ replicate (turns + 1) x =
        ap (λ (r : TraceRecord). replicate turns x ++ (r ∷ [])) is ∙ replicate-append-replicate turns 1 x in
        subst (λ (l : List TraceRecord). Noting records₀ count₀ (turns + 1) (set records count v) (count + 1) l) alike
        (noting-more turns (replicate turns x) true 1 so refl)

    -- the next station, called or not
    pub call-more :
        (called : ℕ) (calls : List ℕ) (one : ℕ)
        → v ≡ noted called Call Done
        → one ≡ cond (not (eqb (get_or calls called 0) 0)) 1 0
        → Noting records₀ count₀ called records count (call_records (ordered_calls called calls))
        → Noting records₀ count₀ (called + 1) (set records count v) (count + one) (call_records (ordered_calls (called + 1) calls))
    call-more called calls one is counts so =
        subst (λ (l : List TraceRecord). Noting records₀ count₀ (called + 1) (set records count v) (count + one) l)
        (call_next called calls v is)
        (noting-more called (call_records (ordered_calls called calls)) (not (eqb (get_or calls called 0) 0)) one so counts)

    -- an open that may be somebody's
    pub open_more :
        (turns : ℕ) (added : List TraceRecord) (opener one : ℕ)
        → v ≡ noted opener Open Done
        → one ≡ cond (not (eqb opener nobody)) 1 0
        → Noting records₀ count₀ turns records count added
        → Noting records₀ count₀ (turns + 1) (set records count v) (count + one) (added ++ open_record opener)
    open_more turns added opener one is counts so =
        subst (λ (l : List TraceRecord). Noting records₀ count₀ (turns + 1) (set records count v) (count + one) (added ++ l))
        (cond_not (eqb opener nobody) (v ∷ []) [] ∙ ap (λ (r : TraceRecord). cond (eqb opener nobody) [] (r ∷ [])) is)
        (noting-more turns added (not (eqb opener nobody)) one so counts)

    -- the next of the opens that stand beside the reply
    pub beside-more :
        (k : ℕ) (grants : List Granting) (opener one : ℕ)
        → k < length grants
        → opener ≡ (get_or grants k no_granting).client
        → v ≡ noted opener Open Done
        → one ≡ cond (not (eqb opener nobody)) 1 0
        → Noting records₀ count₀ k records count (open_records (take k grants))
        → Noting records₀ count₀ (k + 1) (set records count v) (count + one) (open_records (take (k + 1) grants))
    beside-more k grants opener one within who is counts so =
        subst (λ (l : List TraceRecord). Noting records₀ count₀ (k + 1) (set records count v) (count + one) l)
        (open_next k grants opener within who)
        (open_more k (open_records (take k grants)) opener one is counts so)

-- ---- all of them

-- the lists, put together as they were noted
pub all_noted :
    (own : TraceRecord) (sents calls answered beside first sent called whole : List TraceRecord)
    → first ≡ own ∷ []
    → sent ≡ first ++ sents
    → called ≡ sent ++ (calls ++ answered)
    → whole ≡ called ++ beside
    → whole ≡ own ∷ (sents ++ (calls ++ (answered ++ beside)))
all_noted own sents calls answered beside first sent called whole is-first is-sent is_called is_whole =
    rw (is_whole, is_called, is-sent, is-first) (simp append_assoc)

-- they are the records of the step
pub all_meant :
    (stations : ℕ) (x : Step) (itself : Bool) (reply : Reply) (kinds : List ℕ) (grants : List Granting) (own : TraceRecord)
    (sents calls answered beside : List TraceRecord)
    → names_station stations x ≡ true
    → own ≡ noted (client_of x) (kind_of x) (outcome_of itself reply)
    → sents ≡ replicate (sent_by x itself reply) (noted (client_of x) Sent Done)
    → calls ≡ call_records (ordered_calls max_clients kinds)
    → answered ≡ open_records (brought reply)
    → beside ≡ open_records grants
    → own ∷ (sents ++ (calls ++ (answered ++ beside))) ≡ records_of stations x itself reply kinds grants
unfolding records_of
all_meant stations x itself reply kinds grants own sents calls answered beside named is-own is-sents is-calls is-answered is-beside =
    rw (named, is-own, is-sents, is-calls, is-answered, is-beside, opens_after (brought reply) grants)

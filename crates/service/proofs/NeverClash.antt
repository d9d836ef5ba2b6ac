-- No step of a list from a fresh service is refused with 22. Assumes nothing.
use Prim.Native.Nat.{ℕ, ◌<◌}
use mathlib.Core.Path.{◌≡◌, refl, sym, ap, ◌∙◌, subst}
use mathlib.Core.Bool.{Bool, true, false, cond, not, ◌&&◌}
use mathlib.Core.List.{List, [], ◌∷◌}
use native.Mathlib.Omega.{arith}
use lib.Dec.{eqb, leb, ltb}
use borrow.Author.Tests.{eq-eqb, leb-false, le-ltb, lt-ltb, not-true, not-false}
use Rattle.sizes.specs.declared.sizes.Sizes.{Sizes}
use Rattle.sizes.specs.Sizes.{Permitted, in_force}
use Rattle.sizes.proofs.InForce.{in_force_permitted}
use Rattle.decision.specs.Lists.{first_of}
use Rattle.decision.proofs.Finding.{first_none}
use Rattle.protocol.specs.declared.client.ClientFile.{ClientFile}
use Rattle.protocol.specs.declared.step.Step.{Step}
use Rattle.protocol.specs.declared.step.Step.TheVariants.{Open, Close, Read, Write, Flush, Answer, Crash, Report, End}
use Rattle.protocol.specs.declared.step.Step.TheVariants.{Restart, Embargo, Lift}
use Rattle.protocol.specs.Clash.{clashes_on}
use Rattle.protocol.specs.declared.reply.Reply.TheVariants.{Refused}
use Rattle.protocol.specs.Reply.{is_refused}
use Rattle.protocol.specs.Refusal.{Test}
use Rattle.protocol.specs.Book.{History}
use Rattle.protocol.specs.Table.{Row}
use Rattle.protocol.proofs.View.{View}
use Rattle.protocol.proofs.Invariant.{Running, Recovering}
use Rattle.protocol.proofs.Promises.{Promises}
use Rattle.protocol.proofs.Seen.{clashes_seen}
use Rattle.table.specs.TableStep.{clashing}
use Rattle.service.specs.declared.service.Service.{Service}
use Rattle.service.specs.declared.outcome.Outcome.{Outcome}
use Rattle.service.specs.Contents.{sizes_of, table_in, entry_at, reported_at, embargoed_at, client_at}
use Rattle.service.specs.Demand3.{refused, after, Memory, blank, remembered, Recovery, none, since, recovery_after}
use Rattle.service.specs.Fresh.{fresh}
use Rattle.service.specs.NothingBehind.{after_steps}
use Rattle.service.specs.Reports.{Passes, RulesKept}
use Rattle.service.proofs.Tests.{split, conflict}
use Rattle.service.proofs.Views.{In, view_of, heard_of, client_is}
use Rattle.service.proofs.Accepted.{tests_of, refusal_of, accepts, accepted, rejected}
use Rattle.service.proofs.Invariant.{Recovers, Stands, row_in}
use Rattle.service.proofs.Reached.{Reached, kept_promises, reached-sized, reached_fresh, reached-after}

-- ---- the number of a refusal

-- a list of tests none of which has the number 22
abbrev without22 : List Test → Bool
without22 [] = true
without22 (t ∷ ts) = not (eqb t.1 22) && without22 ts

other_number : (ts : List Test) → without22 ts ≡ true → eqb (first_of ts) 22 ≡ false
other_number [] e = refl
other_number (t ∷ ts) e = by-test t.0 t.1 (first_of ts) (not (eqb t.1 22)) (without22 ts) e refl (other_number ts)
  where
    by-test : (holds : Bool) (k rest : ℕ) (a b : Bool)
        → (a && b) ≡ true
        → a ≡ not (eqb k 22)
        → (b ≡ true → eqb rest 22 ≡ false)
        → eqb (cond holds k rest) 22 ≡ false
    by-test true k rest true b e is h = not-true (eqb k 22) (sym is)
    by-test false k rest true b e is h = h e
    by-test holds k rest false b e is h = conflict e refl

-- a report that is refused with 22 has passed the tests before it
only_clash :
    (a b d e c : Bool)
    → eqb (cond a 2 (cond b 20 (cond d 6 (cond e 7 (cond c 22 0))))) 22 ≡ true
    → (a ≡ false) × (b ≡ false) × (d ≡ false) × (e ≡ false) × (c ≡ true)
only_clash true b d e c h = conflict h refl
only_clash false true d e c h = conflict h refl
only_clash false false true e c h = conflict h refl
only_clash false false false true c h = conflict h refl
only_clash false false false false true h = (refl, refl, refl, refl, refl)
only_clash false false false false false h = conflict h refl

-- ---- a report in a recovery does not clash

module _
    {z : Sizes}
    (most : Permitted z)
    {Running : View → History → Type 0}
    {Recovering : View → History → (ℕ → Bool) → Row → Type 0}
    (promises : Promises z.clients Running Recovering)
    {s : Service}
    {m : Memory}
    {t : List Row}
    (r : Recovers z Recovering s m t) where
  clear :
      (i : ℕ)
      → i < z.clients
      → embargoed_at s i ≡ false
      → reported_at s i ≡ false
      → clashing z (table_in s) s.clients i ≡ false
  clear i hi unbarred again =
      let n = z.clients in
      let here : In z s i = record { below = hi; unbarred = unbarred } in
      let unheard : heard_of z s i ≡ false = rw (lt-ltb i n hi, again, unbarred) in
      ap (λ k. ltb k z.files)
      (first_none z.files (λ f. clashes_on n (reported_at s) (entry_at s f) (client_at s i f))
      (λ f hf.
      let v : View = view_of z s f 0 in
      ap (λ (c : ClientFile). clashes_on n (reported_at s) (entry_at s f) c) (client_is z s f 0 here)
      ∙ sym (clashes_seen n (entry_at s f) (reported_at s) (v.client i))
      ∙ promises.never_clashes v (m f 0) i (heard_of z s) (reported_at s) (row_in z t f) (r.views f 0 hf most.some_block) unheard
      (λ j hj a. rw (lt-ltb j n hj, a))))
      ∙ le-ltb z.files z.files (omega arith)

module _
    {z : Sizes}
    (most : Permitted z)
    (Running : View → History → Type 0)
    (Recovering : View → History → (ℕ → Bool) → Row → Type 0)
    (promises : Promises z.clients Running Recovering) where
  no_report :
      (s : Service) (m : Memory) (r : Recovery) (i : ℕ)
      → Stands z Running Recovering s m r
      → eqb (first_of (tests_of z s (Report i))) 22 ≡ true
      → ⊥
  no_report s m none i h e =
      let (_, _, runs, _, _) = only_clash (leb z.clients i) (embargoed_at s i) (not (table_in s).recovering) (reported_at s i)
      (clashing z (table_in s) s.clients i) e in
      conflict (not-false (table_in s).recovering runs) h.state
  no_report s m (since t) i h e =
      let (client, unbarred, _, again, clash) = only_clash (leb z.clients i) (embargoed_at s i) (not (table_in s).recovering)
      (reported_at s i) (clashing z (table_in s) s.clients i) e in
      conflict clash (clear most promises h i (leb-false z.clients i client) unbarred again)

  no_22 :
      (s : Service) (m : Memory) (r : Recovery) (x : Step)
      → Stands z Running Recovering s m r
      → eqb (first_of (tests_of z s x)) 22 ≡ true
      → ⊥
  no_22 s m r (Open o i f) h e = conflict e (other_number (tests_of z s (Open o i f)) refl)
  no_22 s m r (Close o i f) h e = conflict e (other_number (tests_of z s (Close o i f)) refl)
  no_22 s m r (Read i f b) h e = conflict e (other_number (tests_of z s (Read i f b)) refl)
  no_22 s m r (Write i f b v) h e = conflict e (other_number (tests_of z s (Write i f b v)) refl)
  no_22 s m r (Flush i f b) h e = conflict e (other_number (tests_of z s (Flush i f b)) refl)
  no_22 s m r (Answer i f) h e = conflict e (other_number (tests_of z s (Answer i f)) refl)
  no_22 s m r Crash h e = conflict e refl
  no_22 s m r (Report i) h e = no_report s m r i h e
  no_22 s m r End h e = conflict e (other_number (tests_of z s End) refl)
  no_22 s m r (Restart i) h e = conflict e (other_number (tests_of z s (Restart i)) refl)
  no_22 s m r (Embargo i f) h e = conflict e (other_number (tests_of z s (Embargo i f)) refl)
  no_22 s m r (Lift i) h e = conflict e (other_number (tests_of z s (Lift i)) refl)

  passes : (s : Service) (m : Memory) (r : Recovery) (x : Step) → sizes_of s ≡ z → Stands z Running Recovering s m r → Passes s x
  passes s m r x size h is =
      split (eqb (refusal_of s x) 0)
      (λ e.
      conflict
      (sym (ap (λ (o : Outcome). is_refused o.reply) (accepted s x e)) ∙ ap is_refused is)
      (accepts (sizes_of s) s x))
      (λ e.
      let same : Refused (refusal_of s x) ≡ Refused 22 = sym (ap (λ (o : Outcome). o.reply) (rejected s x e)) ∙ is in
      let number : refusal_of s x ≡ 22 = cc in
      no_22 s m r x h
      (subst (λ (z : Sizes). eqb (first_of (tests_of z s x)) 22 ≡ true) size (eq-eqb (refusal_of s x) 22 number)))

-- ---- over whole lists

pub passes_at : (z : Sizes) (s : Service) (m : Memory) (r : Recovery) → Reached z s m r → (x : Step) → Passes s x
passes_at z s m r h x =
    passes (in_force_permitted z) (Running (in_force z).clients) (Recovering (in_force z).clients) (kept_promises z) s m r x
    (reached-sized z s m r h).sizes h.stands

passes_after :
    (z : Sizes) (s : Service) (m : Memory) (r : Recovery)
    → Reached z s m r
    → (steps : List Step) (x : Step)
    → Passes (after_steps s steps) x
passes_after z s m r h [] x = passes_at z s m r h x
passes_after z s m r h (y ∷ steps) x =
    passes_after z (after s y) (remembered s m y) (recovery_after s r y (refused s y)) (reached-after z s m r h y) steps x

pub rules_kept : RulesKept
rules_kept z = record { passes = passes_after z (fresh z) blank none (reached_fresh z) }

-- "23 when such a write finds nothing free, and only then": a step that is refused for want of a place is a write that
-- takes one, and none is free. Assumes nothing.
use native.Mathlib.Omega.{arith}
use mathlib.Core.Path.{◌≡◌, refl, sym, ap, ◌∙◌}
use mathlib.Core.Bool.{Bool, true, false, cond, ◌||◌}
use mathlib.Core.List.{List, [], ◌∷◌}
use lib.Dec.{eqb}
use borrow.Author.Tests.{eqb-true, eq-eqb}
use Rattle.decision.specs.Lists.{first_of}
use Rattle.protocol.specs.declared.reply.Reply.TheVariants.{Refused}
use Rattle.protocol.specs.declared.step.Step.{Step}
use Rattle.protocol.specs.declared.step.Step.TheVariants.{Open, Close, Read, Write, Flush, Answer, Crash, Report, End}
use Rattle.protocol.specs.declared.step.Step.TheVariants.{Restart, Embargo, Lift}
use Rattle.protocol.specs.Refusal.{Test}
use Rattle.protocol.specs.Reply.{is_refused}
use Rattle.service.specs.declared.service.Service.{Service}
use Rattle.service.specs.declared.outcome.Outcome.{Outcome}
use Rattle.service.specs.Contents.{sizes_of, free_of}
use Rattle.service.specs.Space.{takes_place, is_full}
use Rattle.service.specs.Store.{Crowded}
use Rattle.service.proofs.Tests.{split, either, conflict, when, unless, both}
use Rattle.service.proofs.Accepted.{tests_in, tests_of, refusal_of, accepts, accepted, rejected}
use Rattle.service.proofs.Committed.{or_true}

-- a test with the number 23 holds
abbrev wants_place : List Test → Bool
wants_place [] = false
wants_place (t ∷ ts) = cond (eqb t.1 23) (wants_place ts || t.0) (wants_place ts)

-- a list of tests that gives 23
first_wants : (ts : List Test) → first_of ts ≡ 23 → wants_place ts ≡ true
first_wants [] e = absurd (omega (arith, e))
first_wants (t ∷ ts) e =
    split t.0
    (λ holds.
    let is : t.1 ≡ 23 = sym (when t.1 (first_of ts) holds) ∙ e in
    when (wants_place ts || t.0) (wants_place ts) (eq-eqb t.1 23 is)
    ∙ ap (λ b. wants_place ts || b) holds
    ∙ or_true (wants_place ts))
    (λ fails.
    let later : wants_place ts ≡ true = first_wants ts (sym (unless t.1 (first_of ts) fails) ∙ e) in
    either (λ b. b ≡ true) (eqb t.1 23) (λ is. ap (λ b. b || t.0) later) (λ other. later))

-- only a write tests that; `takes` says whether it takes a place, `full` whether none is free
only_writes :
    (takes full : Bool) (s : Service) (x : Step)
    → wants_place (tests_in takes full (sizes_of s) s x) ≡ true
    → (takes ≡ true) × (full ≡ true)
only_writes takes full s (Open m i f) e = conflict e refl
only_writes takes full s (Close m i f) e = conflict e refl
only_writes takes full s (Read i f b) e = conflict e refl
only_writes takes full s (Write i f b v) e = both takes full e
only_writes takes full s (Flush i f b) e = conflict e refl
only_writes takes full s (Answer i f) e = conflict e refl
only_writes takes full s Crash e = conflict e refl
only_writes takes full s (Report i) e = conflict e refl
only_writes takes full s End e = conflict e refl
only_writes takes full s (Restart i) e = conflict e refl
only_writes takes full s (Embargo i f) e = conflict e refl
only_writes takes full s (Lift i) e = conflict e refl

pub crowded : (s : Service) (x : Step) → Crowded s x
crowded s x refusal =
    split (eqb (refusal_of s x) 0)
    (λ e.
    conflict (ap is_refused (sym (ap (λ (o : Outcome). o.reply) (accepted s x e)) ∙ refusal)) (accepts (sizes_of s) s x))
    (λ e.
    let same : Refused (refusal_of s x) ≡ Refused 23 = sym (ap (λ (o : Outcome). o.reply) (rejected s x e)) ∙ refusal in
    let is : refusal_of s x ≡ 23 = cc in
    let (takes, full) =
    only_writes (takes_place s x) (is_full s) s x (first_wants (tests_of (sizes_of s) s x) is) in
    (takes, eqb-true (free_of s) 0 full))

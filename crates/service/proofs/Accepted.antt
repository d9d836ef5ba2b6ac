-- A step that is accepted has passed each of its tests and does what its definitions say; one that is refused changes
-- nothing. It leads to the theorem on whole lists of steps. Assumes nothing.
use Prim.Native.Nat.{ℕ}
use mathlib.Core.Path.{◌≡◌, refl, ap, ◌∙◌, subst, subst⁻¹}
use mathlib.Core.Bool.{Bool, true, false, cond}
use mathlib.Core.List.{List, [], ◌∷◌}
use lib.Dec.{eqb}
use Rattle.sizes.specs.declared.sizes.Sizes.{Sizes}
use Rattle.decision.specs.Lists.{first_of}
use Rattle.protocol.specs.declared.reply.Granting.{Granting}
use Rattle.protocol.specs.declared.reply.Reply.TheVariants.{Refused, Done}
use Rattle.protocol.specs.declared.step.Step.{Step}
use Rattle.protocol.specs.declared.step.Step.TheVariants.{Open, Close, Read, Write, Flush, Answer, Crash, Report, End}
use Rattle.protocol.specs.declared.step.Step.TheVariants.{Restart, Embargo, Lift}
use Rattle.protocol.specs.Entry.{call_to, calls_for, calls_out}
use Rattle.protocol.specs.Refusal.{Test, open_tests, close_tests, read_tests, write_tests, flush_tests, answer_tests}
use Rattle.protocol.specs.Refusal.{restart_tests, embargo_tests, lift_tests}
use Rattle.protocol.specs.Reply.{is_refused}
use Rattle.access.specs.BlockStep.{after_read, after_write, block_step}
use Rattle.protocol.specs.Reply.{no_calls, no_grants}
use Rattle.file.specs.FileStep.{FileAfter, after_open, after_close, after_flush, answered, after_answer, file_step}
use Rattle.table.specs.TableStep.{clashing, report_tests, end_tests, crashed, reported, ended, table_step}
use Rattle.service.specs.declared.service.Service.{Service}
use Rattle.service.specs.declared.outcome.Outcome.{Outcome}
use Rattle.service.specs.Contents.{sizes_of, table_in, entry_at, reported_at, embargoed_at, client_at, held_at, dirty_at, file_at}
use Rattle.service.specs.Contents.{stores_of, with_space}
use Rattle.service.specs.Space.{takes_place, is_full, spaced}
use Rattle.service.specs.Embargo.{grants_aside, put_aside, told, restarted, granting, answering, all_step}
use Rattle.service.specs.Step.{file_outcome, block_outcome, table_outcome, moved, with_store, step_of}
use Rattle.service.specs.Demand3.{refused, after}
use Rattle.service.proofs.Tests.{split, either, conflict, when, unless}
use Rattle.service.proofs.OneFile.{same_file}

-- ---- a list of tests

-- none of the tests holds
abbrev pub Passed : List Test → Type 0
Passed [] = Unit {0}
Passed (t ∷ ts) = (t.0 ≡ false) × Passed ts

-- no refusal has the number 0
abbrev numbered : List Test → Bool
numbered [] = true
numbered (t ∷ ts) = cond (eqb t.1 0) false (numbered ts)

pass :
    (holds : Bool) (k rest : ℕ) (later : Bool)
    → cond (eqb k 0) false later ≡ true
    → eqb (cond holds k rest) 0 ≡ true
    → (holds ≡ false) × (later ≡ true) × (eqb rest 0 ≡ true)
pass true k rest later n e = conflict (rw e at n) refl
pass false k rest later n e =
    (refl, split (eqb k 0) (λ z. conflict (rw z at n) refl) (λ z. rw z at n), e)

passed : (ts : List Test) → numbered ts ≡ true → eqb (first_of ts) 0 ≡ true → Passed ts
passed [] n e = tt
passed (t ∷ ts) n e =
    let (first, later, rest) = pass t.0 t.1 (first_of ts) (numbered ts) n e in
    (first, passed ts later rest)

-- ---- what a step tests and does, where z are the sizes in force

-- `takes` and `full` tell of the store what a write must know
abbrev pub tests_in : Bool → Bool → Sizes → Service → Step → List Test
tests_in takes full z s (Open m i f) =
    open_tests z (embargoed_at s i) (table_in s).recovering (entry_at s f) (client_at s i f) m i f
tests_in takes full z s (Close m i f) =
    close_tests z (embargoed_at s i) (table_in s).recovering (entry_at s f) (client_at s i f) m i f
tests_in takes full z s (Read i f b) =
    read_tests z (embargoed_at s i) (table_in s).recovering (reported_at s i) (client_at s i f) (held_at s i f b) i f b
tests_in takes full z s (Write i f b v) =
    write_tests z (embargoed_at s i) (table_in s).recovering (reported_at s i) (client_at s i f) takes full i f b v
tests_in takes full z s (Flush i f b) = flush_tests z (embargoed_at s i) (table_in s).recovering (dirty_at s i f b) i f b
tests_in takes full z s (Answer i f) = answer_tests z (embargoed_at s i) (table_in s).recovering (entry_at s f) i f
tests_in takes full z s Crash = []
tests_in takes full z s (Report i) =
    report_tests z (embargoed_at s i) (table_in s).recovering (reported_at s i) (clashing z (table_in s) s.clients i) i
tests_in takes full z s End = end_tests z (table_in s).recovering (table_in s).reported (table_in s).embargoed
tests_in takes full z s (Restart i) = restart_tests z i
tests_in takes full z s (Embargo i f) = embargo_tests z (table_in s).recovering (entry_at s f) i f
tests_in takes full z s (Lift i) = lift_tests z (embargoed_at s i) i

abbrev pub tests_of : Sizes → Service → Step → List Test
tests_of z s x = tests_in (takes_place s x) (is_full s) z s x

-- what it does, but for the store
abbrev pub done_of : Sizes → Service → Step → Outcome
done_of z s (Open m i f) = file_outcome s f (after_open z (file_at s f) (stores_of s) m i f)
done_of z s (Close m i f) = file_outcome s f (after_close z (file_at s f) (stores_of s) m i f)
done_of z s (Read i f b) = block_outcome s (after_read (client_at s i f) (stores_of s) i f b)
done_of z s (Write i f b v) = block_outcome s (after_write (client_at s i f) (stores_of s) i f b v)
done_of z s (Flush i f b) = file_outcome s f (after_flush z (file_at s f) (stores_of s) i f b)
done_of z s (Answer i f) = file_outcome s f (after_answer z (file_at s f) (stores_of s) i f)
done_of z s Crash = table_outcome s (record { table = crashed z (table_in s); reply = Done })
done_of z s (Report i) = table_outcome s (record { table = reported z (table_in s) s.clients i; reply = Done })
done_of z s End = table_outcome s (record { table = ended z (table_in s); reply = Done })
done_of z s (Restart i) = granting (restarted z s i) Done (grants_aside z s i)
done_of z s (Embargo i f) = answering (put_aside z s i) (grants_aside z s i)
done_of z s (Lift i) = record { service = told z s i; reply = Done; calls = no_calls; grants = no_grants }

all_numbered :
    (takes full : Bool) (z : Sizes) (s : Service) (x : Step) → numbered (tests_in takes full z s x) ≡ true
all_numbered takes full z s (Open m i f) = refl
all_numbered takes full z s (Close m i f) = refl
all_numbered takes full z s (Read i f b) = refl
all_numbered takes full z s (Write i f b v) = refl
all_numbered takes full z s (Flush i f b) = refl
all_numbered takes full z s (Answer i f) = refl
all_numbered takes full z s Crash = refl
all_numbered takes full z s (Report i) = refl
all_numbered takes full z s End = refl
all_numbered takes full z s (Restart i) = refl
all_numbered takes full z s (Embargo i f) = refl
all_numbered takes full z s (Lift i) = refl

-- an answer with any grants is none
answering_accepts : (s : Service) (gs : List Granting) → is_refused (answering s gs).reply ≡ false
answering_accepts s [] = refl
answering_accepts s (g ∷ gs) = refl

pub answering_service : (s : Service) (gs : List Granting) → (answering s gs).service ≡ s
answering_service s [] = refl
answering_service s (g ∷ gs) = refl

-- what is done is no refusal
pub accepts : (z : Sizes) (s : Service) (x : Step) → is_refused (done_of z s x).reply ≡ false
accepts z s (Open m i f) =
    either (λ (o : FileAfter). is_refused o.reply ≡ false) (eqb (calls_for z.clients (entry_at s f) i m) 0)
    (λ e. refl) (λ e. refl)
accepts z s (Close m i f) = refl
accepts z s (Read i f b) = refl
accepts z s (Write i f b v) = refl
accepts z s (Flush i f b) = refl
accepts z s (Answer i f) =
    let o : FileAfter = answered z f (file_at s f) (stores_of s) i (call_to z.clients (entry_at s f) i) in
    either (λ (o : FileAfter). is_refused o.reply ≡ false) (eqb (calls_out z.clients o.file.entry) 0)
    (λ e. refl) (λ e. refl)
accepts z s Crash = refl
accepts z s (Report i) = refl
accepts z s End = refl
accepts z s (Restart i) = refl
accepts z s (Embargo i f) = answering_accepts (put_aside z s i) (grants_aside z s i)
accepts z s (Lift i) = refl

-- ---- the outcome of a step, but for the store

pub done_moved :
    (takes full : Bool) (s : Service) (x : Step)
    → eqb (first_of (tests_in takes full (sizes_of s) s x)) 0 ≡ true
    → moved takes full s x ≡ done_of (sizes_of s) s x
unfolding moved file_step block_step table_step all_step
done_moved takes full s (Open m i f) e = ap (file_outcome s f) (when _ _ e)
done_moved takes full s (Close m i f) e = ap (file_outcome s f) (when _ _ e)
done_moved takes full s (Read i f b) e = ap (block_outcome s) (when _ _ e)
done_moved takes full s (Write i f b v) e = ap (block_outcome s) (when _ _ e)
done_moved takes full s (Flush i f b) e = ap (file_outcome s f) (when _ _ e)
done_moved takes full s (Answer i f) e = ap (file_outcome s f) (when _ _ e)
done_moved takes full s Crash e = refl
done_moved takes full s (Report i) e = ap (table_outcome s) (when _ _ e)
done_moved takes full s End e = ap (table_outcome s) (when _ _ e)
done_moved takes full s (Restart i) e = when _ _ e
done_moved takes full s (Embargo i f) e = when _ _ e
done_moved takes full s (Lift i) e = when _ _ e

-- the outcome that a refusal gives
abbrev pub refused_with : ℕ → Service → Outcome
refused_with k s = record { service = s; reply = Refused k; calls = no_calls; grants = no_grants }

pub refused_moved :
    (takes full : Bool) (s : Service) (x : Step)
    → eqb (first_of (tests_in takes full (sizes_of s) s x)) 0 ≡ false
    → moved takes full s x ≡ refused_with (first_of (tests_in takes full (sizes_of s) s x)) s
unfolding moved file_step block_step table_step all_step
refused_moved takes full s (Open m i f) e =
    ap (file_outcome s f) (unless _ _ e) ∙ ap (refused_with _) (same_file s f (stores_of s))
refused_moved takes full s (Close m i f) e =
    ap (file_outcome s f) (unless _ _ e) ∙ ap (refused_with _) (same_file s f (stores_of s))
refused_moved takes full s (Read i f b) e = ap (block_outcome s) (unless _ _ e)
refused_moved takes full s (Write i f b v) e = ap (block_outcome s) (unless _ _ e)
refused_moved takes full s (Flush i f b) e =
    ap (file_outcome s f) (unless _ _ e) ∙ ap (refused_with _) (same_file s f (stores_of s))
refused_moved takes full s (Answer i f) e =
    ap (file_outcome s f) (unless _ _ e) ∙ ap (refused_with _) (same_file s f (stores_of s))
refused_moved takes full s Crash e = conflict refl e
refused_moved takes full s (Report i) e = ap (table_outcome s) (unless _ _ e)
refused_moved takes full s End e = ap (table_outcome s) (unless _ _ e)
refused_moved takes full s (Restart i) e = unless _ _ e
refused_moved takes full s (Embargo i f) e = unless _ _ e
refused_moved takes full s (Lift i) e = unless _ _ e

-- where the step is accepted, and z are the sizes in force
pub when_moved :
    {z : Sizes} (takes full : Bool) (s : Service) (x : Step)
    → sizes_of s ≡ z
    → is_refused (moved takes full s x).reply ≡ false
    → Passed (tests_in takes full z s x) × (moved takes full s x ≡ done_of z s x)
when_moved takes full s x size a =
    subst (λ z. Passed (tests_in takes full z s x) × (moved takes full s x ≡ done_of z s x)) size
    (split (eqb (first_of (tests_in takes full (sizes_of s) s x)) 0)
    (λ e. (passed (tests_in takes full (sizes_of s) s x) (all_numbered takes full (sizes_of s) s x) e, done_moved takes full s x e))
    (λ e. conflict (ap (λ (o : Outcome). is_refused o.reply) (refused_moved takes full s x e)) a))

-- and where it is refused
pub moved_rests :
    (takes full : Bool) (s : Service) (x : Step)
    → is_refused (moved takes full s x).reply ≡ true
    → (moved takes full s x).service ≡ s
moved_rests takes full s x r =
    split (eqb (first_of (tests_in takes full (sizes_of s) s x)) 0)
    (λ e.
    conflict r (ap (λ (o : Outcome). is_refused o.reply) (done_moved takes full s x e) ∙ accepts (sizes_of s) s x))
    (λ e. ap (λ (o : Outcome). o.service) (refused_moved takes full s x e))

-- ---- the outcome of a step

-- the number that the step is refused with, 0 for none
abbrev pub refusal_of : Service → Step → ℕ
refusal_of s x = first_of (tests_of (sizes_of s) s x)

pub step_stored : (s : Service) (x : Step) → step_of s x ≡ with_store s x (moved (takes_place s x) (is_full s) s x)
unfolding step_of
step_stored s x = refl

pub accepted :
    (s : Service) (x : Step) → eqb (refusal_of s x) 0 ≡ true → step_of s x ≡ with_store s x (done_of (sizes_of s) s x)
accepted s x e = step_stored s x ∙ ap (with_store s x) (done_moved (takes_place s x) (is_full s) s x e)

-- a refusal leaves the store
pub refused_spaced : (s : Service) (x : Step) → spaced s x true s ≡ s
unfolding spaced
refused_spaced s x = refl

pub rejected : (s : Service) (x : Step) → eqb (refusal_of s x) 0 ≡ false → step_of s x ≡ refused_with (refusal_of s x) s
rejected s x e =
    step_stored s x
    ∙ ap (with_store s x) (refused_moved (takes_place s x) (is_full s) s x e)
    ∙ ap (refused_with (refusal_of s x)) (refused_spaced s x)

-- "A refusal gives only its number; server, stations and every lent buffer stay as they came."
pub refused_changes_nothing : (s : Service) (x : Step) → refused s x ≡ true → after s x ≡ s
refused_changes_nothing s x r =
    split (eqb (refusal_of s x) 0)
    (λ e. conflict r (ap (λ (o : Outcome). is_refused o.reply) (accepted s x e) ∙ accepts (sizes_of s) s x))
    (λ e. ap (λ (o : Outcome). o.service) (rejected s x e))

-- an accepted step, where z are the sizes in force
pub when_accepted :
    {z : Sizes} (s : Service) (x : Step)
    → sizes_of s ≡ z
    → refused s x ≡ false
    → Passed (tests_of z s x) × (step_of s x ≡ with_store s x (done_of z s x))
when_accepted s x size a =
    subst (λ z. Passed (tests_of z s x) × (step_of s x ≡ with_store s x (done_of z s x))) size
    (split (eqb (refusal_of s x) 0)
    (λ e. (passed (tests_of (sizes_of s) s x) (all_numbered (takes_place s x) (is_full s) (sizes_of s) s x) e, accepted s x e))
    (λ e. conflict (ap (λ (o : Outcome). is_refused o.reply) (rejected s x e)) a))

-- what the service of an accepted step has beside the store is what the step does
pub done_but_store :
    (P : Service → Type 0)
    → ((s : Service) (used : List Bool) (free : ℕ) → P s → P (with_space s used free))
    → (z : Sizes) (s : Service) (x : Step)
    → step_of s x ≡ with_store s x (done_of z s x)
    → P (done_of z s x).service
    → P (after s x)
unfolding spaced
done_but_store P ignores z s x done p =
    subst⁻¹ (λ (o : Outcome). P o.service) done (ignores (done_of z s x).service _ _ p)

pub crash_accepted : (s : Service) → refused s Crash ≡ false
unfolding step_of moved table_step
crash_accepted s = refl

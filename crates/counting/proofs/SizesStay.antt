-- No step changes the sizes; of lines only a first one does that sets them. Assumes nothing.
use Prim.Native.Nat.{ℕ, zero, suc}
use mathlib.Core.Path.{◌≡◌, refl, ap, ◌∙◌}
use mathlib.Core.Bool.{Bool, true, false, cond, ◌&&◌}
use mathlib.Core.List.{List, [], ◌∷◌}
use lib.Dec.{eqb}
use Rattle.sizes.specs.declared.sizes.Sizes.{Sizes}
use Rattle.sizes.proofs.Choosing.{unless}
use Rattle.protocol.specs.declared.reply.Granting.{Granting}
use Rattle.protocol.specs.declared.step.Step.{Step}
use Rattle.protocol.specs.declared.step.Step.TheVariants.{Open, Close, Read, Write, Flush, Answer, Crash, Report, End}
use Rattle.protocol.specs.declared.step.Step.TheVariants.{Restart, Embargo, Lift}
use Rattle.protocol.specs.declared.reply.Reply.TheVariants.{Refused, Done}
use Rattle.protocol.specs.Refusal.{Test, restart_tests, embargo_tests, lift_tests}
use Rattle.decision.specs.Lists.{first_of}
use Rattle.protocol.specs.Reply.{no_calls, no_grants}
use Rattle.service.specs.declared.service.Service.{Service}
use Rattle.service.specs.declared.outcome.Outcome.{Outcome}
use Rattle.service.specs.Contents.{sizes_of, table_in, entry_at, embargoed_at}
use Rattle.service.specs.Embargo.{forgotten_below, put_aside, dropped_below, told, restarted, granting, answering, grants_aside}
use Rattle.service.specs.Embargo.{unless_tested, all_step, marked}
use Rattle.service.specs.Step.{moved, step_of}
use Rattle.service.specs.Space.{spaced}
use Rattle.stepfile.specs.Grammar.{parse_line}
use Rattle.stepfile.specs.Played.{refused_with, set_outcome, outcome_of, service_after}
use Rattle.stepfile.specs.Setting.{setting_of}
use Rattle.std.proofs.Common.{Option, Some, None}

module _ (z : Sizes) (i : ℕ) where
  dropped_stays : (k : ℕ) (s : Service) → (dropped_below z i k s).sizes ≡ s.sizes
  unfolding dropped_below
  dropped_stays zero s = refl
  dropped_stays (suc k) s = dropped_stays k s

  forgotten_stays : (k : ℕ) (s : Service) → (forgotten_below z i k s).sizes ≡ s.sizes
  unfolding forgotten_below
  forgotten_stays zero s = refl
  forgotten_stays (suc k) s = forgotten_stays k s

  aside_stays : (s : Service) → (put_aside z s i).sizes ≡ s.sizes
  aside_stays s = forgotten_stays z.files (marked s i)

  told_stays : (s : Service) → (told z s i).sizes ≡ s.sizes
  told_stays s = dropped_stays z.files s

  restarted_stays : (s : Service) → (restarted z s i).sizes ≡ s.sizes
  restarted_stays s = told_stays (put_aside z s i) ∙ aside_stays s

answering_has : (s : Service) (gs : List Granting) → (answering s gs).service ≡ s
answering_has s [] = refl
answering_has s (g ∷ gs) = refl

tests_stay : (ts : List Test) (s : Service) (done : Outcome) → done.service.sizes ≡ s.sizes
    → (unless_tested ts s done).service.sizes ≡ s.sizes
tests_stay ts s done e = by (eqb (first_of ts) 0)
  where
    by : (b : Bool)
        → (cond b done (record { service = s; reply = Refused (first_of ts); calls = no_calls; grants = no_grants })).service.sizes
        ≡ s.sizes
    by true = e
    by false = refl

pub step_stays : (s : Service) (x : Step) → (step_of s x).service.sizes ≡ s.sizes
unfolding step_of moved spaced all_step
step_stays s (Open m i f) = refl
step_stays s (Close m i f) = refl
step_stays s (Read i f b) = refl
step_stays s (Write i f b v) = refl
step_stays s (Flush i f b) = refl
step_stays s (Answer i f) = refl
step_stays s Crash = refl
step_stays s (Report i) = refl
step_stays s End = refl
step_stays s (Restart i) =
    let z = sizes_of s in
    tests_stay (restart_tests z i) s (granting (restarted z s i) Done (grants_aside z s i)) (restarted_stays z i s)
step_stays s (Embargo i f) =
    let z = sizes_of s in
    tests_stay (embargo_tests z (table_in s).recovering (entry_at s f) i f) s (answering (put_aside z s i) (grants_aside z s i))
    (ap (λ (y : Service). y.sizes) (answering_has (put_aside z s i) (grants_aside z s i)) ∙ aside_stays z i s)
step_stays s (Lift i) =
    let z = sizes_of s in
    tests_stay (lift_tests z (embargoed_at s i) i) s
    (record { service = told z s i; reply = Done; calls = no_calls; grants = no_grants })
    (told_stays z i s)

-- a line that may not choose the sizes leaves them
pub line_stays : (settable : Bool) (s : Service) (n : ℕ) (l : List ℕ) → (settable && eqb n 1) ≡ false
    → (service_after settable s n l).sizes ≡ s.sizes
unfolding service_after
line_stays settable s n l e = by (parse_line l)
  where
    by : (p : Option Step) → (outcome_of settable s n l p).service.sizes ≡ s.sizes
    by (Some x) = step_stays s x
    by None = ap (λ (o : Outcome). o.service.sizes) (unless (set_outcome s (setting_of l)) (refused_with s 1) e)

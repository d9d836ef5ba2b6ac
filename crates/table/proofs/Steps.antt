-- The steps on the whole table, as the program takes them: what becomes of the state of the recovery, and what the entries
-- then do, is the table that the definition of the step gives. Assumes nothing.
use Prim.Native.Nat.{ℕ}
use mathlib.Core.Path.{◌≡◌, refl}
use mathlib.Core.Bool.{Bool, true, false}
use mathlib.Core.List.{List}
use lib.Dec.{eqb}
use Rattle.sizes.proofs.Choosing.{split, conflict}
use Rattle.sizes.specs.declared.sizes.Sizes.{Sizes}
use Rattle.decision.specs.Lists.{first_of}
use Rattle.protocol.specs.declared.client.Sides.{Sides}
use Rattle.protocol.specs.declared.reply.Reply.TheVariants.{Refused}
use Rattle.protocol.specs.declared.step.Step.{Step}
use Rattle.protocol.specs.Step.{TableAct, crashes, reports, ends, nothing, table_act}
use Rattle.protocol.specs.Refusal.{Test, tested}
use Rattle.protocol.specs.Reply.{is_refused}
use Rattle.table.specs.declared.recovery.Recovery.{Recovery}
use Rattle.table.specs.declared.recovery.RecoveryOutcome.{RecoveryOutcome}
use Rattle.table.specs.declared.recovery.Sweep.TheVariants.{Stay}
use Rattle.table.specs.declared.table.Table.{Table}
use Rattle.table.specs.TableStep.{is_reported, is_embargoed, clashing, report_tests, end_tests, acted, table_step}
use Rattle.table.specs.Recovery.{kept, recovered, recovery_step, table_after}

-- the state of the recovery in a table
abbrev pub recovery_in : Table → Recovery
recovery_in t = record { recovering = t.recovering; reported = t.reported; embargoed = t.embargoed }

-- who reports, if anybody does
abbrev reporter_in : TableAct → ℕ
reporter_in crashes = 0
reporter_in (reports i) = i
reporter_in ends = 0
reporter_in nothing = 0

abbrev pub reporter : Step → ℕ
reporter x = reporter_in (table_act x)

acted_so :
    (z : Sizes) (t : Table) (clients : List Sides) (y : TableAct)
    → acted z t clients y
    ≡ table_after z t.files clients (recovered z (recovery_in t) (clashing z t clients (reporter_in y)) y)
acted_so z t clients (reports i) =
    split
    (eqb
    (first_of
    (report_tests z (is_embargoed t.embargoed i) t.recovering (is_reported t.reported i) (clashing z t clients i) i))
    0)
    (λ e. rw e)
    (λ e. rw e)
acted_so z t clients ends =
    split (eqb (first_of (end_tests z t.recovering t.reported t.embargoed)) 0) (λ e. rw e) (λ e. rw e)
acted_so z t clients crashes = refl
acted_so z t clients nothing = refl

pub as_taken :
    (z : Sizes) (t : Table) (clients : List Sides) (x : Step)
    → table_step z t clients x
    ≡ table_after z t.files clients (recovery_step z (recovery_in t) (clashing z t clients (reporter x)) x)
unfolding table_step recovery_step
as_taken z t clients x = acted_so z t clients (table_act x)

-- a refused step leaves the recovery and the entries as they came
unless_accepted :
    (ts : List Test) (v : Recovery) (done : RecoveryOutcome)
    → is_refused done.reply ≡ false
    → (let o = tested ts (λ k. kept v (Refused k)) done in
    is_refused o.reply ≡ true
    → (o.sweep ≡ Stay) × (o.recovery ≡ v))
unless_accepted ts v done accepted =
    split (eqb (first_of ts) 0) (λ e. rw e (λ refused. conflict refused accepted)) (λ e. rw e (λ refused. (refl, refl)))

refused_rests :
    (z : Sizes) (v : Recovery) (clash : Bool) (y : TableAct)
    → is_refused (recovered z v clash y).reply ≡ true
    → ((recovered z v clash y).sweep ≡ Stay) × ((recovered z v clash y).recovery ≡ v)
refused_rests z v clash (reports i) =
    unless_accepted
    (report_tests z (is_embargoed v.embargoed i) v.recovering (is_reported v.reported i) clash i) v _ refl
refused_rests z v clash ends = unless_accepted (end_tests z v.recovering v.reported v.embargoed) v _ refl
refused_rests z v clash crashes = λ refused. conflict refused refl
refused_rests z v clash nothing = λ refused. conflict refused refl

pub refused_stays :
    (z : Sizes) (v : Recovery) (clash : Bool) (x : Step)
    → is_refused (recovery_step z v clash x).reply ≡ true
    → ((recovery_step z v clash x).sweep ≡ Stay) × ((recovery_step z v clash x).recovery ≡ v)
unfolding recovery_step
refused_stays z v clash x = refused_rests z v clash (table_act x)

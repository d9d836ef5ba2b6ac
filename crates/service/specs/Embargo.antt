-- What is done on all files: a client restarts (document 02, Wish 8), is put under embargo, or is told that it was (Wish
-- 9). A restart is the other two, one after the other.
use Rattle.std.specs.Prelude.{ℕ, zero, suc, Bool, true, false, cond, List, [], ◌∷◌, ◌++◌, set}
use Rattle.sizes.specs.declared.sizes.Sizes.{Sizes}
use Rattle.protocol.specs.declared.reply.Granting.{Granting}
use Rattle.protocol.specs.declared.reply.Reply.{Reply}
use Rattle.protocol.specs.declared.reply.Reply.TheVariants.{Refused, Answered, AnsweredGrant, Done}
use Rattle.protocol.specs.declared.step.Step.{Step}
use Rattle.protocol.specs.Step.{AllAct, restarts, embargoes, lifts, nothing, all_act}
use Rattle.protocol.specs.Reply.{no_calls, no_grants, brought, placed}
use Rattle.protocol.specs.Refusal.{Test, tested, restart_tests, embargo_tests, lift_tests}
use Rattle.file.specs.FileStep.{FileAfter, after_forgetting, after_dropping}
use Rattle.table.specs.declared.table.Table.{Table}
use Rattle.service.specs.declared.service.Service.{Service}
use Rattle.service.specs.declared.outcome.Outcome.{Outcome}
use Rattle.service.specs.Contents.{table_in, entry_at, embargoed_at, file_at, stores_of, with_file, with_table}

-- ---- at the server: "The server forgets it as in Wish 8"

-- what that leaves of file f
abbrev pub forgotten_file : Sizes → ℕ → Service → ℕ → FileAfter
forgotten_file z i s f = after_forgetting z f (file_at s f) (stores_of s) i

abbrev pub forgotten_on : Sizes → ℕ → Service → ℕ → Service
forgotten_on z i s f = let o = forgotten_file z i s f in with_file s f o.file o.stores

-- the service with the files below k done, and "each granted open .., by ascending file"
unfoldable pub forgotten_below : Sizes → ℕ → ℕ → Service → Service
forgotten_below z i zero s = s
forgotten_below z i (suc k) s = forgotten_on z i (forgotten_below z i k s) k

unfoldable pub grants_below : Sizes → ℕ → ℕ → Service → List Granting
grants_below z i zero s = []
grants_below z i (suc k) s =
    grants_below z i k s ++ brought (forgotten_file z i (forgotten_below z i k s) k).reply

-- whether client i is under embargo from now on
abbrev pub marking : Bool → ℕ → Table → Table
marking embargoed i t =
    record {
      files = t.files;
      recovering = t.recovering;
      reported = t.reported;
      embargoed = set t.embargoed i embargoed;
    }

abbrev pub marked : Service → ℕ → Service
marked s i = with_table s (marking true i (table_in s))

-- "A station that doesn't reply can be put aside"; "the station doesn't know"
abbrev pub put_aside : Sizes → Service → ℕ → Service
put_aside z s i = forgotten_below z i z.files (marked s i)

abbrev pub grants_aside : Sizes → Service → ℕ → List Granting
grants_aside z s i = grants_below z i z.files (marked s i)

-- ---- at the client: "Telling it drops all it holds, counts too"

abbrev pub dropped_on : Sizes → ℕ → Service → ℕ → Service
dropped_on z i s f = let o = after_dropping z f (file_at s f) (stores_of s) i in with_file s f o.file o.stores

unfoldable pub dropped_below : Sizes → ℕ → ℕ → Service → Service
dropped_below z i zero s = s
dropped_below z i (suc k) s = dropped_on z i (dropped_below z i k s) k

-- "a lift or restart during recovery is an empty report"
abbrev pub heard : ℕ → Table → Table
heard i t =
    record {
      files = t.files;
      recovering = t.recovering;
      reported = cond t.recovering (set t.reported i true) t.reported;
      embargoed = t.embargoed;
    }

abbrev pub told : Sizes → Service → ℕ → Service
told z s i = let t = dropped_below z i z.files s in with_table t (heard i (marking false i (table_in t)))

-- "Its counts, permissions, marks, copies and any waiting open of its own go at both ends"; "A restart lifts too"
abbrev pub restarted : Sizes → Service → ℕ → Service
restarted z s i = told z (put_aside z s i) i

-- ---- a step

-- what a step leaves that grants these opens
abbrev pub granting : Service → Reply → List Granting → Outcome
granting s reply gs = record { service = s; reply = reply; calls = no_calls; grants = placed gs }

-- EM "prints A 0, then grants as BT does": the first of them stands in the reply, as after an answer
abbrev pub answering : Service → List Granting → Outcome
answering s [] = granting s (Answered 0) []
answering s (g ∷ gs) = granting s (AnsweredGrant 0 g.client g.grant) gs

-- "A refusal gives only its number; server, stations and every lent buffer stay as they came."
abbrev pub unless_tested : List Test → Service → Outcome → Outcome
unless_tested ts s done =
    tested ts (λ k. record { service = s; reply = Refused k; calls = no_calls; grants = no_grants }) done

-- "BT .. prints K, then each granted open"; LF prints K
abbrev pub acted : Sizes → Service → AllAct → Outcome
acted z s (restarts i) =
    unless_tested (restart_tests z i) s (granting (restarted z s i) Done (grants_aside z s i))
acted z s (embargoes i f) =
    unless_tested (embargo_tests z (table_in s).recovering (entry_at s f) i f) s
    (answering (put_aside z s i) (grants_aside z s i))
acted z s (lifts i) =
    unless_tested (lift_tests z (embargoed_at s i) i) s
    (record { service = told z s i; reply = Done; calls = no_calls; grants = no_grants })
acted z s nothing = record { service = s; reply = Done; calls = no_calls; grants = no_grants }

unfoldable pub all_step : Sizes → Service → Step → Outcome
all_step z s x = acted z s (all_act x)

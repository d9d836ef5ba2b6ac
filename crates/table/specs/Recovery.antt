-- A step on the whole table, as the program takes it: what becomes of the state of the recovery, and what the entries
-- in force do. Read to follow the proof of the service's step, whose contract does not mention them.
use Rattle.std.specs.Prelude.{ℕ, Bool, true, false, List, set}
use Rattle.sizes.specs.declared.sizes.Sizes.{Sizes}
use Rattle.decision.specs.Lists.{stored, filled}
use Rattle.protocol.specs.declared.client.Sides.{Sides}
use Rattle.protocol.specs.declared.entry.Entry.{Entry}
use Rattle.protocol.specs.declared.reply.Reply.{Reply}
use Rattle.protocol.specs.declared.reply.Reply.TheVariants.{Refused, Done}
use Rattle.protocol.specs.declared.step.Step.{Step}
use Rattle.protocol.specs.Step.{TableAct, crashes, reports, ends, nothing, table_act}
use Rattle.protocol.specs.Entry.{crashed_entry, reported_entry}
use Rattle.protocol.specs.Client.{side_of}
use Rattle.protocol.specs.Refusal.{tested}
use Rattle.table.specs.declared.recovery.Recovery.{Recovery}
use Rattle.table.specs.declared.recovery.RecoveryOutcome.{RecoveryOutcome}
use Rattle.table.specs.declared.recovery.Sweep.{Sweep}
use Rattle.table.specs.declared.recovery.Sweep.TheVariants.{Stay, Crash as Crashes, Report as Reports}
use Rattle.table.specs.declared.table.TableOutcome.{TableOutcome}
use Rattle.table.specs.TableStep.{entry_of, sides_in, is_reported, is_embargoed, report_tests, end_tests}

-- the entries after a crash, and after the client's sides of every file have come
abbrev pub crashed_files : Sizes → List Entry → List Entry
crashed_files z entries =
    stored z.files (λ f. f) (λ f. crashed_entry z.clients (entry_of entries f)) entries

abbrev pub reported_files : Sizes → List Entry → List Sides → ℕ → List Entry
reported_files z entries clients i =
    stored z.files (λ f. f) (λ f. reported_entry (entry_of entries f) i (side_of (sides_in clients f) i)) entries

abbrev pub files_after : Sizes → Sweep → List Entry → List Sides → List Entry
files_after z Stay entries clients = entries
files_after z Crashes entries clients = crashed_files z entries
files_after z (Reports i) entries clients = reported_files z entries clients i

-- the entries stay
abbrev pub kept : Recovery → Reply → RecoveryOutcome
kept v reply = record { recovery = v; reply = reply; sweep = Stay }

-- `clash` says whether a report clashes with those that were accepted before
abbrev pub recovered : Sizes → Recovery → Bool → TableAct → RecoveryOutcome
recovered z v clash crashes =
    record {
      recovery =
          record {
            recovering = true;
            reported = filled z.clients false v.reported;
            embargoed = v.embargoed;
          };
      reply = Done;
      sweep = Crashes;
    }
recovered z v clash (reports i) =
    tested (report_tests z (is_embargoed v.embargoed i) v.recovering (is_reported v.reported i) clash i)
    (λ k. kept v (Refused k))
    (record {
      recovery =
          record { recovering = v.recovering; reported = set v.reported i true; embargoed = v.embargoed };
      reply = Done;
      sweep = Reports i;
    })
recovered z v clash ends =
    tested (end_tests z v.recovering v.reported v.embargoed) (λ k. kept v (Refused k))
    (kept
    (record { recovering = false; reported = filled z.clients false v.reported; embargoed = v.embargoed })
    Done)
recovered z v clash nothing = kept v Done

unfoldable pub recovery_step : Sizes → Recovery → Bool → Step → RecoveryOutcome
recovery_step z v clash x = recovered z v clash (table_act x)

-- the table, once the entries have done so
abbrev pub table_after : Sizes → List Entry → List Sides → RecoveryOutcome → TableOutcome
table_after z entries clients o =
    record {
      table =
          record {
            files = files_after z o.sweep entries clients;
            recovering = o.recovery.recovering;
            reported = o.recovery.reported;
            embargoed = o.recovery.embargoed;
          };
      reply = o.reply;
    }

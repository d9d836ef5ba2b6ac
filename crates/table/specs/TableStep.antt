-- The steps on the whole table: a crash, a report and the end of a recovery. z are the sizes in force; what lies past
-- them is neither looked at nor changed.
use Rattle.std.specs.Prelude.{ℕ, Bool, true, false, not, ◌||◌, List, [], ◌∷◌, ltb, get_or, set}
use Rattle.records.specs.declared.record.Mode.TheVariants.{Read as ForRead}
use Rattle.records.specs.Version.{no_version}
use Rattle.sizes.specs.declared.sizes.Sizes.{Sizes}
use Rattle.decision.specs.Lists.{count, stored, filled}
use Rattle.protocol.specs.declared.client.Sides.{Sides}
use Rattle.protocol.specs.declared.entry.Entry.{Entry}
use Rattle.protocol.specs.declared.reply.Reply.TheVariants.{Refused, Done}
use Rattle.protocol.specs.declared.step.Step.{Step}
use Rattle.protocol.specs.declared.step.Step.TheVariants.{Report}
use Rattle.protocol.specs.Step.{TableAct, crashes, reports, ends, nothing, table_act}
use Rattle.protocol.specs.Entry.{crashed_entry, reported_entry}
use Rattle.protocol.specs.Client.{side_of}
use Rattle.protocol.specs.Refusal.{Test, tested, no_such_client, set_aside}
use Rattle.table.specs.Clash.{clashes}
use Rattle.table.specs.declared.table.Table.{Table}
use Rattle.table.specs.declared.table.TableOutcome.{TableOutcome}

-- what a list gives past its end; no step looks there
abbrev pub no_entry : Entry
no_entry = record { records = []; version = no_version; last = 0; waiter = 0; mode = ForRead; calls = [] }

abbrev pub no_sides : Sides
no_sides = record { of = [] }

-- the entry of file f in a list and in a table, and the clients' sides of it
abbrev pub entry_of : List Entry → ℕ → Entry
entry_of entries f = get_or entries f no_entry

abbrev pub entry_in : Table → ℕ → Entry
entry_in t f = entry_of t.files f

abbrev pub sides_in : List Sides → ℕ → Sides
sides_in clients f = get_or clients f no_sides

-- "6 not recovering. 7 this station has reported. 8 some station hasn't."
abbrev pub not_recovering : Bool → Test
not_recovering recovering = (not recovering, 6)

abbrev pub is_reported : List Bool → ℕ → Bool
is_reported reported i = get_or reported i false

abbrev pub has_reported : Bool → Test
has_reported reported = (reported, 7)

-- "22 when a report, alone or with one accepted, breaks one of these, after 7" (document 02, Wish 10)
abbrev pub reports_clash : Bool → Test
reports_clash clash = (clash, 22)

-- "recovery doesn't wait for such stations" (document 02, Wish 9): whom the server need not hear any more
abbrev pub is_embargoed : List Bool → ℕ → Bool
is_embargoed embargoed i = get_or embargoed i false

abbrev pub is_heard : List Bool → List Bool → ℕ → Bool
is_heard reported embargoed i = is_reported reported i || is_embargoed embargoed i

-- how many of n clients it has still to hear
abbrev pub missing : ℕ → List Bool → List Bool → ℕ
missing n reported embargoed = count n (λ i. not (is_heard reported embargoed i))

abbrev pub report_missing : Sizes → List Bool → List Bool → Test
report_missing z reported embargoed = (ltb 0 (missing z.clients reported embargoed), 8)

-- "report 2, 6, 7; end 6, 8; crash none"; "20 .., after 4"
abbrev pub report_tests : Sizes → Bool → Bool → Bool → Bool → ℕ → List Test
report_tests z embargoed recovering reported clash i =
    no_such_client z i
    ∷ set_aside embargoed (Report i)
    ∷ not_recovering recovering
    ∷ has_reported reported
    ∷ reports_clash clash
    ∷ []

abbrev pub end_tests : Sizes → Bool → List Bool → List Bool → List Test
end_tests z recovering reported embargoed = not_recovering recovering ∷ report_missing z reported embargoed ∷ []

-- "the server's readers, writers, permissions, last writers, waits and reports are lost; nothing at a station
-- changes; recovery begins"; "Embargoes survive a crash"
abbrev pub crashed : Sizes → Table → Table
crashed z t =
    record {
      files = stored z.files (λ f. f) (λ f. crashed_entry z.clients (entry_in t f)) t.files;
      recovering = true;
      reported = filled z.clients false t.reported;
      embargoed = t.embargoed;
    }

-- whether the report of client i clashes: "the whole report is tested" before any of it is taken
abbrev pub clashing : Sizes → Table → List Sides → ℕ → Bool
clashing z t clients i =
    clashes z (is_reported t.reported) (entry_in t) (λ f. side_of (sides_in clients f) i)

-- "a station gives counts, permissions and marks for all files; the table takes them"
abbrev pub reported : Sizes → Table → List Sides → ℕ → Table
reported z t clients i =
    record {
      files = stored z.files (λ f. f) (λ f. reported_entry (entry_in t f) i (side_of (sides_in clients f) i)) t.files;
      recovering = t.recovering;
      reported = set t.reported i true;
      embargoed = t.embargoed;
    }

-- "after eight reports the service runs again"; "the eight reports .. follow the settings" (document 02, Wish 7)
abbrev pub ended : Sizes → Table → Table
ended z t =
    record {
      files = t.files;
      recovering = false;
      reported = filled z.clients false t.reported;
      embargoed = t.embargoed;
    }

-- "A refusal gives only its number; server, stations and every lent buffer stay as they came."
abbrev pub unless_tested : List Test → Table → Table → TableOutcome
unless_tested ts t after =
    tested ts (λ k. record { table = t; reply = Refused k }) (record { table = after; reply = Done })

abbrev pub acted : Sizes → Table → List Sides → TableAct → TableOutcome
acted z t clients crashes = record { table = crashed z t; reply = Done }
acted z t clients (reports i) =
    unless_tested
    (report_tests z (is_embargoed t.embargoed i) t.recovering (is_reported t.reported i) (clashing z t clients i) i)
    t
    (reported z t clients i)
acted z t clients ends =
    unless_tested (end_tests z t.recovering t.reported t.embargoed) t (ended z t)
acted z t clients nothing = record { table = t; reply = Done }

-- a step that is not on the whole table leaves it as it came
unfoldable pub table_step : Sizes → Table → List Sides → Step → TableOutcome
table_step z t clients x = acted z t clients (table_act x)

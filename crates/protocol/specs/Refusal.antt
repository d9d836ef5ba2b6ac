-- Who can cause a refusal: the tests of each step on a file, each with document 01's number, in number order. "Open
-- tests 2, 3, 5, 9, 12, 14; close 2, 3, 5, 9, 11; read and write 2, 3, 4, 5, 11; flush 2, 3, 4, 5, 13; reply 2, 3, 5,
-- 10". "BT tests 2 only" (document 02, Wish 8). "20 .., after 4; 21 .., after 20"; "EM is tested as a reply is, never by
-- 20"; "LF tests 2 and 21" (Wish 9). "23 when such a write finds nothing free,
-- and only then, last of all" (Wish 13). They look at the sizes z, whether the client is under embargo, the server's flags,
-- the file's entry e and the client's own side of it: "Reads, writes, refusals 11 to 13 and a station's own change go by
-- the station's record; calls, grants and the table go by the server's".
use Rattle.std.specs.Prelude.{ℕ, Bool, false, cond, not, ◌&&◌, ◌||◌, List, [], ◌∷◌, eqb, leb}
use Rattle.records.specs.declared.record.Mode.{Mode}
use Rattle.records.specs.declared.record.Mode.TheVariants.{Write as ForWrite}
use Rattle.protocol.specs.declared.entry.Entry.{Entry}
use Rattle.protocol.specs.declared.client.ClientFile.{ClientFile}
use Rattle.sizes.specs.declared.sizes.Sizes.{Sizes}
use Rattle.records.specs.Version.{is_last_version}
use Rattle.records.specs.Record.{is_open, is_write, count_of}
use Rattle.decision.specs.Lists.{first_of}
use Rattle.decision.specs.Callback.{asks_nothing}
use Rattle.protocol.specs.Entry.{waits, call_to}
use Rattle.protocol.specs.declared.step.Step.{Step}
use Rattle.protocol.specs.declared.step.Step.TheVariants.{Open, Close, Read, Write, Flush, Answer, Embargo}
use Rattle.protocol.specs.Needs.{needs_server, always_needs}

abbrev pub Test : Type 0
Test = Bool × ℕ

-- "Tested in number order, lowest first": a step is refused for the first of its tests that holds, and done where none
-- does.
abbrev pub tested {ℓ} : {A : Type ℓ} → List Test → (ℕ → A) → A → A
tested ts refused done = cond (eqb (first_of ts) 0) done (refused (first_of ts))

-- "2 station 8 or more. 3 file 32 or more. 4 block 4 or more." "Refusals 2, 3 and 4 .. follow the settings" (document
-- 02, Wish 7)
abbrev pub no_such_client : Sizes → ℕ → Test
no_such_client z i = (leb z.clients i, 2)

abbrev pub no_such_file : Sizes → ℕ → Test
no_such_file z f = (leb z.files f, 3)

abbrev pub no_such_block : Sizes → ℕ → Test
no_such_block z b = (leb z.blocks b, 4)

-- "20 when an embargoed station's step other than BT or LF needs the server" (document 02, Wish 9)
abbrev pub under_embargo : Bool → Bool → Test
under_embargo embargoed needs = (needs && embargoed, 20)

-- "5 recovering." "For reads and writes 5 holds during recovery if the station has reported, or if the step needs the
-- server"
abbrev pub cut_off : Bool → Bool → Bool → Test
cut_off recovering reported needs = ((reported || needs) && recovering, 5)

abbrev pub in_recovery : Bool → Test
in_recovery recovering = (recovering, 5)

-- both, of a step that is no read and no write
abbrev pub set_aside : Bool → Step → Test
set_aside embargoed x = under_embargo embargoed (always_needs x)

abbrev pub server_away : Bool → Step → Test
server_away recovering x = cut_off recovering false (always_needs x)

-- "9 an open of this file waits. 10 this station has no call on this file."
abbrev pub open_waits : Sizes → Entry → Test
open_waits z e = (waits z.clients e, 9)

abbrev pub no_call : Sizes → Entry → ℕ → Test
no_call z e i = (asks_nothing (call_to z.clients e i), 10)

-- "11 not open in the mode needed (a read needs either). 12 that count is 255. 13 the block isn't dirty there."
abbrev pub not_open_in : Mode → ClientFile → Test
not_open_in mode own = (eqb (count_of mode own.opens) 0, 11)

abbrev pub not_open_at_all : ClientFile → Test
not_open_at_all own = (not (is_open own.opens), 11)

abbrev pub count_full : Mode → ClientFile → Test
count_full mode own = (eqb (count_of mode own.opens) 255, 12)

abbrev pub not_dirty : Bool → Test
not_dirty dirty = (not dirty, 13)

-- "14 the version is 4,294,967,295 and the open is for write."
abbrev pub version_spent : Mode → Entry → Test
version_spent mode e = (is_write mode && is_last_version e.version, 14)

abbrev pub open_tests : Sizes → Bool → Bool → Entry → ClientFile → Mode → ℕ → ℕ → List Test
open_tests z embargoed recovering e own mode i f =
    no_such_client z i
    ∷ no_such_file z f
    ∷ set_aside embargoed (Open mode i f)
    ∷ server_away recovering (Open mode i f)
    ∷ open_waits z e
    ∷ count_full mode own
    ∷ version_spent mode e
    ∷ []

abbrev pub close_tests : Sizes → Bool → Bool → Entry → ClientFile → Mode → ℕ → ℕ → List Test
close_tests z embargoed recovering e own mode i f =
    no_such_client z i
    ∷ no_such_file z f
    ∷ set_aside embargoed (Close mode i f)
    ∷ server_away recovering (Close mode i f)
    ∷ open_waits z e
    ∷ not_open_in mode own
    ∷ []

abbrev pub read_tests : Sizes → Bool → Bool → Bool → ClientFile → Bool → ℕ → ℕ → ℕ → List Test
read_tests z embargoed recovering reported own held i f b =
    no_such_client z i
    ∷ no_such_file z f
    ∷ no_such_block z b
    ∷ under_embargo embargoed (needs_server (Read i f b) own held false)
    ∷ cut_off recovering reported (needs_server (Read i f b) own held false)
    ∷ not_open_at_all own
    ∷ []

-- "23 when such a write finds nothing free": one that takes a place; `full` says that none is free
abbrev pub no_place : Bool → Bool → Test
no_place takes full = (takes && full, 23)

-- a write does not look at whether its block is held
abbrev pub write_tests : Sizes → Bool → Bool → Bool → ClientFile → Bool → Bool → ℕ → ℕ → ℕ → ℕ → List Test
write_tests z embargoed recovering reported own takes full i f b v =
    no_such_client z i
    ∷ no_such_file z f
    ∷ no_such_block z b
    ∷ under_embargo embargoed (needs_server (Write i f b v) own false takes)
    ∷ cut_off recovering reported (needs_server (Write i f b v) own false takes)
    ∷ not_open_in ForWrite own
    ∷ no_place takes full
    ∷ []

abbrev pub flush_tests : Sizes → Bool → Bool → Bool → ℕ → ℕ → ℕ → List Test
flush_tests z embargoed recovering dirty i f b =
    no_such_client z i
    ∷ no_such_file z f
    ∷ no_such_block z b
    ∷ set_aside embargoed (Flush i f b)
    ∷ server_away recovering (Flush i f b)
    ∷ not_dirty dirty
    ∷ []

abbrev pub answer_tests : Sizes → Bool → Bool → Entry → ℕ → ℕ → List Test
answer_tests z embargoed recovering e i f =
    no_such_client z i
    ∷ no_such_file z f
    ∷ set_aside embargoed (Answer i f)
    ∷ server_away recovering (Answer i f)
    ∷ no_call z e i
    ∷ []

abbrev pub restart_tests : Sizes → ℕ → List Test
restart_tests z i = no_such_client z i ∷ []

-- "EM is tested as a reply is, never by 20"
abbrev pub embargo_tests : Sizes → Bool → Entry → ℕ → ℕ → List Test
embargo_tests z recovering e i f =
    no_such_client z i ∷ no_such_file z f ∷ server_away recovering (Embargo i f) ∷ no_call z e i ∷ []

-- "21 when LF names a station without embargo"
abbrev pub lift_tests : Sizes → Bool → ℕ → List Test
lift_tests z embargoed i = no_such_client z i ∷ (not embargoed, 21) ∷ []

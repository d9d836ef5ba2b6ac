-- Both mornings of the README, a service of small sizes with a recovery, an open with three callbacks, restarts and
-- embargoes, explained line by line from the definitions by evaluation; and the sentences of states that take many
-- steps. Assumes nothing.
use Prim.Native.Nat.{ℕ}
use mathlib.Core.Path.{◌≡◌, refl}
use mathlib.Core.Bool.{Bool, true, false, cond}
use mathlib.Core.List.{List, [], ◌∷◌, ◌++◌}
use lib.Dec.{eqb, ltb}
use Rattle.records.specs.declared.record.Mode.TheVariants.{Read as ForRead, Write as ForWrite}
use Rattle.records.specs.Version.{no_version}
use Rattle.sizes.specs.declared.sizes.Sizes.{Sizes}
use Rattle.sizes.specs.Sizes.{max_places, default_sizes}
use Rattle.decision.specs.Lists.{count, first_below, stored}
use Rattle.decision.specs.State.{state_of}
use Rattle.decision.specs.Callback.{ordered_calls}
use Rattle.decision.specs.Permission.{permission_at_grant}
use Rattle.protocol.specs.declared.step.Step.TheVariants.{Open}
use Rattle.protocol.specs.declared.client.ClientFile.{ClientFile}
use Rattle.protocol.specs.Client.{no_client}
use Rattle.protocol.specs.Entry.{fresh_entry, reported_entry}
use Rattle.protocol.specs.Reply.{grants_values}
use Rattle.access.specs.BlockStep.{block_step}
use Rattle.file.specs.FileStep.{file_step, after_forgetting, after_dropping}
use Rattle.table.specs.TableStep.{table_step}
use Rattle.service.specs.Embargo.{forgotten_below, grants_below, dropped_below, all_step}
use Rattle.service.specs.Space.{any_below, sum_below, spaced}
use Rattle.service.specs.Step.{moved, step_of}
use Rattle.service.specs.Fresh.{fresh}
use Rattle.stepfile.specs.Text.{bytes, decimal, digits_of, values_text}
use Rattle.stepfile.specs.Grammar.{digits_on, numeral, argument, shape_of, shaped, step, parse_line}
use Rattle.stepfile.specs.Setting.{setting_of}
use Rattle.stepfile.specs.Line.{calls_text as reply_calls}
use Rattle.stepfile.specs.Transcript.{lines, transcript}
use Rattle.stepfile.specs.Played.{service_after}
use Rattle.ledger.specs.Ledger.{empty_ledger, came_from, lost_below, ledger_after}
use Rattle.ledger.specs.Annotated.{unannotated, annotated_after}
use Rattle.phrases.specs.Phrase.{numbers_text}
use Rattle.phrases.specs.Accepted.{calls_text, losses_on, losses_below}
use Rattle.phrases.specs.Refusal.{refusal_text}
use Rattle.sentences.specs.Explained.{clash_text, grants_text, sentence_of, explained_text, explained_line}

-- few files and blocks, so that the blocks of the store are counted quickly
abbrev few : Sizes
few = record { clients = 8; files = 8; blocks = 4; store = max_places }

-- what is said of an input, line by line, from the fresh service and an empty ledger
abbrev explained : List ℕ → List ℕ
explained input =
    transcript (explained_line true) (annotated_after true) (unannotated (fresh few)) 1 (lines input)

-- what a client says of a file
abbrev says : ℕ → ℕ → Bool → Bool → ClientFile
says readers writers caching marked =
    record {
      opens = record { readers = readers; writers = writers; caching = caching };
      marked = marked;
      label = no_version;
    }

abbrev joined : List (List ℕ) → List ℕ
joined [] = []
joined (l ∷ ls) = l ++ joined ls

pub record Examples : Type 0 where
  -- the milling wheat
  pub wheat :
      explained
      (joined
      (bytes "OW 2 3\n"
      ∷ bytes "WR 2 3 0 23900\n"
      ∷ bytes "FL 2 3 0\n"
      ∷ bytes "WR 2 3 0 24150\n"
      ∷ bytes "OR 5 3\n"
      ∷ bytes "RD 5 3 0\n"
      ∷ bytes "AN 2 3\n"
      ∷ bytes "RD 5 3 0\n"
      ∷ bytes "WR 2 3 0 24200\n"
      ∷ bytes "RD 5 3 0\n"
      ∷ bytes "CR 5 3\n"
      ∷ bytes "CW 2 3\n"
      ∷ []))
      ≡ joined
      (bytes "1 G 2 1 1    station 2 has file 3 open for write at version 2 and may cache; it had no copy\n"
      ∷ bytes "2 K    station 2 writes file 3 block 0 in its copy\n"
      ∷ bytes "3 K    station 2 sends file 3 block 0 to the server\n"
      ∷ bytes "4 K    station 2 writes file 3 block 0 in its copy\n"
      ∷ bytes "5 W 2:3    station 5 waits to open file 3 for read, which is ONE_WRITER; station 2 is"
      ∷ bytes " called to write back and drop its copy\n"
      ∷ bytes "6 N 11    station 5 does not have file 3 open\n"
      ∷ bytes "7 A 1 5 2 1 0    station 2 answers for file 3, blocks sent: 1; station 5 has file 3 open"
      ∷ bytes " for read at version 2 and may not cache; it had no copy\n"
      ∷ bytes "8 V 24150    station 5, file 3 block 0: from the server; written by station 2 at line 4\n"
      ∷ bytes "9 K    station 2 writes file 3 block 0 at the server\n"
      ∷ bytes "10 V 24200    station 5, file 3 block 0: from the server; written by station 2 at line 9\n"
      ∷ bytes "11 K    station 5 closes file 3 for read\n"
      ∷ bytes "12 K    station 2 closes file 3 for write\n"
      ∷ [])
  -- the feed barley
  pub barley :
      explained
      (joined
      (bytes "OW 2 7\n"
      ∷ bytes "WR 2 7 0 18700\n"
      ∷ bytes "CW 2 7\n"
      ∷ bytes "OR 5 7\n"
      ∷ bytes "AN 2 7\n"
      ∷ bytes "RD 5 7 0\n"
      ∷ bytes "CR 5 7\n"
      ∷ bytes "OW 2 7\n"
      ∷ bytes "WR 2 7 0 19050\n"
      ∷ bytes "CW 2 7\n"
      ∷ bytes "OR 5 7\n"
      ∷ bytes "AN 2 7\n"
      ∷ bytes "RD 5 7 0\n"
      ∷ bytes "CR 5 7\n"
      ∷ []))
      ≡ joined
      (bytes "1 G 2 1 1    station 2 has file 7 open for write at version 2 and may cache; it had no copy\n"
      ∷ bytes "2 K    station 2 writes file 7 block 0 in its copy\n"
      ∷ bytes "3 K    station 2 closes file 7 for write\n"
      ∷ bytes "4 W 2:1    station 5 waits to open file 7 for read, which is CLOSED_DIRTY; station 2 is"
      ∷ bytes " called to write back\n"
      ∷ bytes "5 A 1 5 2 1 1    station 2 answers for file 7, blocks sent: 1; station 5 has file 7 open"
      ∷ bytes " for read at version 2 and may cache; it had no copy\n"
      ∷ bytes "6 V 18700    station 5, file 7 block 0: from the server; written by station 2 at line 2\n"
      ∷ bytes "7 K    station 5 closes file 7 for read\n"
      ∷ bytes "8 G 3 2 1    station 2 has file 7 open for write at version 3 and may cache; its copy of"
      ∷ bytes " version 2 is kept\n"
      ∷ bytes "9 K    station 2 writes file 7 block 0 in its copy\n"
      ∷ bytes "10 K    station 2 closes file 7 for write\n"
      ∷ bytes "11 W 2:1    station 5 waits to open file 7 for read, which is CLOSED_DIRTY; station 2 is"
      ∷ bytes " called to write back\n"
      ∷ bytes "12 A 1 5 3 2 1    station 2 answers for file 7, blocks sent: 1; station 5 has file 7 open"
      ∷ bytes " for read at version 3 and may cache; its copy of version 2 is dropped\n"
      ∷ bytes "13 V 19050    station 5, file 7 block 0: from the server; written by station 2 at line 9\n"
      ∷ bytes "14 K    station 5 closes file 7 for read\n"
      ∷ [])
  -- 2 stations, 3 files of 1 block: most refusals, own copies, a recovery
  pub small :
      explained
      (joined
      (bytes "SET 2 3 1\n"
      ∷ bytes "OW 2 0\n"
      ∷ bytes "OR 0 3\n"
      ∷ bytes "RD 0 0 1\n"
      ∷ bytes "RP 0\n"
      ∷ bytes "OW 0 0\n"
      ∷ bytes "FL 0 0 0\n"
      ∷ bytes "RD 0 0 0\n"
      ∷ bytes "RD 0 0 0\n"
      ∷ bytes "WR 0 0 0 5\n"
      ∷ bytes "RD 0 0 0\n"
      ∷ bytes "OR 1 0\n"
      ∷ bytes "OR 0 0\n"
      ∷ bytes "AN 1 0\n"
      ∷ bytes "CR 0 1\n"
      ∷ bytes "WR 1 1 0 9\n"
      ∷ bytes "XX\n"
      ∷ bytes "OR 1 1\n"
      ∷ bytes "EN\n"
      ∷ bytes "RP 0\n"
      ∷ bytes "RP 0\n"
      ∷ bytes "RP 1\n"
      ∷ bytes "OR 1 1\n"
      ∷ bytes "EN\n"
      ∷ bytes "hello\n"
      ∷ []))
      ≡ joined
      (bytes "1 K    the service has 2 stations, 3 files of 1 blocks; places: 512\n"
      ∷ bytes "2 N 2    there is no station 2; there are 2\n"
      ∷ bytes "3 N 3    there is no file 3; there are 3\n"
      ∷ bytes "4 N 4    there is no block 1; a file has 1\n"
      ∷ bytes "5 N 6    no recovery is under way\n"
      ∷ bytes "6 G 2 1 1    station 0 has file 0 open for write at version 2 and may cache; it had no copy\n"
      ∷ bytes "7 N 13    station 0 has no dirty copy of file 0 block 0\n"
      ∷ bytes "8 V 0    station 0, file 0 block 0: from the server; never written\n"
      ∷ bytes "9 V 0    station 0, file 0 block 0: from its own copy, since line 8; never written\n"
      ∷ bytes "10 K    station 0 writes file 0 block 0 in its copy\n"
      ∷ bytes "11 V 5    station 0, file 0 block 0: from its own copy, dirty, since line 10; written by"
      ∷ bytes " station 0 at line 10\n"
      ∷ bytes "12 W 0:3    station 1 waits to open file 0 for read, which is ONE_WRITER; station 0 is"
      ∷ bytes " called to write back and drop its copy\n"
      ∷ bytes "13 N 9    station 1 waits to open file 0 for read since line 12; stations still to answer:"
      ∷ bytes " 0\n"
      ∷ bytes "14 N 10    station 1 has no call to answer on file 0\n"
      ∷ bytes "15 N 11    station 0 does not have file 1 open for read\n"
      ∷ bytes "16 N 11    station 1 does not have file 1 open for write\n"
      ∷ bytes "17 K    the server crashes; every station has to report\n"
      ∷ bytes "18 N 5    the server recovers; stations still to report: 0 1\n"
      ∷ bytes "19 N 8    the recovery cannot end; stations still to report: 0 1\n"
      ∷ bytes "20 K    station 0 reports what it has open\n"
      ∷ bytes "21 N 7    station 0 has reported before\n"
      ∷ bytes "22 K    station 1 reports what it has open\n"
      ∷ bytes "23 N 5    the server recovers; stations still to report: none\n"
      ∷ bytes "24 K    the recovery ends\n"
      ∷ bytes "25 N 1    this line is no step\n"
      ∷ [])
  -- three callbacks, one of them answered
  pub calls :
      explained
      (joined
      (bytes "OR 2 0\n"
      ∷ bytes "OR 5 0\n"
      ∷ bytes "OR 7 0\n"
      ∷ bytes "OW 0 0\n"
      ∷ bytes "AN 5 0\n"
      ∷ []))
      ≡ joined
      (bytes "1 G 1 0 1    station 2 has file 0 open for read at version 1 and may cache; it had no copy\n"
      ∷ bytes "2 G 1 0 1    station 5 has file 0 open for read at version 1 and may cache; it had no copy\n"
      ∷ bytes "3 G 1 0 1    station 7 has file 0 open for read at version 1 and may cache; it had no copy\n"
      ∷ bytes "4 W 2:2 5:2 7:2    station 0 waits to open file 0 for write, which is MULT_READERS; station"
      ∷ bytes " 2 is called to drop its copy; station 5 is called to drop its copy; station 7 is called to"
      ∷ bytes " drop its copy\n"
      ∷ bytes "5 A 0    station 5 answers for file 0, blocks sent: 0; stations still to answer: 2 7\n"
      ∷ [])
  -- a restart that loses two writes and grants two opens, the reads after it, and one that changes nothing
  pub restarts :
      explained
      (joined
      (bytes "OW 0 0\n"
      ∷ bytes "OW 0 1\n"
      ∷ bytes "WR 0 0 0 5\n"
      ∷ bytes "FL 0 0 0\n"
      ∷ bytes "WR 0 0 0 6\n"
      ∷ bytes "WR 0 1 1 7\n"
      ∷ bytes "OR 2 1\n"
      ∷ bytes "OR 1 0\n"
      ∷ bytes "BT 0\n"
      ∷ bytes "RD 1 0 0\n"
      ∷ bytes "RD 2 1 1\n"
      ∷ bytes "BT 3\n"
      ∷ bytes "BT 8\n"
      ∷ bytes "BT 01\n"
      ∷ []))
      ≡ joined
      (bytes "1 G 2 1 1    station 0 has file 0 open for write at version 2 and may cache; it had no copy\n"
      ∷ bytes "2 G 2 1 1    station 0 has file 1 open for write at version 2 and may cache; it had no copy\n"
      ∷ bytes "3 K    station 0 writes file 0 block 0 in its copy\n"
      ∷ bytes "4 K    station 0 sends file 0 block 0 to the server\n"
      ∷ bytes "5 K    station 0 writes file 0 block 0 in its copy\n"
      ∷ bytes "6 K    station 0 writes file 1 block 1 in its copy\n"
      ∷ bytes "7 W 0:3    station 2 waits to open file 1 for read, which is ONE_WRITER; station 0 is called"
      ∷ bytes " to write back and drop its copy\n"
      ∷ bytes "8 W 0:3    station 1 waits to open file 0 for read, which is ONE_WRITER; station 0 is called"
      ∷ bytes " to write back and drop its copy\n"
      ∷ bytes "9 K 1 2 1 1 2 2 1 1    station 0 restarts; files it had open: 0 1; writes lost: file 0 block 0"
      ∷ bytes " at line 5, file 1 block 1 at line 6; station 1 has file 0 open for read at version 2 and may"
      ∷ bytes " cache; it had no copy; station 2 has file 1 open for read at version 2 and may cache; it had"
      ∷ bytes " no copy\n"
      ∷ bytes "10 V 5    station 1, file 0 block 0: from the server; written by station 0 at line 3; the"
      ∷ bytes " write of station 0 at line 5 was lost\n"
      ∷ bytes "11 V 0    station 2, file 1 block 1: from the server; as at the start; the write of station 0"
      ∷ bytes " at line 6 was lost\n"
      ∷ bytes "12 K    station 3 restarts; files it had open: none; writes lost: none\n"
      ∷ bytes "13 N 2    there is no station 8; there are 8\n"
      ∷ bytes "14 N 1    this line is no step\n"
      ∷ [])
  -- "19 when a setting lies outside its range"
  pub range :
      explained (bytes "SET 9 1 1\n")
      ≡ joined
      (bytes "1 N 19    a setting lies outside its range: 1 to 8 stations, 1 to 64 files, 1 to 8 blocks, 0 to 512"
      ∷ bytes " places\n"
      ∷ [])
  -- a store of one place, which station 0 has reserved
  pub store :
      explained (joined (bytes "SET 2 1 2 1\n" ∷ bytes "OW 0 0\n" ∷ bytes "WR 0 0 0 5\n" ∷ bytes "WR 0 0 1 6\n" ∷ []))
      ≡ joined
      (bytes "1 K    the service has 2 stations, 1 files of 2 blocks; places: 1\n"
      ∷ bytes "2 G 2 1 1    station 0 has file 0 open for write at version 2 and may cache; it had no copy\n"
      ∷ bytes "3 K    station 0 writes file 0 block 0 in its copy\n"
      ∷ bytes "4 N 23    no place is free for file 0 block 1; places: 1; used: 0; reserved: 1; reserved by"
      ∷ bytes " stations: 0\n"
      ∷ [])
  -- 12 and 14
  pub full :
      refusal_text default_sizes [] [] (fresh_entry 8) 0 0 (Open ForRead 5 3) 12
      ≡ bytes "station 5 has file 3 open for read 255 times, the most there can be"
  pub spent :
      refusal_text default_sizes [] [] (fresh_entry 8) 0 0 (Open ForWrite 5 3) 14
      ≡ bytes "version 4294967295 is the last, and no write open of file 3 can raise it"

pub examples : Examples
unfolding fresh empty_ledger ledger_after step_of moved spaced any_below sum_below file_step block_step table_step state_of
    permission_at_grant ordered_calls count first_below stored decimal digits_of values_text digits_on numeral argument shape_of shaped step parse_line setting_of
    reply_calls lines transcript service_after numbers_text calls_text sentence_of explained_text explained_line
    annotated_after losses_on losses_below grants_text after_forgetting after_dropping forgotten_below grants_below dropped_below
    all_step came_from lost_below grants_values
examples =
    record {
      wheat = refl;
      barley = refl;
      small = refl;
      calls = refl;
      restarts = refl;
      range = refl;
      store = refl;
      full = refl;
      spent = refl;
    }

pub record Embargoes : Type 0 where
  -- an embargo that loses a write and grants an open, what the station does under it, and how it is told
  pub embargo :
      explained
      (joined
      (bytes "OW 0 0\n"
      ∷ bytes "WR 0 0 0 5\n"
      ∷ bytes "OR 1 0\n"
      ∷ bytes "EM 0 0\n"
      ∷ bytes "RD 0 0 0\n"
      ∷ bytes "WR 0 0 0 6\n"
      ∷ bytes "RD 1 0 0\n"
      ∷ bytes "OR 0 1\n"
      ∷ bytes "LF 0\n"
      ∷ bytes "LF 0\n"
      ∷ bytes "EM 1 0\n"
      ∷ []))
      ≡ joined
      (bytes "1 G 2 1 1    station 0 has file 0 open for write at version 2 and may cache; it had no copy\n"
      ∷ bytes "2 K    station 0 writes file 0 block 0 in its copy\n"
      ∷ bytes "3 W 0:3    station 1 waits to open file 0 for read, which is ONE_WRITER; station 0 is called"
      ∷ bytes " to write back and drop its copy\n"
      ∷ bytes "4 A 0 1 2 1 1    station 0 is put under embargo; files it had open: 0; writes lost: file 0"
      ∷ bytes " block 0 at line 2; station 1 has file 0 open for read at version 2 and may cache; it had no"
      ∷ bytes " copy\n"
      ∷ bytes "5 V 5    station 0, file 0 block 0: from its own copy, dirty, since line 2; nothing is"
      ∷ bytes " promised: it is under embargo since line 4\n"
      ∷ bytes "6 K    station 0 writes file 0 block 0 in its copy; lost: it is under embargo since line 4\n"
      ∷ bytes "7 V 0    station 1, file 0 block 0: from the server; as at the start; the write of station 0"
      ∷ bytes " at line 6 was lost\n"
      ∷ bytes "8 N 20    station 0 is under embargo since line 4\n"
      ∷ bytes "9 K    station 0 is told of its embargo; files it had open: 0\n"
      ∷ bytes "10 N 21    station 0 is not under embargo\n"
      ∷ bytes "11 N 10    station 1 has no call to answer on file 0\n"
      ∷ [])
  -- an embargo while another call is out, one that grants two opens, and a recovery that waits for neither station
  pub recovery :
      explained
      (joined
      (bytes "SET 5 2 1\n"
      ∷ bytes "OR 2 0\n"
      ∷ bytes "OR 3 0\n"
      ∷ bytes "OR 2 1\n"
      ∷ bytes "OW 0 0\n"
      ∷ bytes "OW 1 1\n"
      ∷ bytes "EM 3 0\n"
      ∷ bytes "EM 2 1\n"
      ∷ bytes "XX\n"
      ∷ bytes "EN\n"
      ∷ []))
      ≡ joined
      (bytes "1 K    the service has 5 stations, 2 files of 1 blocks; places: 512\n"
      ∷ bytes "2 G 1 0 1    station 2 has file 0 open for read at version 1 and may cache; it had no copy\n"
      ∷ bytes "3 G 1 0 1    station 3 has file 0 open for read at version 1 and may cache; it had no copy\n"
      ∷ bytes "4 G 1 0 1    station 2 has file 1 open for read at version 1 and may cache; it had no copy\n"
      ∷ bytes "5 W 2:2 3:2    station 0 waits to open file 0 for write, which is MULT_READERS; station 2 is"
      ∷ bytes " called to drop its copy; station 3 is called to drop its copy\n"
      ∷ bytes "6 W 2:2    station 1 waits to open file 1 for write, which is ONE_READER; station 2 is"
      ∷ bytes " called to drop its copy\n"
      ∷ bytes "7 A 0    station 3 is put under embargo; files it had open: 0; writes lost: none\n"
      ∷ bytes "8 A 0 0 2 1 1 1 2 1 1    station 2 is put under embargo; files it had open: 0 1; writes lost:"
      ∷ bytes " none; station 0 has file 0 open for write at version 2 and may cache; it had no copy; station"
      ∷ bytes " 1 has file 1 open for write at version 2 and may cache; it had no copy\n"
      ∷ bytes "9 K    the server crashes; every station has to report\n"
      ∷ bytes "10 N 8    the recovery cannot end; stations still to report: 0 1 4\n"
      ∷ [])
  -- an embargo that no line has put
  pub image :
      refusal_text default_sizes [] [] (fresh_entry 8) 0 0 (Open ForRead 5 3) 20
      ≡ bytes "station 5 is under embargo, as the image has it"

pub embargoes : Embargoes
unfolding fresh empty_ledger ledger_after step_of moved spaced any_below sum_below file_step block_step table_step state_of
    permission_at_grant ordered_calls count first_below stored decimal digits_of values_text digits_on numeral argument shape_of shaped step parse_line setting_of
    reply_calls lines transcript service_after numbers_text calls_text sentence_of explained_text explained_line
    annotated_after losses_on losses_below grants_text after_forgetting after_dropping forgotten_below grants_below dropped_below
    all_step came_from lost_below grants_values
embargoes =
    record {
      embargo = refl;
      recovery = refl;
      image = refl;
    }

-- a report that has permission of a file that is not open, and one that is open beside a mark that was accepted: the
-- first file is told, and the first of the stations
pub record Clashes : Type 0 where
  pub untrue :
      clash_text default_sizes (λ j. false) (λ f. fresh_entry 8) (λ f. cond (eqb f 3) (says 0 0 true false) no_client) 5
      ≡ bytes "the report on file 3 cannot be true: station 5 has readers 0, writers 0, may cache, no mark"
  pub beside :
      clash_text default_sizes (λ j. ltb 0 j) (λ f. reported_entry (fresh_entry 8) 2 (says 0 0 false true))
      (λ f. cond (ltb f 6) no_client (says 255 0 true false)) 5
      ≡ joined
      (bytes "the reports on file 6 cannot both be true: station 5 has readers 255, writers 0, may cache, no mark;"
      ∷ bytes " station 2 has readers 0, writers 0, may not cache, a mark"
      ∷ [])
  -- nothing is said where nothing clashes
  pub none : clash_text default_sizes (λ j. true) (λ f. fresh_entry 8) (λ f. no_client) 5 ≡ []

pub clashes : Clashes
unfolding first_below decimal digits_of
clashes = record { untrue = refl; beside = refl; none = refl }

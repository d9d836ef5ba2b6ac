-- The picture after a few lines, from the definitions by evaluation: both mornings of the README, a recovery that is
-- half reported, an open that waits, a last writer, a copy of a closed file, a setting outside its range, a full store, and
-- a station under embargo. Assumes nothing.
use Prim.Native.Nat.{ℕ}
use mathlib.Core.Path.{◌≡◌, refl}
use mathlib.Core.Bool.{true}
use mathlib.Core.List.{List, [], ◌∷◌, ◌++◌}
use Rattle.sizes.specs.declared.sizes.Sizes.{Sizes}
use Rattle.sizes.specs.Sizes.{max_places}
use Rattle.decision.specs.Lists.{count, first_below, stored}
use Rattle.decision.specs.State.{state_of}
use Rattle.decision.specs.Permission.{permission_at_grant}
use Rattle.access.specs.BlockStep.{block_step}
use Rattle.file.specs.FileStep.{file_step, after_forgetting}
use Rattle.table.specs.TableStep.{table_step}
use Rattle.service.specs.Embargo.{forgotten_below, grants_below, all_step}
use Rattle.service.specs.Space.{any_below, sum_below, spaced}
use Rattle.service.specs.Step.{moved, step_of}
use Rattle.service.specs.Fresh.{fresh}
use Rattle.stepfile.specs.Text.{bytes, decimal, digits_of}
use Rattle.stepfile.specs.Grammar.{digits_on, numeral, argument, shape_of, shaped, step, parse_line}
use Rattle.stepfile.specs.Setting.{setting_of}
use Rattle.stepfile.specs.Transcript.{lines, after}
use Rattle.stepfile.specs.Played.{service_after}
use Rattle.ledger.specs.Ledger.{empty_ledger, lost_below, ledger_after}
use Rattle.ledger.specs.Annotated.{unannotated, annotated_after}
use Rattle.phrases.specs.Phrase.{numbers_text}
use Rattle.phrases.specs.Accepted.{losses_on, losses_below}
use Rattle.picture.specs.Picture.{asides_text, stations_text, files_text, times_text, picture_text}

-- few stations, files and blocks, so that the blocks of the store are counted quickly
abbrev few : Sizes
few = record { clients = 7; files = 8; blocks = 2; store = max_places }

-- the picture after an input, from the fresh service and an empty ledger
abbrev pictured : List ℕ → List ℕ
pictured input = picture_text (after (annotated_after true) (unannotated (fresh few)) 1 (lines input))

abbrev joined : List (List ℕ) → List ℕ
joined [] = []
joined (l ∷ ls) = l ++ joined ls

pub record Examples : Type 0 where
  -- nothing has happened
  pub start :
      pictured []
      ≡ joined
      (bytes "the server runs\n"
      ∷ bytes "places: 512; used: 0; reserved: 0; reserved by stations: none; free: 512\n"
      ∷ bytes "nothing was refused\n"
      ∷ bytes "end of the picture\n"
      ∷ [])
  -- the milling wheat
  pub wheat :
      pictured
      (joined
      (bytes "OW 2 3\n"
      ∷ bytes "WR 2 3 0 23900\n"
      ∷ bytes "FL 2 3 0\n"
      ∷ bytes "WR 2 3 0 24150\n"
      ∷ bytes "OR 5 3\n"
      ∷ bytes "RD 5 3 0\n"
      ∷ bytes "AN 2 3\n"
      ∷ bytes "RD 5 3 0\n"
      ∷ bytes "WR 2 3 0 24200\n"
      ∷ bytes "RD 5 3 0\n"
      ∷ bytes "CR 5 3\n"
      ∷ bytes "CW 2 3\n"
      ∷ []))
      ≡ joined
      (bytes "the server runs\n"
      ∷ bytes "places: 512; used: 1; reserved: 0; reserved by stations: none; free: 511\n"
      ∷ bytes "file 3 is CLOSED at version 2; last writer: none\n"
      ∷ bytes "refused with 11: 1\n"
      ∷ bytes "end of the picture\n"
      ∷ [])
  -- the feed barley
  pub barley :
      pictured
      (joined
      (bytes "OW 2 7\n"
      ∷ bytes "WR 2 7 0 18700\n"
      ∷ bytes "CW 2 7\n"
      ∷ bytes "OR 5 7\n"
      ∷ bytes "AN 2 7\n"
      ∷ bytes "RD 5 7 0\n"
      ∷ bytes "CR 5 7\n"
      ∷ bytes "OW 2 7\n"
      ∷ bytes "WR 2 7 0 19050\n"
      ∷ bytes "CW 2 7\n"
      ∷ bytes "OR 5 7\n"
      ∷ bytes "AN 2 7\n"
      ∷ bytes "RD 5 7 0\n"
      ∷ bytes "CR 5 7\n"
      ∷ []))
      ≡ joined
      (bytes "the server runs\n"
      ∷ bytes "places: 512; used: 1; reserved: 0; reserved by stations: none; free: 511\n"
      ∷ bytes "file 7 is CLOSED at version 3; last writer: none\n"
      ∷ bytes "  station 2: read opens 0, write opens 0, may not cache; blocks held: 0; dirty: none\n"
      ∷ bytes "  station 5: read opens 0, write opens 0, may not cache; blocks held: 0; dirty: none\n"
      ∷ bytes "nothing was refused\n"
      ∷ bytes "end of the picture\n"
      ∷ [])
  -- 3 stations, 2 files of 1 block: one station has reported; the file of another is CLOSED by the server's entry
  pub recovery :
      pictured
      (joined
      (bytes "SET 3 2 1\n"
      ∷ bytes "OW 1 0\n"
      ∷ bytes "WR 1 0 0 5\n"
      ∷ bytes "OR 2 1\n"
      ∷ bytes "XX\n"
      ∷ bytes "RP 1\n"
      ∷ bytes "OR 0 1\n"
      ∷ bytes "hello\n"
      ∷ []))
      ≡ joined
      (bytes "the server recovers; stations still to report: 0 2\n"
      ∷ bytes "places: 512; used: 0; reserved: 1; reserved by stations: 1; free: 511\n"
      ∷ bytes "file 0 is ONE_WRITER at version 2; last writer: none\n"
      ∷ bytes "  station 1: read opens 0, write opens 1, may cache; blocks held: 0; dirty: 0\n"
      ∷ bytes "file 1 is CLOSED at version 1; last writer: none\n"
      ∷ bytes "  station 2: read opens 1, write opens 0, may cache; blocks held: none; dirty: none\n"
      ∷ bytes "refused with 1: 1\n"
      ∷ bytes "refused with 5: 1\n"
      ∷ bytes "end of the picture\n"
      ∷ [])
  pub reported :
      pictured (joined (bytes "SET 1 1 1\n" ∷ bytes "XX\n" ∷ bytes "RP 0\n" ∷ []))
      ≡ joined
      (bytes "the server recovers; stations still to report: none\n"
      ∷ bytes "places: 512; used: 0; reserved: 0; reserved by stations: none; free: 512\n"
      ∷ bytes "nothing was refused\n"
      ∷ bytes "end of the picture\n"
      ∷ [])
  -- an open that waits
  pub waits :
      pictured
      (joined
      (bytes "OW 2 3\n"
      ∷ bytes "WR 2 3 0 23900\n"
      ∷ bytes "RD 2 3 1\n"
      ∷ bytes "RD 5 3 0\n"
      ∷ bytes "OR 5 3\n"
      ∷ bytes "OR 6 3\n"
      ∷ bytes "RD 5 3 0\n"
      ∷ []))
      ≡ joined
      (bytes "the server runs\n"
      ∷ bytes "places: 512; used: 0; reserved: 1; reserved by stations: 2; free: 511\n"
      ∷ bytes "file 3 is ONE_WRITER at version 2; last writer: none\n"
      ∷ bytes "  station 2: read opens 0, write opens 1, may cache; blocks held: 0 1; dirty: 0\n"
      ∷ bytes "  station 5 waits to open file 3 for read since line 5; stations still to answer: 2\n"
      ∷ bytes "refused with 9: 1\n"
      ∷ bytes "refused with 11: 2\n"
      ∷ bytes "end of the picture\n"
      ∷ [])
  -- a last writer
  pub last :
      pictured (joined (bytes "SET 3 8 4\n" ∷ bytes "OW 2 7\n" ∷ bytes "WR 2 7 3 18700\n" ∷ bytes "CW 2 7\n" ∷ []))
      ≡ joined
      (bytes "the server runs\n"
      ∷ bytes "places: 512; used: 0; reserved: 1; reserved by stations: 2; free: 511\n"
      ∷ bytes "file 7 is CLOSED_DIRTY at version 2; last writer: 2\n"
      ∷ bytes "  station 2: read opens 0, write opens 0, may not cache; blocks held: 3; dirty: 3\n"
      ∷ bytes "nothing was refused\n"
      ∷ bytes "end of the picture\n"
      ∷ [])
  -- a copy of a file that is CLOSED at version 1; file 0 has none
  pub copy :
      pictured
      (joined
      (bytes "SET 5 7 3\n"
      ∷ bytes "OR 4 6\n"
      ∷ bytes "RD 4 6 2\n"
      ∷ bytes "CR 4 6\n"
      ∷ bytes "OR 4 0\n"
      ∷ bytes "CR 4 0\n"
      ∷ []))
      ≡ joined
      (bytes "the server runs\n"
      ∷ bytes "places: 512; used: 0; reserved: 0; reserved by stations: none; free: 512\n"
      ∷ bytes "file 6 is CLOSED at version 1; last writer: none\n"
      ∷ bytes "  station 4: read opens 0, write opens 0, may not cache; blocks held: 2; dirty: none\n"
      ∷ bytes "nothing was refused\n"
      ∷ bytes "end of the picture\n"
      ∷ [])
  -- a setting outside its range
  pub range :
      pictured (joined (bytes "SET 9 1 1\n" ∷ bytes "OW 8 0\n" ∷ []))
      ≡ joined
      (bytes "the server runs\n"
      ∷ bytes "places: 512; used: 0; reserved: 0; reserved by stations: none; free: 512\n"
      ∷ bytes "refused with 2: 1\n"
      ∷ bytes "refused with 19: 1\n"
      ∷ bytes "end of the picture\n"
      ∷ [])
  -- a store of one place, which station 0 has reserved
  pub full :
      pictured (joined (bytes "SET 2 1 2 1\n" ∷ bytes "OW 0 0\n" ∷ bytes "WR 0 0 0 5\n" ∷ bytes "WR 0 0 1 6\n" ∷ []))
      ≡ joined
      (bytes "the server runs\n"
      ∷ bytes "places: 1; used: 0; reserved: 1; reserved by stations: 0; free: 0\n"
      ∷ bytes "file 0 is ONE_WRITER at version 2; last writer: none\n"
      ∷ bytes "  station 0: read opens 0, write opens 1, may cache; blocks held: 0; dirty: 0\n"
      ∷ bytes "refused with 23: 1\n"
      ∷ bytes "end of the picture\n"
      ∷ [])

pub examples : Examples
unfolding fresh empty_ledger ledger_after step_of moved spaced any_below sum_below file_step block_step table_step state_of
    permission_at_grant count first_below stored decimal digits_of digits_on numeral argument shape_of shaped step parse_line
    setting_of lines after service_after numbers_text annotated_after asides_text stations_text files_text times_text picture_text
examples =
    record {
      start = refl;
      wheat = refl;
      barley = refl;
      recovery = refl;
      reported = refl;
      waits = refl;
      last = refl;
      copy = refl;
      range = refl;
      full = refl;
    }

-- a station under embargo, which still writes
pub aside :
    pictured
    (joined
    (bytes "SET 3 2 1\n"
    ∷ bytes "OW 1 0\n"
    ∷ bytes "WR 1 0 0 5\n"
    ∷ bytes "OR 2 0\n"
    ∷ bytes "EM 1 0\n"
    ∷ bytes "WR 1 0 0 6\n"
    ∷ bytes "CW 1 0\n"
    ∷ bytes "LF 2\n"
    ∷ []))
    ≡ joined
    (bytes "the server runs\n"
    ∷ bytes "places: 512; used: 0; reserved: 0; reserved by stations: none; free: 512\n"
    ∷ bytes "station 1 is under embargo since line 5; writes lost: file 0 block 0 at line 6\n"
    ∷ bytes "file 0 is ONE_READER at version 2; last writer: none\n"
    ∷ bytes "  station 1: read opens 0, write opens 1, may cache; blocks held: 0; dirty: 0\n"
    ∷ bytes "  station 2: read opens 1, write opens 0, may cache; blocks held: none; dirty: none\n"
    ∷ bytes "refused with 20: 1\n"
    ∷ bytes "refused with 21: 1\n"
    ∷ bytes "end of the picture\n"
    ∷ [])
unfolding fresh empty_ledger ledger_after lost_below step_of moved spaced any_below sum_below file_step block_step table_step
    all_step after_forgetting forgotten_below grants_below state_of permission_at_grant count stored
    decimal digits_of digits_on numeral argument shape_of shaped step parse_line setting_of lines after service_after
    numbers_text losses_on losses_below annotated_after asides_text stations_text files_text times_text picture_text
aside = refl

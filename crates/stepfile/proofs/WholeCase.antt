-- The whole case of document 01, an open with three calls, settings, an embargo, and a store of one place, byte for byte,
-- from the definitions by evaluation. Assumes nothing.
use mathlib.Core.Path.{◌≡◌, refl}
use mathlib.Core.Bool.{false}
use Rattle.decision.specs.Lists.{count, stored, first_below}
use Rattle.decision.specs.State.{state_of}
use Rattle.decision.specs.Callback.{ordered_calls}
use Rattle.decision.specs.Permission.{permission_at_grant}
use Rattle.access.specs.BlockStep.{block_step}
use Rattle.file.specs.FileStep.{file_step, after_forgetting, after_dropping}
use Rattle.table.specs.TableStep.{table_step}
use Rattle.protocol.specs.Reply.{grants_values}
use Rattle.service.specs.Embargo.{forgotten_below, grants_below, dropped_below, all_step}
use Rattle.service.specs.Space.{any_below, sum_below, spaced}
use Rattle.service.specs.Step.{moved, step_of}
use Rattle.service.specs.Fresh.{fresh}
use Rattle.stepfile.specs.Text.{bytes, decimal, digits_of, values_text}
use Rattle.stepfile.specs.Grammar.{digits_on, numeral, argument, shape_of, shaped, step, parse_line}
use Rattle.stepfile.specs.Setting.{setting_of}
use Rattle.stepfile.specs.Line.{calls_text, line_text}
use Rattle.stepfile.specs.Summary.{files_text, summary_text}
use Rattle.stepfile.specs.Transcript.{lines, transcript, after}
use Rattle.stepfile.specs.Played.{reply_line, service_after, played_from, played}

pub record WholeCase : Type 0 where
  pub empty : played (bytes "") ≡ bytes "files 0\n"
  pub case :
      played (bytes "OW 0 3\nWR 0 3 0 77\nCW 0 3\nOR 1 3\nRD 1 3 0\nAN 0 3\nRD 1 3 0\nOW 2 3\n")
      ≡ bytes "1 G 2 1 1\n2 K\n3 K\n4 W 0:1\n5 N 11\n6 A 1 1 2 1 1\n7 V 77\n8 W 1:2\nfiles 1\n3 2 2 -\n"
  -- "in ascending station number" (document 02, Wish 1), in whichever order the stations opened the file
  pub calls :
      played (bytes "OR 5 0\nOR 2 0\nOR 7 0\nOW 0 0\n")
      ≡ bytes "1 G 1 0 1\n2 G 1 0 1\n3 G 1 0 1\n4 W 2:2 5:2 7:2\nfiles 1\n0 4 1 -\n"
  -- "a first line SET with the three numbers": the settings hold from there on, and on a later line it is no step
  pub chosen :
      played (bytes "SET 3 3 3\nOR 3 0\nOR 2 3\nOR 2 2\nRD 2 2 3\nRD 2 2 2\nSET 8 32 4\n")
      ≡ bytes "1 K\n2 N 2\n3 N 3\n4 G 1 0 1\n5 N 4\n6 V 0\n7 N 1\nfiles 1\n2 2 1 -\n"
  -- "refused, it leaves 8, 32 and 4"
  pub out_of_range :
      played (bytes "SET 9 32 4\nOR 7 31\nOR 8 0\n")
      ≡ bytes "1 N 19\n2 G 1 0 1\n3 N 2\nfiles 1\n31 2 1 -\n"
  -- a session that goes on from a service keeps its sizes: no line of it sets others
  pub resumed :
      played_from false (fresh (record { clients = 3; files = 3; blocks = 3; store = 512 })) (bytes "SET 8 32 4\nOR 3 0\nOR 2 2\n")
      ≡ bytes "1 N 1\n2 N 2\n3 G 1 0 1\nfiles 1\n2 2 1 -\n"
  -- "EM .. prints A 0, then grants as BT does"; the station then needs the server in vain until it is told (Wish 9)
  pub embargo :
      played (bytes "OW 0 0\nOW 0 1\nOR 2 1\nOR 1 0\nEM 0 0\nOR 0 0\nLF 0\nLF 0\n")
      ≡ bytes "1 G 2 1 1\n2 G 2 1 1\n3 W 0:3\n4 W 0:3\n5 A 0 1 2 1 1 2 2 1 1\n6 N 20\n7 K\n8 N 21\nfiles 2\n0 2 2 -\n1 2 2 -\n"
  -- "23 when such a write finds nothing free, and only then, last of all"; a reserved block that is lost frees its place
  -- (Wish 13)
  pub store :
      played (bytes "SET 2 1 2 1\nOW 0 0\nWR 0 0 0 5\nWR 0 0 1 6\nBT 0\nOW 1 0\nWR 1 0 1 1\n")
      ≡ bytes "1 K\n2 G 2 1 1\n3 K\n4 N 23\n5 K\n6 G 3 2 1\n7 K\nfiles 1\n0 5 3 -\n"

pub whole_case : WholeCase
unfolding fresh step_of moved spaced any_below sum_below file_step block_step table_step first_below all_step after_forgetting after_dropping forgotten_below grants_below dropped_below grants_values state_of ordered_calls permission_at_grant count stored digits_of decimal digits_on numeral argument shape_of shaped step parse_line setting_of values_text calls_text line_text files_text summary_text lines transcript after reply_line service_after played
whole_case =
    record {
      empty = refl;
      case = refl;
      calls = refl;
      chosen = refl;
      out_of_range = refl;
      resumed = refl;
      embargo = refl;
      store = refl;
    }

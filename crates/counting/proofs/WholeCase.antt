-- The traffic of document 01's whole case, and of the files in which each column is met, byte for byte, from the definitions
-- by evaluation. Assumes nothing.
use mathlib.Core.Path.{◌≡◌, refl}
use Rattle.decision.specs.Lists.{count, stored, first_below}
use Rattle.decision.specs.State.{state_of}
use Rattle.decision.specs.Callback.{ordered_calls}
use Rattle.decision.specs.Permission.{permission_at_grant}
use Rattle.access.specs.BlockStep.{block_step}
use Rattle.file.specs.FileStep.{file_step, after_forgetting, after_dropping}
use Rattle.table.specs.TableStep.{table_step}
use Rattle.service.specs.Embargo.{forgotten_below, grants_below, dropped_below, all_step}
use Rattle.service.specs.Step.{moved, step_of}
use Rattle.service.specs.Space.{spaced, any_below, sum_below}
use Rattle.service.specs.Fresh.{fresh}
use Rattle.stepfile.specs.Text.{bytes, decimal, digits_of}
use Rattle.stepfile.specs.Grammar.{digits_on, numeral, argument, shape_of, shaped, step, parse_line}
use Rattle.stepfile.specs.Setting.{setting_of}
use Rattle.stepfile.specs.Transcript.{lines, after}
use Rattle.stepfile.specs.Played.{service_after}
use Rattle.trace.specs.Number.{number_in}
use Rattle.trace.specs.Records.{call_records, open_records, records_of}
use Rattle.counting.specs.Printed.{columns_text, stations_text, sum_of}
use Rattle.counting.specs.Traffic.{traces_of, traffic_file}

pub record WholeCase : Type 0 where
  pub case :
      traffic_file (bytes "OW 0 3\nWR 0 3 0 77\nCW 0 3\nOR 1 3\nRD 1 3 0\nAN 0 3\nRD 1 3 0\nOW 2 3\n")
      ≡ bytes "0 1 1 0 1 1 0 0 0\n1 1 0 1 0 1 1 0 1\n2 0 0 0 0 0 0 0 0\n3 0 0 0 0 0 0 0 0\n4 0 0 0 0 0 0 0 0\n5 0 0 0 0 0 0 0 0\n6 0 0 0 0 0 0 0 0\n7 0 0 0 0 0 0 0 0\nall 2 1 1 1 2 1 0 1\n"
  -- "a step that names no valid station makes none": 1, 2, XX and EN, refused or not
  pub nobody :
      traffic_file (bytes "SET 2 1 1\nOR 2 0\nNO\nEN\nXX\nEN\nRP 0\nRP 0\nRP 1\nEN\n")
      ≡ bytes "0 0 0 0 0 0 1 0 0\n1 0 0 0 0 0 0 0 0\nall 0 0 0 0 0 1 0 0\n"
  -- "each block sent, uncached too": by a flush, and by a write of a station that may not cache; a read from the copy
  pub blocks :
      traffic_file (bytes "SET 2 1 2\nOW 0 0\nWR 0 0 0 7\nRD 0 0 0\nRD 0 0 1\nFL 0 0 0\nOW 1 0\nAN 0 0\nWR 0 0 0 8\nRD 1 0 0\n")
      ≡ bytes "0 1 0 1 2 1 0 1 2\n1 1 0 1 0 0 0 0 1\nall 2 0 2 2 1 0 1 3\n"
  -- opens of others that a restart grants, on two files: "Opens .. count when granted"
  pub grants :
      traffic_file (bytes "SET 3 2 1\nOW 0 0\nOW 0 1\nOR 1 0\nOR 2 1\nBT 0\n")
      ≡ bytes "0 2 0 0 0 2 0 0 0\n1 1 0 0 0 0 0 0 0\n2 1 0 0 0 0 0 0 0\nall 4 0 0 0 2 0 0 0\n"
  -- the same of an embargo, whose first grant stands in its reply
  pub embargo :
      traffic_file (bytes "SET 3 2 1\nOW 0 0\nOW 0 1\nOR 1 0\nOR 2 1\nEM 0 0\n")
      ≡ bytes "0 2 0 0 0 2 0 0 0\n1 1 0 0 0 0 0 0 0\n2 1 0 0 0 0 0 0 0\nall 4 0 0 0 2 0 0 0\n"

pub whole_case : WholeCase
unfolding fresh step_of moved spaced any_below sum_below file_step block_step table_step first_below all_step after_forgetting after_dropping forgotten_below grants_below dropped_below state_of ordered_calls permission_at_grant count stored digits_of decimal digits_on numeral argument shape_of shaped step parse_line setting_of lines after service_after number_in call_records open_records records_of columns_text stations_text sum_of traces_of traffic_file
whole_case = record { case = refl; nobody = refl; blocks = refl; grants = refl; embargo = refl }

-- The starred edges of document 01, each shown from the definitions by evaluation. Assumes nothing.
use mathlib.Core.Path.{◌≡◌, refl}
use mathlib.Core.Bool.{true, false}
use mathlib.Core.List.{List, [], ◌∷◌, ◌++◌}
use Rattle.records.specs.declared.record.Mode.TheVariants.{Read, Write}
use Rattle.protocol.specs.declared.reply.Reply.TheVariants.{Granted, Refused}
use Rattle.protocol.specs.declared.step.Step.{Step}
use Rattle.decision.specs.declared.state.FileState.TheVariants.{MultReaders, WriteShared}
use Rattle.sizes.specs.Sizes.{nobody}
use Rattle.decision.specs.Lists.{count, stored, first_below}
use Rattle.records.specs.Version.{version_of}
use Rattle.records.specs.Record.{not_open}
use Rattle.decision.specs.State.{state_of}
use Rattle.decision.specs.Permission.{permission_at_grant}
use Rattle.protocol.specs.Copy.{keeps_copy}
use Rattle.service.specs.declared.service.Service.{Service}
use Rattle.file.specs.FileStep.{file_step}
use Rattle.access.specs.BlockStep.{block_step}
use Rattle.table.specs.TableStep.{table_step}
use Rattle.service.specs.Step.{moved, step_of}
use Rattle.service.specs.Space.{spaced, any_below, sum_below}
use Rattle.service.specs.Fresh.{fresh}
use Rattle.service.proofs.Making.{entry, with_file}
use Rattle.service.proofs.Run.{fresh_default, OR, OW, CW, RD, WR, AN, XX, EN, grant}
use Rattle.service.proofs.Run.{replies, after, answer_after, times, recovered, state_at, server_record}

-- a service whose file 0 is at version 4,294,967,294
abbrev near_last : Service
near_last = with_file (entry 4294967294 not_open not_open nobody)

-- the listing of document 01
abbrev pub listing : List Step
listing = OW 0 3 ∷ WR 0 3 0 77 ∷ CW 0 3 ∷ OR 1 3 ∷ RD 1 3 0 ∷ AN 0 3 ∷ RD 1 3 0 ∷ OW 2 3 ∷ []

-- an invalidation that a crash breaks off
abbrev two_readers : List Step
two_readers = OR 1 0 ∷ OR 2 0 ∷ []

abbrev broken_off : Service
broken_off = after fresh_default (two_readers ++ (OW 3 0 ∷ AN 1 0 ∷ XX ∷ recovered))

pub record Edges : Type 0 where
  -- "Station 7 runs, 8 gets 2."
  pub last_client : answer_after fresh_default [] (OR 7 0) ≡ Granted (grant 1 0)
  pub no_client : answer_after fresh_default [] (OR 8 0) ≡ Refused 2
  -- "File 32 gets 3."
  pub no_file : answer_after fresh_default [] (OR 0 32) ≡ Refused 3
  -- "Block 4 gets 4."
  pub no_block : answer_after fresh_default [] (RD 0 0 4) ≡ Refused 4
  -- "The 256th read open by one station gets 12."
  pub full_count : answer_after fresh_default (times 255 (OR 0 0)) (OR 0 0) ≡ Refused 12
  pub last_count : answer_after fresh_default (times 254 (OR 0 0)) (OR 0 0) ≡ Granted (grant 1 0)
  -- "A copy labelled 5 meets latest 6: kept for write, dropped for read."
  pub previous_for_write : keeps_copy Write (version_of 5) (version_of 6) ≡ true
  pub previous_for_read : keeps_copy Read (version_of 5) (version_of 6) ≡ false
  -- "Version 4,294,967,294 opens for write once more, then 14."
  pub once_more : replies near_last (OW 0 0 ∷ OW 0 0 ∷ []) ≡ Granted (grant 4294967295 4294967294) ∷ Refused 14 ∷ []
  -- "A reply with no call gets 10."
  pub no_call : answer_after fresh_default [] (AN 0 0) ≡ Refused 10
  -- "EN on a fresh service gets 6."
  pub no_recovery : answer_after fresh_default [] EN ≡ Refused 6
  -- "After the listing above, XX then AN 1 3 gets 5."
  pub lost_call : answer_after fresh_default (listing ++ (XX ∷ [])) (AN 1 3) ≡ Refused 5
  -- "MULT_READERS of 1 and 2, OW 3 calls both; 1 replies, crash, eight reports, end: WRITE_SHARED, 1 without
  -- permission, 2 with it."
  pub readers : state_at (after fresh_default two_readers) 0 ≡ MultReaders
  pub both_called : (step_of (after fresh_default two_readers) (OW 3 0)).calls ≡ 0 ∷ 2 ∷ 2 ∷ 0 ∷ 0 ∷ 0 ∷ 0 ∷ 0 ∷ []
  pub state_after : state_at broken_off 0 ≡ WriteShared
  pub first_after : server_record broken_off 1 0 ≡ record { readers = 1; writers = 0; caching = false }
  pub second_after : server_record broken_off 2 0 ≡ record { readers = 1; writers = 0; caching = true }

pub edges : Edges
unfolding fresh step_of moved spaced any_below sum_below file_step block_step table_step first_below state_of permission_at_grant count stored
edges =
    record {
      last_client = refl;
      no_client = refl;
      no_file = refl;
      no_block = refl;
      full_count = refl;
      last_count = refl;
      previous_for_write = refl;
      previous_for_read = refl;
      once_more = refl;
      no_call = refl;
      no_recovery = refl;
      lost_call = refl;
      readers = refl;
      both_called = refl;
      state_after = refl;
      first_after = refl;
      second_after = refl;
    }

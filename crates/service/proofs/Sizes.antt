-- The sizes as settings (document 02, Wish 7), from the definitions by evaluation: services of chosen sizes, hand-made
-- sizes out of range, and what lies past the sizes. Assumes nothing.
use Prim.Native.Nat.{ℕ}
use mathlib.Core.Path.{◌≡◌, refl}
use mathlib.Core.Bool.{true, false}
use mathlib.Core.List.{List, [], ◌∷◌}
use lib.ListN.{replicate}
use Rattle.records.specs.declared.record.ClientRecord.{ClientRecord}
use Rattle.records.specs.declared.record.Mode.{Mode}
use Rattle.records.specs.declared.record.Mode.TheVariants.{Read, Write}
use Rattle.protocol.specs.declared.entry.Entry.{Entry}
use Rattle.protocol.specs.declared.reply.Reply.TheVariants.{Granted, Waiting, Value, Refused, AnsweredGrant, Done}
use Rattle.protocol.specs.declared.step.Step.{Step}
use Rattle.decision.specs.declared.state.FileState.TheVariants.{Closed}
use Rattle.sizes.specs.Sizes.{max_clients, max_places, nobody}
use Rattle.decision.specs.Lists.{count, stored, first_below}
use Rattle.records.specs.Version.{version_of}
use Rattle.records.specs.Record.{not_open}
use Rattle.decision.specs.State.{state_of}
use Rattle.decision.specs.Permission.{permission_at_grant}
use Rattle.file.specs.FileStep.{file_step}
use Rattle.access.specs.BlockStep.{block_step}
use Rattle.table.specs.TableStep.{table_step}
use Rattle.service.specs.declared.service.Service.{Service}
use Rattle.service.specs.Contents.{table_in, entry_at, block_at}
use Rattle.service.specs.Step.{moved, step_of}
use Rattle.service.specs.Space.{spaced, any_below, sum_below}
use Rattle.service.specs.Fresh.{fresh}
use Rattle.service.specs.Demand3.{table_of}
use Rattle.service.proofs.Run.{OR, OW, CW, RD, WR, AN, XX, RP, EN, grant, grant_uncached}
use Rattle.service.proofs.Run.{replies, after, answer_after, state_at, server_record}
use Rattle.service.proofs.Making.{reading, writing, side, entry, kinds, waiting}
use Rattle.service.proofs.Making.{with_entry, with_side, with_copy_of, copy_of, in_recovery}

-- the fresh service of so many clients, files and blocks
abbrev fresh_of : ℕ → ℕ → ℕ → Service
fresh_of clients files blocks = fresh (record { clients = clients; files = files; blocks = blocks; store = max_places })

abbrev three : Service
three = fresh_of 3 3 3

-- client 0 has written file 0 and closed it, client 1 reads file 1, and client 2 writes file 2
abbrev opened : Service
opened = after three (OW 0 0 ∷ WR 0 0 0 5 ∷ CW 0 0 ∷ OR 1 1 ∷ OW 2 2 ∷ WR 2 2 2 9 ∷ [])

-- a recovery, with an end that comes too early
abbrev recovery : List Step
recovery = XX ∷ RP 0 ∷ RP 1 ∷ EN ∷ RP 2 ∷ EN ∷ []

pub record Chosen : Type 0 where
  -- "Refusals 2, 3 and 4 .. follow the settings"
  pub no_client : answer_after three [] (OR 3 0) ≡ Refused 2
  pub no_file : answer_after three [] (OR 2 3) ≡ Refused 3
  pub no_block : answer_after three (OR 2 2 ∷ []) (RD 2 2 3) ≡ Refused 4
  pub no_reporter : answer_after three (XX ∷ []) (RP 3) ≡ Refused 2
  -- the last block of the last file at the last client is there
  pub last_block : replies three (OW 2 2 ∷ WR 2 2 2 9 ∷ RD 2 2 2 ∷ []) ≡ Granted (grant 2 1) ∷ Done ∷ Value 9 ∷ []
  -- "Stations 1 to 8, files 1 to 64 and blocks 1 to 8": the ends of the ranges
  pub smallest :
      replies (fresh_of 1 1 1) (OR 0 0 ∷ RD 0 0 0 ∷ OR 1 0 ∷ OR 0 1 ∷ RD 0 0 1 ∷ [])
      ≡ Granted (grant 1 0) ∷ Value 0 ∷ Refused 2 ∷ Refused 3 ∷ Refused 4 ∷ []
  pub largest :
      replies (fresh_of 8 64 8) (OR 7 63 ∷ RD 7 63 7 ∷ OR 8 63 ∷ OR 7 64 ∷ RD 7 63 8 ∷ [])
      ≡ Granted (grant 1 0) ∷ Value 0 ∷ Refused 2 ∷ Refused 3 ∷ Refused 4 ∷ []
  -- "the eight reports .. follow the settings": with two an end gets 8, after the third it is accepted
  pub reports : replies opened recovery ≡ Done ∷ Done ∷ Done ∷ Refused 8 ∷ Done ∷ Done ∷ []
  -- the crash takes the table, and the end gives it back
  pub writer_lost : server_record (after opened (XX ∷ [])) 2 2 ≡ not_open
  pub restored : table_of (after opened recovery) ≡ table_of opened
  -- the readers then get the latest writes, which the callbacks bring
  pub last_writer_called : (step_of (after opened recovery) (OR 1 0)).calls ≡ kinds 1 0
  pub latest :
      replies (after opened recovery) (OR 1 0 ∷ AN 0 0 ∷ RD 1 0 0 ∷ OR 1 2 ∷ AN 2 2 ∷ RD 1 2 2 ∷ [])
      ≡ Waiting
      ∷ AnsweredGrant 1 1 (grant 2 1)
      ∷ Value 5
      ∷ Waiting
      ∷ AnsweredGrant 1 1 (grant_uncached 2 1)
      ∷ Value 9
      ∷ []

pub chosen : Chosen
unfolding fresh step_of moved spaced any_below sum_below file_step block_step table_step first_below state_of permission_at_grant count stored
chosen =
    record {
      no_client = refl;
      no_file = refl;
      no_block = refl;
      no_reporter = refl;
      last_block = refl;
      smallest = refl;
      largest = refl;
      reports = refl;
      writer_lost = refl;
      restored = refl;
      last_writer_called = refl;
      latest = refl;
    }

pub record OutOfRange : Type 0 where
  -- "hand-made ones out of range: each as not given": 8, 32 or 4 holds in its place, and the other two as they are
  pub no_clients :
      replies (fresh_of 0 3 3) (OR 7 2 ∷ OR 8 2 ∷ OR 7 3 ∷ RD 7 2 3 ∷ [])
      ≡ Granted (grant 1 0) ∷ Refused 2 ∷ Refused 3 ∷ Refused 4 ∷ []
  pub many_files :
      replies (fresh_of 3 65 3) (OR 2 31 ∷ OR 2 32 ∷ OR 3 31 ∷ RD 2 31 3 ∷ [])
      ≡ Granted (grant 1 0) ∷ Refused 3 ∷ Refused 2 ∷ Refused 4 ∷ []
  pub many_blocks :
      replies (fresh_of 3 3 9) (OR 2 2 ∷ RD 2 2 3 ∷ RD 2 2 4 ∷ OR 3 2 ∷ OR 2 3 ∷ [])
      ≡ Granted (grant 1 0) ∷ Value 0 ∷ Refused 4 ∷ Refused 2 ∷ Refused 3 ∷ []
  -- the other ends, all at once
  pub none_given :
      replies (fresh_of 9 0 0) (OR 7 31 ∷ RD 7 31 3 ∷ OR 8 31 ∷ OR 7 32 ∷ RD 7 31 4 ∷ [])
      ≡ Granted (grant 1 0) ∷ Value 0 ∷ Refused 2 ∷ Refused 3 ∷ Refused 4 ∷ []

pub out_of_range : OutOfRange
unfolding fresh step_of moved spaced any_below sum_below file_step block_step table_step first_below state_of permission_at_grant count stored
out_of_range = record { no_clients = refl; many_files = refl; many_blocks = refl; none_given = refl }

-- Two clients, one file, one block. The entry of file 0 has the record of client 0, a last writer and a waiting open as
-- given, and past the clients a record of client 5 that writes and a callback to it; past the files there is garbage.
abbrev with_client5 : ClientRecord → ℕ → ℕ → Mode → Entry
with_client5 first last waiter mode =
    record {
      records = first ∷ not_open ∷ not_open ∷ not_open ∷ not_open ∷ writing ∷ not_open ∷ not_open ∷ [];
      version = version_of 1;
      last = last;
      waiter = waiter;
      mode = mode;
      calls = 0 ∷ 0 ∷ 0 ∷ 0 ∷ 0 ∷ 1 ∷ 0 ∷ 0 ∷ [];
    }

abbrev garbage : Entry
garbage =
    record {
      records = replicate max_clients writing;
      version = version_of 7;
      last = 1;
      waiter = 0;
      mode = Write;
      calls = replicate max_clients 3;
    }

abbrev small : Service
small = with_entry 1 garbage (with_entry 0 (with_client5 not_open 5 5 Write) (fresh_of 2 1 1))

-- client 0 writes and is called to write back and drop its copy, which past the blocks is dirty too
abbrev called : Service
called =
    with_copy_of 1 7 true true
    (with_copy_of 0 6 true true
    (with_side 0 (side writing false 1)
    (with_entry 0 (waiting (entry 1 writing not_open nobody) 1 Read (kinds 3 0)) (fresh_of 2 1 1))))

-- "what lies past them isn't there": it is neither looked at nor changed
pub record Past : Type 0 where
  -- "the station fields read as none .. follow the settings": last writer 5 is none
  pub state : state_at small 0 ≡ Closed
  -- the table is one row of two records
  pub row : table_of small ≡ record { records = not_open ∷ not_open ∷ []; version = version_of 1; last = 5 } ∷ []
  -- waiting client 5 is none; client 5 is not called, and does not shut permission out
  pub read_open : answer_after small [] (OR 0 0) ≡ Granted (grant 1 0)
  pub write_open : answer_after small [] (OW 0 0) ≡ Granted (grant 2 1)
  pub no_answer : answer_after small [] (AN 5 0) ≡ Refused 2
  -- a grant and a crash leave its record and its callback, and a crash and its recovery the entry past the files
  pub granted : entry_at (after small (OR 0 0 ∷ [])) 0 ≡ with_client5 reading 5 nobody Read
  pub crashed : entry_at (after small (OR 0 0 ∷ XX ∷ [])) 0 ≡ with_client5 not_open nobody nobody Read
  pub crashed_past : entry_at (after small (XX ∷ [])) 1 ≡ garbage
  pub recovered_past : entry_at (after small (XX ∷ RP 0 ∷ RP 1 ∷ EN ∷ [])) 1 ≡ garbage
  -- a crash takes the reports of two clients, and two reports end the recovery
  pub reports : (table_in (after (in_recovery true true small) (XX ∷ []))).reported ≡ false ∷ false ∷ replicate 6 true
  pub ended : replies small (XX ∷ RP 0 ∷ EN ∷ RP 1 ∷ EN ∷ []) ≡ Done ∷ Done ∷ Refused 8 ∷ Done ∷ Done ∷ []
  -- an answer sends and drops one block, and leaves the next as it was at both sides
  pub sent : block_at (after called (AN 0 0 ∷ [])) 0 0 ≡ 6
  pub dropped : copy_of (after called (AN 0 0 ∷ [])) 0 ≡ (0, false, false)
  pub not_sent : block_at (after called (AN 0 0 ∷ [])) 0 1 ≡ 0
  pub not_dropped : copy_of (after called (AN 0 0 ∷ [])) 1 ≡ (7, true, true)

pub past : Past
unfolding fresh step_of moved spaced any_below sum_below file_step block_step table_step first_below state_of permission_at_grant count stored
past =
    record {
      state = refl;
      row = refl;
      read_open = refl;
      write_open = refl;
      no_answer = refl;
      granted = refl;
      crashed = refl;
      crashed_past = refl;
      recovered_past = refl;
      reports = refl;
      ended = refl;
      sent = refl;
      dropped = refl;
      not_sent = refl;
      not_dropped = refl;
    }

-- Hand-made states, which no list of steps leads to: what the definitions give for each row of docs/DECISIONS.md,
-- "Hand-made states", by evaluation on whole services. The rows are named in quotes; the summary's are in crate
-- stepfile, and those of the sizes in Sizes.antt. Assumes nothing.
use Prim.Native.Nat.{ℕ}
use mathlib.Core.Path.{◌≡◌, refl}
use mathlib.Core.Bool.{Bool, true, false}
use mathlib.Core.List.{[], ◌∷◌}
use lib.ListN.{replicate}
use Rattle.records.specs.declared.record.Mode.TheVariants.{Read, Write}
use Rattle.protocol.specs.declared.reply.Grant.{Grant}
use Rattle.protocol.specs.declared.reply.Reply.TheVariants.{Granted, Refused, Answered, AnsweredGrant, Done}
use Rattle.decision.specs.declared.state.FileState.TheVariants.{Closed, OneReader, MultReaders}
use Rattle.sizes.specs.Sizes.{max_clients, nobody}
use Rattle.decision.specs.Lists.{count, stored, first_below}
use Rattle.records.specs.Version.{version_of}
use Rattle.records.specs.Record.{not_open}
use Rattle.decision.specs.State.{state_of}
use Rattle.decision.specs.Permission.{permission_at_grant}
use Rattle.protocol.specs.Client.{granted_client, keeps_blocks}
use Rattle.service.specs.declared.service.Service.{Service}
use Rattle.service.specs.Contents.{entry_at}
use Rattle.file.specs.FileStep.{file_step}
use Rattle.access.specs.BlockStep.{block_step}
use Rattle.table.specs.TableStep.{table_step}
use Rattle.service.specs.Step.{moved, step_of}
use Rattle.service.specs.Space.{spaced, any_below, sum_below}
use Rattle.service.specs.Fresh.{fresh}
use Rattle.service.proofs.Run.{fresh_default, OR, OW, CR, AN, XX, RP, EN, grant, grant_uncached}
use Rattle.service.proofs.Run.{after, recovered, state_at}
use Rattle.service.proofs.Making.{opens, reading, reading_uncached, writing, side, entry, kinds, waiting}
use Rattle.service.proofs.Making.{with_file, with_side, with_copy, in_recovery}
use Rattle.service.proofs.Making.{reply, entry_after, side_after, copy_after}
pub mod Sides

-- "A stored version of 0", "A client field of 8 or more", "Several clients open with writers, all with permission", "A
-- last writer beside another reader"
abbrev version0 : Service
version0 = with_file (entry 0 not_open not_open nobody)

abbrev last8 : Service
last8 = with_file (entry 1 not_open not_open 8)

abbrev two_writers : Service
two_writers = with_file (entry 1 writing writing nobody)

abbrev last_away : Service
last_away = with_file (entry 1 reading not_open 5)

pub record Fields : Type 0 where
  -- version 0 reads as 1: a read open tells 1 after 0, and leaves the 0 stored
  pub zero_read : reply version0 (OR 0 0) ≡ Granted (grant 1 0)
  pub zero_kept : entry_after version0 (OR 0 0) ≡ entry 0 reading not_open nobody
  -- a write open raises it as it would a 1
  pub zero_write : reply version0 (OW 0 0) ≡ Granted (grant 2 1)
  pub zero_raised : entry_after version0 (OW 0 0) ≡ entry 2 writing not_open nobody
  -- a copy labelled 0 is none, and not one of that version: it is dropped
  pub zero_label : copy_after (with_copy 7 true false version0) (OR 0 0) ≡ (0, false, false)
  -- a last writer of 8 is none: the file is CLOSED, and nobody is called
  pub no_last : state_at last8 0 ≡ Closed
  pub no_last_open : reply last8 (OR 0 0) ≡ Granted (grant 1 0)
  -- the 8 stays stored until a write open or a crash sets it
  pub no_last_kept : entry_after last8 (OR 0 0) ≡ entry 1 reading not_open 8
  pub no_last_set : entry_after last8 (OW 0 0) ≡ entry 2 writing not_open nobody
  pub no_last_lost : entry_after last8 XX ≡ entry 1 not_open not_open nobody
  -- two that write with permission are MULT_READERS: a read open calls nobody, and may not cache beside them
  pub both_write : state_at two_writers 0 ≡ MultReaders
  pub both_write_open : reply two_writers (OR 2 0) ≡ Granted (grant_uncached 1 0)
  -- a reader, and another last writer: ONE_READER, and a write open calls the reader alone
  pub last_beside : state_at last_away 0 ≡ OneReader
  pub last_beside_calls : (step_of last_away (OW 1 0)).calls ≡ kinds 2 0

pub fields : Fields
unfolding fresh step_of moved spaced any_below sum_below file_step block_step table_step first_below state_of permission_at_grant count stored
fields =
    record {
      zero_read = refl;
      zero_kept = refl;
      zero_write = refl;
      zero_raised = refl;
      zero_label = refl;
      no_last = refl;
      no_last_open = refl;
      no_last_kept = refl;
      no_last_set = refl;
      no_last_lost = refl;
      both_write = refl;
      both_write_open = refl;
      last_beside = refl;
      last_beside_calls = refl;
    }

-- "A grant at a limit"
abbrev full_count : Service
full_count =
    with_side 1 (side (opens 255 0 true) false 1)
    (with_file (waiting (entry 1 reading (opens 255 0 true) nobody) 1 Read (kinds 2 0)))

abbrev last_version : Service
last_version = with_file (waiting (entry 4294967295 not_open not_open 0) 1 Write (kinds 3 0))

pub record Limits : Type 0 where
  -- an open that waited is granted at a count of 255, which stays at both sides
  pub full_grant : reply full_count (AN 0 0) ≡ AnsweredGrant 0 1 (grant 1 0)
  pub full_entry : entry_after full_count (AN 0 0) ≡ entry 1 reading_uncached (opens 255 0 true) nobody
  pub full_side : side_after full_count (AN 0 0) 1 ≡ side (opens 255 0 true) false 1
  -- and at the last version, which stays, and the grant tells the one before too
  pub last_grant : reply last_version (AN 0 0) ≡ AnsweredGrant 0 1 (grant 4294967295 4294967294)
  pub last_entry : entry_after last_version (AN 0 0) ≡ entry 4294967295 not_open writing nobody

pub limits : Limits
unfolding fresh step_of moved spaced any_below sum_below file_step block_step table_step first_below state_of permission_at_grant count stored
limits =
    record {
      full_grant = refl;
      full_entry = refl;
      full_side = refl;
      last_grant = refl;
      last_entry = refl;
    }

-- "A wait with nobody left to answer", "A wait whose client reads as none", "After a grant", "The mode of a wait that
-- is not there", "A callback kind outside 1 to 3", "The opener among the called", "Kinds 1 and 3", "Permission at a
-- grant"
abbrev nobody_left : Service
nobody_left = with_file (waiting (entry 1 reading not_open nobody) 1 Write (kinds 0 0))

abbrev no_waiter : Service
no_waiter =
    with_side 0 (side reading false 1) (with_file (waiting (entry 1 reading not_open nobody) 8 Write (kinds 3 3)))

abbrev no_kind : ℕ → Service
no_kind k = with_file (waiting (entry 1 reading reading nobody) 2 Write (kinds k 2))

abbrev opener_called : ℕ → Service
opener_called k =
    with_side 1 (side reading false 1) (with_file (waiting (entry 1 not_open reading nobody) 1 Write (kinds k 2)))

abbrev called_for : ℕ → Service
called_for k = with_file (waiting (entry 1 not_open not_open 5) 1 Read (kinds k 0))

abbrev still_writing : Service
still_writing = with_file (waiting (entry 1 writing not_open nobody) 1 Read (kinds 1 0))

pub record Waits : Type 0 where
  -- nobody left to answer: opens get 9 and answers 10, until a crash takes the wait
  pub left_open : reply nobody_left (OR 2 0) ≡ Refused 9
  pub left_answer : reply nobody_left (AN 0 0) ≡ Refused 10
  pub left_crash : reply (after nobody_left (XX ∷ recovered)) (OR 2 0) ≡ Granted (grant 1 0)
  -- waiting client 8: an answer gets 10, an open no 9, and a close leaves what is stored
  pub none_answer : reply no_waiter (AN 0 0) ≡ Refused 10
  pub none_open : reply no_waiter (OR 1 0) ≡ Granted (grant 1 0)
  pub none_close : entry_after no_waiter (CR 0 0) ≡ waiting (entry 1 not_open not_open nobody) 8 Write (kinds 3 3)
  -- after a grant and after a crash nobody waits, for read, and nobody is called, whatever stood there
  pub none_granted : entry_after no_waiter (OR 1 0) ≡ entry 1 reading reading nobody
  pub none_crashed : entry_after no_waiter XX ≡ entry 1 not_open not_open nobody
  -- a kind above 3 is no callback: its answer gets 10, and no grant waits for it
  pub kind_answer : reply (no_kind 4) (AN 0 0) ≡ Refused 10
  pub kind_grant : reply (no_kind 4) (AN 1 0) ≡ AnsweredGrant 0 2 (grant_uncached 2 1)
  pub kind_largest : reply (no_kind 255) (AN 1 0) ≡ AnsweredGrant 0 2 (grant_uncached 2 1)
  -- an opener that is called answers like any other: it loses its permission, and is granted if it was the last
  pub opener_first : reply (opener_called 2) (AN 1 0) ≡ Answered 0
  pub opener_last : reply (opener_called 0) (AN 1 0) ≡ AnsweredGrant 0 1 (grant_uncached 2 1)
  -- client 0 answers, the last writer is 5: kinds 1 and 3 clear it, kind 2 leaves it
  pub clears1 : entry_after (called_for 1) (AN 0 0) ≡ entry 1 not_open reading nobody
  pub clears3 : entry_after (called_for 3) (AN 0 0) ≡ entry 1 not_open reading nobody
  pub leaves2 : entry_after (called_for 2) (AN 0 0) ≡ entry 1 not_open reading 5
  -- permission is judged at the grant: a writer that was called to write back alone still shuts it out
  pub judged : reply still_writing (AN 0 0) ≡ AnsweredGrant 0 1 (grant_uncached 1 0)

pub waits : Waits
unfolding fresh step_of moved spaced any_below sum_below file_step block_step table_step first_below state_of permission_at_grant count stored
waits =
    record {
      left_open = refl;
      left_answer = refl;
      left_crash = refl;
      none_answer = refl;
      none_open = refl;
      none_close = refl;
      none_granted = refl;
      none_crashed = refl;
      kind_answer = refl;
      kind_grant = refl;
      kind_largest = refl;
      opener_first = refl;
      opener_last = refl;
      clears1 = refl;
      clears3 = refl;
      leaves2 = refl;
      judged = refl;
    }

-- "A wait stored while recovering", "Reports at the end of recovery", "Reports of a running server", "Two clients with
-- the last-writer flag"
abbrev wait_stored : Service
wait_stored = in_recovery true false (with_file (waiting (entry 1 reading not_open nobody) 1 Write (kinds 2 0)))

abbrev all_reported : Bool → Service
all_reported recovering = in_recovery recovering true fresh_default

abbrev two_flags : Service
two_flags = with_side 0 (side not_open true 1) (with_side 1 (side not_open true 1) (in_recovery true false fresh_default))

pub record Recoveries : Type 0 where
  -- 5 comes before 9 and 10
  pub stored_open : reply wait_stored (OR 2 0) ≡ Refused 5
  pub stored_answer : reply wait_stored (AN 2 0) ≡ Refused 5
  -- the end leaves the wait and its callbacks: opens then get 9, and the last answer grants it
  pub stored_end : reply (after wait_stored recovered) (OR 2 0) ≡ Refused 9
  pub stored_grant : reply (after wait_stored recovered) (AN 0 0) ≡ AnsweredGrant 0 1 (grant 2 1)
  -- an end clears the reports
  pub cleared : (step_of (all_reported true) EN).service.server.table.reported ≡ replicate max_clients false
  -- a running server looks at no report: a report and an end get 6, and a crash takes the reports away
  pub running_report : reply (all_reported false) (RP 0) ≡ Refused 6
  pub running_end : reply (all_reported false) EN ≡ Refused 6
  pub running_crash : reply (after (all_reported false) (XX ∷ [])) (RP 0) ≡ Done
  -- of two that claim the flag the second is refused, and what was accepted stays
  pub second_flag : reply (after two_flags (RP 0 ∷ [])) (RP 1) ≡ Refused 22
  pub first_flag : reply (after two_flags (RP 1 ∷ [])) (RP 0) ≡ Refused 22
  pub first_stays : (entry_at (after two_flags (RP 0 ∷ RP 1 ∷ [])) 0).last ≡ 0

pub recoveries : Recoveries
unfolding fresh step_of moved spaced any_below sum_below file_step block_step table_step first_below state_of permission_at_grant count stored
recoveries =
    record {
      stored_open = refl;
      stored_answer = refl;
      stored_end = refl;
      stored_grant = refl;
      cleared = refl;
      running_report = refl;
      running_end = refl;
      running_crash = refl;
      second_flag = refl;
      first_flag = refl;
      first_stays = refl;
    }

-- "A hand-made grant": latest and previous version, and permission
abbrev made_grant : ℕ → ℕ → Bool → Grant
made_grant latest previous p = record { latest = version_of latest; previous = version_of previous; caching = p }

pub record Grants : Type 0 where
  -- the copy check goes by the latest version less 1, whatever previous version the grant tells
  pub latest_less1 : keeps_blocks Write (made_grant 6 2 true) (side not_open false 5) ≡ true
  pub told_previous : keeps_blocks Write (made_grant 6 2 true) (side not_open false 2) ≡ false
  -- with permission the label becomes the latest; without it the copy goes and the label is 0
  pub labelled : granted_client Read (made_grant 6 2 true) (side reading true 5) ≡ side (opens 2 0 true) true 6
  pub unlabelled : granted_client Read (made_grant 6 5 false) (side reading true 6) ≡ side (opens 2 0 false) true 0
  pub unkept : keeps_blocks Read (made_grant 6 5 false) (side reading true 6) ≡ false
  -- a count of 255 stays
  pub full_side :
      granted_client Read (made_grant 6 5 true) (side (opens 255 0 true) false 6) ≡ side (opens 255 0 true) false 6

pub grants : Grants
grants =
    record {
      latest_less1 = refl;
      told_previous = refl;
      labelled = refl;
      unlabelled = refl;
      unkept = refl;
      full_side = refl;
    }

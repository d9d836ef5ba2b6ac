-- The readings of open points that docs/DECISIONS.md lists, from the definitions by evaluation. Assumes nothing.
use mathlib.Core.Path.{◌≡◌, refl}
use mathlib.Core.List.{List, [], ◌∷◌, ◌++◌}
use Rattle.protocol.specs.declared.reply.Reply.TheVariants.{Granted, Waiting, Value, Refused, AnsweredGrant, Done}
use Rattle.protocol.specs.declared.step.Step.{Step}
use Rattle.decision.specs.declared.state.FileState.TheVariants.{Closed, OneReader, WriteShared}
use Rattle.decision.specs.Lists.{count, stored, first_below}
use Rattle.decision.specs.State.{state_of}
use Rattle.decision.specs.Permission.{permission_at_grant}
use Rattle.service.specs.Contents.{entry_at}
use Rattle.file.specs.FileStep.{file_step}
use Rattle.access.specs.BlockStep.{block_step}
use Rattle.table.specs.TableStep.{table_step}
use Rattle.service.specs.Step.{moved, step_of}
use Rattle.service.specs.Space.{spaced, any_below, sum_below}
use Rattle.service.specs.Fresh.{fresh}
use Rattle.service.proofs.Run.{fresh_default, OR, OW, CR, CW, RD, WR, FL, AN, XX, RP, grant, grant_uncached}
use Rattle.service.proofs.Run.{replies, after, answer_after, recovered, state_at}

-- an invalidation that a crash breaks off: clients 1 and 2 read, 3 opens for write, 1 has answered
abbrev broken_off : List Step
broken_off = OR 1 0 ∷ OR 2 0 ∷ OW 3 0 ∷ AN 1 0 ∷ XX ∷ recovered

pub record Readings : Type 0 where
  -- a step names any number
  pub any_number : answer_after fresh_default [] (OR 18446744073709551615 0) ≡ Refused 2
  -- in recovery a read or a write at a client that is not open is refused with 5, never 11
  pub read_in_recovery : answer_after fresh_default (XX ∷ []) (RD 0 0 0) ≡ Refused 5
  pub write_in_recovery : answer_after fresh_default (XX ∷ []) (WR 0 0 0 1) ≡ Refused 5
  -- the table as it stands, in recovery and with half of the answers in
  pub table_in_recovery : state_at (after fresh_default (OW 0 0 ∷ XX ∷ [])) 0 ≡ Closed
  pub half_answered : state_at (after fresh_default (OR 1 0 ∷ OR 2 0 ∷ OW 3 0 ∷ AN 1 0 ∷ [])) 0 ≡ WriteShared
  -- 9 is for anyone, the waiting opener and an open that would keep its permission included, and comes before 11 at a
  -- close
  pub waiting_opener : answer_after fresh_default (OR 0 0 ∷ OW 1 0 ∷ []) (OW 1 0) ≡ Refused 9
  pub kept_open : answer_after fresh_default (OR 0 0 ∷ OW 1 0 ∷ []) (OR 0 0) ≡ Refused 9
  pub close_waits : answer_after fresh_default (OR 0 0 ∷ OW 1 0 ∷ []) (CR 2 0) ≡ Refused 9
  -- a repeated write open raises the version
  pub repeated : replies fresh_default (OW 0 0 ∷ OW 0 0 ∷ []) ≡ Granted (grant 2 1) ∷ Granted (grant 3 2) ∷ []
  -- a write open raises the writers alone, and allows reads
  pub writers_alone : answer_after fresh_default (OW 0 0 ∷ []) (CR 0 0) ≡ Refused 11
  pub reads_too : answer_after fresh_default (OW 0 0 ∷ []) (RD 0 0 0) ≡ Value 0
  -- the version before 1 is 0
  pub before_first : answer_after fresh_default [] (OR 0 0) ≡ Granted (grant 1 0)
  -- a flush is allowed while an open waits, and leaves the callback due, which then brings no block
  pub flush_while_waiting :
      replies fresh_default (OW 0 0 ∷ WR 0 0 0 5 ∷ CW 0 0 ∷ OR 1 0 ∷ FL 0 0 0 ∷ AN 0 0 ∷ RD 1 0 0 ∷ [])
      ≡ Granted (grant 2 1)
      ∷ Done
      ∷ Done
      ∷ Waiting
      ∷ Done
      ∷ AnsweredGrant 0 1 (grant 2 1)
      ∷ Value 5
      ∷ []
  -- a called client goes on reading and writing its copy until it answers
  pub until_answer :
      replies fresh_default (OW 0 0 ∷ OR 1 0 ∷ WR 0 0 0 6 ∷ RD 0 0 0 ∷ AN 0 0 ∷ RD 1 0 0 ∷ [])
      ≡ Granted (grant 2 1)
      ∷ Waiting
      ∷ Done
      ∷ Value 6
      ∷ AnsweredGrant 1 1 (grant_uncached 2 1)
      ∷ Value 6
      ∷ []
  -- a report without the flag leaves the last writer as it is
  pub no_flag : (entry_at (after fresh_default (OW 0 0 ∷ WR 0 0 0 5 ∷ CW 0 0 ∷ XX ∷ RP 0 ∷ RP 1 ∷ [])) 0).last ≡ 0
  -- a broken-off invalidation
  pub broken_write : answer_after fresh_default broken_off (OW 2 0) ≡ Granted (grant_uncached 2 1)
  pub broken_read : answer_after fresh_default broken_off (OR 2 0) ≡ Granted (grant 1 0)
  pub broken_other : answer_after fresh_default broken_off (OR 1 0) ≡ Granted (grant_uncached 1 0)
  pub broken_close : state_at (after fresh_default (broken_off ++ (CR 1 0 ∷ []))) 0 ≡ OneReader
  -- a second crash takes the reports back
  pub second_crash :
      replies fresh_default (OR 0 0 ∷ RD 0 0 0 ∷ XX ∷ RP 0 ∷ RD 0 0 0 ∷ XX ∷ RD 0 0 0 ∷ [])
      ≡ Granted (grant 1 0)
      ∷ Value 0
      ∷ Done
      ∷ Done
      ∷ Refused 5
      ∷ Done
      ∷ Value 0
      ∷ []

pub readings : Readings
unfolding fresh step_of moved spaced any_below sum_below file_step block_step table_step first_below state_of permission_at_grant count stored
readings =
    record {
      any_number = refl;
      read_in_recovery = refl;
      write_in_recovery = refl;
      table_in_recovery = refl;
      half_answered = refl;
      waiting_opener = refl;
      kept_open = refl;
      close_waits = refl;
      repeated = refl;
      writers_alone = refl;
      reads_too = refl;
      before_first = refl;
      flush_while_waiting = refl;
      until_answer = refl;
      no_flag = refl;
      broken_write = refl;
      broken_read = refl;
      broken_other = refl;
      broken_close = refl;
      second_crash = refl;
    }

-- What a close and a flush leave behind (document 02, Wish 4), by evaluation: the moves of Table 4-1 from ONE_WRITER, and
-- flushes. Assumes nothing.
use Prim.Native.Nat.{ℕ}
use mathlib.Core.Path.{◌≡◌, refl}
use mathlib.Core.Bool.{true, false}
use mathlib.Core.List.{List, [], ◌∷◌, ◌++◌}
use Rattle.decision.specs.declared.state.FileState.{FileState}
use Rattle.decision.specs.declared.state.FileState.TheVariants.{Closed, ClosedDirty, OneReader, OneReaderDirty, OneWriter}
use Rattle.protocol.specs.declared.reply.Reply.{Reply}
use Rattle.protocol.specs.declared.reply.Reply.TheVariants.{Granted, Value, Refused, AnsweredGrant}
use Rattle.protocol.specs.declared.step.Step.{Step}
use Rattle.sizes.specs.Sizes.{nobody}
use Rattle.decision.specs.Lists.{count, stored, first_below}
use Rattle.decision.specs.State.{state_of}
use Rattle.decision.specs.Permission.{permission_at_grant}
use Rattle.file.specs.FileStep.{file_step}
use Rattle.access.specs.BlockStep.{block_step}
use Rattle.table.specs.TableStep.{table_step}
use Rattle.service.specs.Contents.{entry_at, client_at}
use Rattle.service.specs.Step.{moved, step_of}
use Rattle.service.specs.Space.{spaced, any_below, sum_below}
use Rattle.service.specs.Fresh.{fresh}
use Rattle.service.proofs.Run.{fresh_default, OR, OW, CW, RD, WR, FL, AN, XX, grant, after, answer_after, recovered, state_at}

-- the state of file 0 after the steps, its last writer, and the reply to one step more
abbrev state : List Step → FileState
state steps = state_at (after fresh_default steps) 0

abbrev last : List Step → ℕ
last steps = (entry_at (after fresh_default steps) 0).last

abbrev reply : List Step → Step → Reply
reply steps x = answer_after fresh_default steps x

-- client 0 opens for write and closes, having written one block, two blocks, or none
abbrev clean : List Step
clean = OW 0 0 ∷ CW 0 0 ∷ []

abbrev one : List Step
one = OW 0 0 ∷ WR 0 0 0 5 ∷ CW 0 0 ∷ []

abbrev two : List Step
two = OW 0 0 ∷ WR 0 0 0 5 ∷ WR 0 0 1 6 ∷ CW 0 0 ∷ []

-- it reads too, and goes on reading
abbrev reads : List Step → List Step
reads steps = OR 0 0 ∷ OW 0 0 ∷ (steps ++ (CW 0 0 ∷ []))

-- the last writer is called, and flushes before it answers
abbrev called : List Step
called = one ++ (OR 1 0 ∷ FL 0 0 0 ∷ [])

pub record Behind : Type 0 where
  -- "from ONE_WRITER to CLOSED or ONE_READER": a close with nothing dirty
  pub writes : state (OW 0 0 ∷ []) ≡ OneWriter
  pub to_closed : state clean ≡ Closed
  pub to_one_reader : state (reads []) ≡ OneReader
  pub flushed_before : state (OW 0 0 ∷ WR 0 0 0 5 ∷ FL 0 0 0 ∷ CW 0 0 ∷ []) ≡ Closed
  -- the next reader does not wait for a callback that brings no block
  pub no_callback : reply clean (OR 1 0) ≡ Granted (grant 2 1)
  -- a close with a dirty block, an old one too
  pub to_closed_dirty : state one ≡ ClosedDirty
  pub to_one_reader_dirty : state (reads (WR 0 0 0 5 ∷ [])) ≡ OneReaderDirty
  pub old_block : last (one ++ clean) ≡ 0
  -- a close of one of two write opens leaves nothing yet
  pub one_of_two : state (OW 0 0 ∷ OW 0 0 ∷ WR 0 0 0 5 ∷ CW 0 0 ∷ []) ≡ OneWriter
  -- the flush of the last dirty block
  pub flushed : state (one ++ (FL 0 0 0 ∷ [])) ≡ Closed
  pub flushed_flag : (client_at (after fresh_default (one ++ (FL 0 0 0 ∷ []))) 0 0).marked ≡ false
  pub flushed_reader : state (reads (WR 0 0 0 5 ∷ []) ++ (FL 0 0 0 ∷ [])) ≡ OneReader
  -- and of one of two
  pub first_of_two : last (two ++ (FL 0 0 1 ∷ [])) ≡ 0
  pub first_flag : (client_at (after fresh_default (two ++ (FL 0 0 1 ∷ []))) 0 0).marked ≡ true
  pub both_of_two : last (two ++ (FL 0 0 1 ∷ FL 0 0 0 ∷ [])) ≡ nobody
  -- a flush by a client that has writers changes no state
  pub while_writing : state (OW 0 0 ∷ WR 0 0 0 5 ∷ FL 0 0 0 ∷ []) ≡ OneWriter
  -- "A call already out is still replied to": also when its reason is gone
  pub still_waits : reply called (OR 2 0) ≡ Refused 9
  pub answered : reply called (AN 0 0) ≡ AnsweredGrant 0 1 (grant 2 1)
  pub value : reply (called ++ (AN 0 0 ∷ [])) (RD 1 0 0) ≡ Value 5
  -- a crash between the flush and the answer: the recovered table has no last writer
  pub crashed : last (called ++ (XX ∷ recovered)) ≡ nobody
  pub recovered_open : reply (called ++ (XX ∷ recovered)) (OR 1 0) ≡ Granted (grant 2 1)

pub behind : Behind
unfolding fresh step_of moved spaced any_below sum_below file_step block_step table_step first_below state_of permission_at_grant count stored
behind =
    record {
      writes = refl;
      to_closed = refl;
      to_one_reader = refl;
      flushed_before = refl;
      no_callback = refl;
      to_closed_dirty = refl;
      to_one_reader_dirty = refl;
      old_block = refl;
      one_of_two = refl;
      flushed = refl;
      flushed_flag = refl;
      flushed_reader = refl;
      first_of_two = refl;
      first_flag = refl;
      both_of_two = refl;
      while_writing = refl;
      still_waits = refl;
      answered = refl;
      value = refl;
      crashed = refl;
      recovered_open = refl;
    }

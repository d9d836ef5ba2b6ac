-- Restarts by evaluation: the readings of Wish 8. Assumes nothing.
use Prim.Native.Nat.{ℕ}
use mathlib.Core.Path.{◌≡◌, refl}
use mathlib.Core.List.{List, [], ◌∷◌, ◌++◌}
use Rattle.decision.specs.Lists.{count, stored, first_below}
use Rattle.decision.specs.State.{state_of}
use Rattle.decision.specs.Permission.{permission_at_grant}
use Rattle.protocol.specs.declared.reply.Reply.{Reply}
use Rattle.protocol.specs.declared.reply.Reply.TheVariants.{Value, Refused, AnsweredGrant, Done}
use Rattle.protocol.specs.declared.step.Step.{Step}
use Rattle.protocol.specs.Book.{latest}
use Rattle.protocol.specs.Reply.{grants_values}
use Rattle.file.specs.FileStep.{file_step, after_forgetting, after_dropping}
use Rattle.access.specs.BlockStep.{block_step}
use Rattle.table.specs.TableStep.{table_step}
use Rattle.service.specs.declared.service.Service.{Service}
use Rattle.service.specs.Demand3.{after, Memory, blank, remembered}
use Rattle.service.specs.NothingBehind.{after_steps}
use Rattle.service.specs.Step.{moved, step_of}
use Rattle.service.specs.Space.{spaced, any_below, sum_below}
use Rattle.service.specs.Fresh.{fresh}
use Rattle.service.specs.Embargo.{forgotten_below, grants_below, dropped_below, all_step}
use Rattle.service.proofs.Run.{fresh_default, OR, OW, RD, WR, FL, AN, XX, RP, BT, grant_uncached}

-- the reference memory after the steps
abbrev pub book_after : Service → Memory → List Step → Memory
book_after s m [] = m
book_after s m (x ∷ xs) = book_after (after s x) (remembered s m x) xs

abbrev pub reply : List Step → Step → Reply
reply xs x = (step_of (after_steps fresh_default xs) x).reply

abbrev calls : List Step → Step → List ℕ
calls xs x = (step_of (after_steps fresh_default xs) x).calls

abbrev pub book_at : List Step → ℕ
book_at xs = latest (book_after fresh_default blank xs 0 0)

abbrev broken_off : List Step
broken_off = OR 1 0 ∷ OR 2 0 ∷ OW 3 0 ∷ AN 1 0 ∷ BT 3 ∷ []

abbrev losing : List Step
losing = OW 0 0 ∷ WR 0 0 0 5 ∷ FL 0 0 0 ∷ WR 0 0 0 6 ∷ []

-- two clients have the file open and write to the server
abbrev shared : List Step
shared = OW 0 0 ∷ OW 1 0 ∷ AN 0 0 ∷ WR 0 0 0 5 ∷ WR 1 0 0 6 ∷ WR 0 0 0 7 ∷ []

-- a client is called, writes on, and answers
abbrev answering : List Step
answering = OW 0 0 ∷ WR 0 0 0 5 ∷ OR 1 0 ∷ WR 0 0 0 6 ∷ AN 0 0 ∷ WR 0 0 0 7 ∷ BT 0 ∷ []

pub record Cases : Type 0 where
  -- "BT tests 2 only": with 8 clients there is no client 8
  pub absent : reply [] (BT 8) ≡ Refused 2
  pub present : reply (XX ∷ []) (BT 7) ≡ Done
  -- "K, then each granted open as after A, by ascending file"
  pub grants :
      grants_values (step_of (after_steps fresh_default (OW 0 0 ∷ OW 0 1 ∷ OR 2 1 ∷ OR 1 0 ∷ [])) (BT 0)).grants
      ≡ 1 ∷ 2 ∷ 1 ∷ 1 ∷ 2 ∷ 2 ∷ 1 ∷ 1 ∷ []
  -- in recovery it stands as a report; a second crash takes it back
  pub reports : reply (XX ∷ BT 0 ∷ []) (RP 0) ≡ Refused 7
  pub again : reply (XX ∷ BT 0 ∷ XX ∷ []) (RP 0) ≡ Done
  -- its own wait goes, with the calls of that open
  pub no_call : reply broken_off (AN 2 0) ≡ Refused 10
  pub later : calls broken_off (OR 4 0) ≡ 0 ∷ 0 ∷ 2 ∷ 0 ∷ 0 ∷ 0 ∷ 0 ∷ 0 ∷ []
  pub stays : reply (broken_off ++ (OR 4 0 ∷ BT 1 ∷ [])) (OR 5 0) ≡ Refused 9
  pub answered : reply (broken_off ++ (OR 4 0 ∷ BT 1 ∷ [])) (AN 2 0) ≡ AnsweredGrant 0 4 (grant_uncached 1 0)
  -- what was not sent is lost, what was is not
  pub before : book_at losing ≡ 6
  pub lost : book_at (losing ++ (BT 0 ∷ [])) ≡ 5
  pub lost_read : reply (losing ++ (BT 0 ∷ OR 1 0 ∷ [])) (RD 1 0 0) ≡ Value 5
  pub sent : book_at (shared ++ (BT 0 ∷ BT 1 ∷ [])) ≡ 7
  pub answer : book_at answering ≡ 7
  pub answer_read : reply answering (RD 1 0 0) ≡ Value 7

pub cases : Cases
unfolding fresh step_of moved spaced any_below sum_below file_step block_step table_step first_below all_step after_forgetting after_dropping forgotten_below grants_below dropped_below grants_values state_of permission_at_grant count stored
cases =
    record {
      absent = refl;
      present = refl;
      grants = refl;
      reports = refl;
      again = refl;
      no_call = refl;
      later = refl;
      stays = refl;
      answered = refl;
      before = refl;
      lost = refl;
      lost_read = refl;
      sent = refl;
      answer = refl;
      answer_read = refl;
    }

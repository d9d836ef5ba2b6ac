-- Embargoes by evaluation: the readings of Wish 9. Assumes nothing.
use mathlib.Core.Path.{◌≡◌, refl}
use mathlib.Core.List.{List, [], ◌∷◌, ◌++◌}
use Rattle.decision.specs.Lists.{count, stored, first_below}
use Rattle.decision.specs.State.{state_of}
use Rattle.decision.specs.Permission.{permission_at_grant}
use Rattle.protocol.specs.declared.reply.Reply.TheVariants.{Granted, Value, Refused, Answered, AnsweredGrant, Done}
use Rattle.protocol.specs.declared.step.Step.{Step}
use Rattle.protocol.specs.Reply.{grants_values}
use Rattle.file.specs.FileStep.{file_step, after_forgetting, after_dropping}
use Rattle.access.specs.BlockStep.{block_step}
use Rattle.table.specs.TableStep.{table_step}
use Rattle.service.specs.NothingBehind.{after_steps}
use Rattle.service.specs.Step.{moved, step_of}
use Rattle.service.specs.Space.{spaced, any_below, sum_below}
use Rattle.service.specs.Fresh.{fresh}
use Rattle.service.specs.Embargo.{forgotten_below, grants_below, dropped_below, all_step}
use Rattle.service.proofs.Run.{fresh_default, OR, OW, CW, RD, WR, FL, AN, XX, RP, EN, BT, EM, LF, grant, grant_uncached}
use Rattle.service.proofs.RestartCases.{reply, book_at}

-- client 0 has written into its copy, and the open of client 1 waits for it
abbrev called_once : List Step
called_once = OW 0 0 ∷ WR 0 0 0 5 ∷ OR 1 0 ∷ []

-- it is put under embargo
abbrev aside : List Step
aside = called_once ++ (EM 0 0 ∷ [])

-- it is called on two files
abbrev two_files : List Step
two_files = OW 0 0 ∷ OW 0 1 ∷ OR 2 1 ∷ OR 1 0 ∷ []

abbrev others_report : List Step
others_report = RP 1 ∷ RP 2 ∷ RP 3 ∷ RP 4 ∷ RP 5 ∷ RP 6 ∷ RP 7 ∷ []

pub record Cases : Type 0 where
  -- "EM is tested as a reply is": 2, 3, 5 and 10
  pub absent : reply [] (EM 8 0) ≡ Refused 2
  pub no_file : reply [] (EM 0 32) ≡ Refused 3
  pub recovers : reply (called_once ++ (XX ∷ [])) (EM 0 0) ≡ Refused 5
  pub uncalled : reply (OW 0 0 ∷ []) (EM 0 0) ≡ Refused 10
  pub called : reply called_once (EM 1 0) ≡ Refused 10
  -- "never by 20": a second one finds no call
  pub second : reply aside (EM 0 0) ≡ Refused 10
  -- "A 0, then grants as BT does"
  pub granted : reply called_once (EM 0 0) ≡ AnsweredGrant 0 1 (grant 2 1)
  pub several : reply two_files (EM 0 1) ≡ AnsweredGrant 0 1 (grant 2 1)
  pub further : grants_values (step_of (after_steps fresh_default two_files) (EM 0 1)).grants ≡ 2 ∷ 2 ∷ 1 ∷ 1 ∷ []
  pub none : reply (OR 1 0 ∷ OR 2 0 ∷ OW 3 0 ∷ []) (EM 1 0) ≡ Answered 0
  pub then : reply (OR 1 0 ∷ OR 2 0 ∷ OW 3 0 ∷ EM 1 0 ∷ []) (AN 2 0) ≡ AnsweredGrant 0 3 (grant_uncached 2 1)
  -- the server forgets it on all files
  pub all_files : reply (OW 0 0 ∷ OW 0 1 ∷ OR 1 0 ∷ EM 0 0 ∷ []) (OR 1 1) ≡ Granted (grant 2 1)
  -- "20 when an embargoed station's step other than BT or LF needs the server", before 5 and 6
  pub opens : reply aside (OR 0 1) ≡ Refused 20
  pub closes : reply aside (CW 0 0) ≡ Refused 20
  pub flushes : reply aside (FL 0 0 0) ≡ Refused 20
  pub answers : reply aside (AN 0 0) ≡ Refused 20
  pub reports : reply aside (RP 0) ≡ Refused 20
  pub reads : reply aside (RD 0 0 1) ≡ Refused 20
  pub crashed : reply (aside ++ (XX ∷ [])) (OR 0 1) ≡ Refused 20
  pub crashed_report : reply (aside ++ (XX ∷ [])) (RP 0) ≡ Refused 20
  pub others : reply (aside ++ (XX ∷ [])) (OR 1 1) ≡ Refused 5
  -- "the station doesn't know": it reads what it holds and writes into its copy
  pub held : reply aside (RD 0 0 0) ≡ Value 5
  pub cached : reply aside (WR 0 0 0 6) ≡ Done
  pub written : reply (aside ++ (WR 0 0 0 6 ∷ [])) (RD 0 0 0) ≡ Value 6
  -- "its dirty blocks and the cached writes it still makes are lost for good"
  pub before : book_at called_once ≡ 5
  pub lost : book_at aside ≡ 0
  pub unlisted : book_at (aside ++ (WR 0 0 0 6 ∷ [])) ≡ 0
  pub latest : reply (aside ++ (WR 0 0 0 6 ∷ [])) (RD 1 0 0) ≡ Value 0
  pub safe : book_at (OW 0 0 ∷ WR 0 0 0 5 ∷ FL 0 0 0 ∷ WR 0 0 0 6 ∷ OR 1 0 ∷ EM 0 0 ∷ []) ≡ 5
  -- "LF tests 2 and 21"; "Telling it drops all it holds, counts too"
  pub absent_lift : reply aside (LF 8) ≡ Refused 2
  pub not_aside : reply aside (LF 1) ≡ Refused 21
  pub told : reply aside (LF 0) ≡ Done
  pub once : reply (aside ++ (LF 0 ∷ [])) (LF 0) ≡ Refused 21
  pub dropped : reply (aside ++ (LF 0 ∷ [])) (RD 0 0 0) ≡ Refused 11
  pub again : reply (aside ++ (LF 0 ∷ [])) (OR 0 0) ≡ Granted (grant 2 1)
  pub read_again : reply (aside ++ (LF 0 ∷ OR 0 0 ∷ [])) (RD 0 0 0) ≡ Value 0
  -- "A restart lifts too"
  pub restarted : reply (aside ++ (BT 0 ∷ [])) (LF 0) ≡ Refused 21
  pub restarted_open : reply (aside ++ (BT 0 ∷ [])) (OR 0 0) ≡ Granted (grant 2 1)
  -- "recovery doesn't wait for such stations"; "a lift or restart during recovery is an empty report"
  pub ends : reply (aside ++ (XX ∷ others_report)) EN ≡ Done
  pub waits : reply (called_once ++ (XX ∷ others_report)) EN ≡ Refused 8
  pub stays : reply (aside ++ (XX ∷ others_report) ++ (EN ∷ [])) (OR 0 1) ≡ Refused 20
  pub lift_reports : reply (aside ++ (XX ∷ LF 0 ∷ [])) (RP 0) ≡ Refused 7
  pub restart_reports : reply (aside ++ (XX ∷ BT 0 ∷ [])) (RP 0) ≡ Refused 7

pub cases : Cases
unfolding fresh step_of moved spaced any_below sum_below file_step block_step table_step first_below all_step after_forgetting after_dropping forgotten_below grants_below dropped_below grants_values state_of permission_at_grant count stored
cases =
    record {
      absent = refl;
      no_file = refl;
      recovers = refl;
      uncalled = refl;
      called = refl;
      second = refl;
      granted = refl;
      several = refl;
      further = refl;
      none = refl;
      then = refl;
      all_files = refl;
      opens = refl;
      closes = refl;
      flushes = refl;
      answers = refl;
      reports = refl;
      reads = refl;
      crashed = refl;
      crashed_report = refl;
      others = refl;
      held = refl;
      cached = refl;
      written = refl;
      before = refl;
      lost = refl;
      unlisted = refl;
      latest = refl;
      safe = refl;
      absent_lift = refl;
      not_aside = refl;
      told = refl;
      once = refl;
      dropped = refl;
      again = refl;
      read_again = refl;
      restarted = refl;
      restarted_open = refl;
      ends = refl;
      waits = refl;
      stays = refl;
      lift_reports = refl;
      restart_reports = refl;
    }

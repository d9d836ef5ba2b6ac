-- The whole case of document 01's step file, from the definitions by evaluation. Assumes nothing.
use mathlib.Core.Path.{◌≡◌, refl}
use mathlib.Core.List.{[], ◌∷◌}
use Rattle.protocol.specs.declared.reply.Reply.TheVariants.{Granted, Waiting, Value, Refused, AnsweredGrant, Done}
use Rattle.decision.specs.declared.state.FileState.TheVariants.{OneReader}
use Rattle.decision.specs.Lists.{count, stored, first_below}
use Rattle.sizes.specs.Sizes.{nobody}
use Rattle.records.specs.Version.{version_of}
use Rattle.decision.specs.State.{state_of}
use Rattle.decision.specs.Permission.{permission_at_grant}
use Rattle.service.specs.Contents.{entry_at}
use Rattle.file.specs.FileStep.{file_step}
use Rattle.access.specs.BlockStep.{block_step}
use Rattle.table.specs.TableStep.{table_step}
use Rattle.service.specs.Step.{moved, step_of}
use Rattle.service.specs.Space.{spaced, any_below, sum_below}
use Rattle.service.specs.Fresh.{fresh}
use Rattle.service.proofs.Run.{fresh_default, OR, OW, CW, WR, AN, grant, replies, after, state_at}
use Rattle.service.proofs.Edges.{listing}

pub record WholeCase : Type 0 where
  pub lines :
      replies fresh_default listing
      ≡ Granted (grant 2 1)
      ∷ Done
      ∷ Done
      ∷ Waiting
      ∷ Refused 11
      ∷ AnsweredGrant 1 1 (grant 2 1)
      ∷ Value 77
      ∷ Waiting
      ∷ []
  -- "4 W 0:1" and "8 W 1:2"
  pub call :
      (step_of (after fresh_default (OW 0 3 ∷ WR 0 3 0 77 ∷ CW 0 3 ∷ [])) (OR 1 3)).calls
      ≡ 1 ∷ 0 ∷ 0 ∷ 0 ∷ 0 ∷ 0 ∷ 0 ∷ 0 ∷ []
  pub second_call :
      (step_of (after fresh_default (OW 0 3 ∷ WR 0 3 0 77 ∷ CW 0 3 ∷ OR 1 3 ∷ AN 0 3 ∷ [])) (OW 2 3)).calls
      ≡ 0 ∷ 2 ∷ 0 ∷ 0 ∷ 0 ∷ 0 ∷ 0 ∷ 0 ∷ []
  -- "3 2 2 -"
  pub state : state_at (after fresh_default listing) 3 ≡ OneReader
  pub version : (entry_at (after fresh_default listing) 3).version ≡ version_of 2
  pub last : (entry_at (after fresh_default listing) 3).last ≡ nobody

pub whole_case : WholeCase
unfolding fresh step_of moved spaced any_below sum_below file_step block_step table_step first_below state_of permission_at_grant count stored
whole_case =
    record { lines = refl; call = refl; second_call = refl; state = refl; version = refl; last = refl }

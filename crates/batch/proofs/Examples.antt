-- Batches by evaluation of the definitions: a closing run with openings that are granted, wait and are refused, and the
-- edges of the list. Assumes nothing.
use Prim.Native.Nat.{ℕ}
use mathlib.Core.Path.{◌≡◌, refl}
use mathlib.Core.Bool.{Bool, true, false}
use mathlib.Core.List.{List, [], ◌∷◌, ◌++◌}
use lib.ListN.{take, replicate}
use Rattle.records.specs.declared.record.Mode.{Mode}
use Rattle.records.specs.declared.record.Mode.TheVariants.{Read, Write}
use Rattle.decision.specs.Lists.{count, stored, first_below}
use Rattle.decision.specs.Permission.{permission_at_grant}
use Rattle.decision.specs.State.{state_of}
use Rattle.protocol.specs.declared.reply.Reply.{Reply}
use Rattle.protocol.specs.declared.reply.Reply.TheVariants.{Granted, Waiting, Refused, Done}
use Rattle.protocol.specs.declared.step.Step.TheVariants.{Open}
use Rattle.protocol.specs.Reply.{no_calls, no_grants}
use Rattle.file.specs.FileStep.{file_step}
use Rattle.table.specs.TableStep.{table_step}
use Rattle.service.specs.declared.service.Service.{Service}
use Rattle.service.specs.Step.{moved, step_of}
use Rattle.service.specs.Space.{spaced, any_below, sum_below}
use Rattle.service.specs.Fresh.{fresh}
use Rattle.service.proofs.Run.{fresh_default, OR, OW, XX, grant, after}
use Rattle.batch.specs.declared.batch.OpenReply.{OpenReply}
use Rattle.batch.specs.Batch.{Opening, listed, no_reply, untried, batch_of}

abbrev pair : ℕ → Opening
pair f = record { file = f; mode = Read }

abbrev told : Reply → OpenReply
told r = record { reply = r; calls = no_calls }

-- client 2 has file 3 open for write
abbrev busy : Service
busy = after fresh_default (OW 2 3 ∷ [])

-- the list as it is lent: files 1, 3, 32, 3 and 1; the second and the last for write
abbrev files : List ℕ
files = 1 ∷ 3 ∷ 32 ∷ 3 ∷ 1 ∷ []

abbrev writes : List Bool
writes = false ∷ true ∷ false ∷ false ∷ true ∷ []

abbrev closing_run : List Opening
closing_run = listed files writes

-- 16 and 17 openings of file 0, for read
abbrev sixteen : List Opening
sixteen = replicate 16 (pair 0)

abbrev seventeen : List Opening
seventeen = pair 0 ∷ sixteen

pub record Examples : Type 0 where
  -- a pair at each place; a file without a flag is opened for read, and a flag without a file is none
  pub pairs : listed (7 ∷ 9 ∷ []) (true ∷ []) ≡ record { file = 7; mode = Write } ∷ pair 9 ∷ []
  pub flags_left : listed (7 ∷ []) (false ∷ true ∷ []) ≡ pair 7 ∷ []
  -- "entry by entry": file 1 is granted; file 3 waits, and client 2 is called; there is no file 32; "a file listed
  -- twice meets its own wait"; "a refused entry doesn't stop the rest": file 1 is granted again
  pub entry_by_entry :
      take 5 (batch_of busy 5 closing_run).replies
      ≡ told (Granted (grant 1 0))
      ∷ record { reply = Waiting; calls = 0 ∷ 0 ∷ 3 ∷ 0 ∷ 0 ∷ 0 ∷ 0 ∷ 0 ∷ [] }
      ∷ told (Refused 3)
      ∷ told (Refused 9)
      ∷ told (Granted (grant 2 1))
      ∷ []
  pub places : (batch_of busy 5 closing_run).replies ≡ take 5 (batch_of busy 5 closing_run).replies ++ replicate 11 no_reply
  pub five : (batch_of busy 5 closing_run).count ≡ 5
  pub accepted : (batch_of busy 5 closing_run).reply ≡ Done
  -- "in the final state"
  pub final_state : (batch_of busy 5 closing_run).service ≡ after busy (OR 5 1 ∷ OW 5 3 ∷ OR 5 32 ∷ OR 5 3 ∷ OW 5 1 ∷ [])
  -- "up to 16"; "18 when the list has more than 16 entries, before any entry is tried", and before 2
  pub sixteen_tried : (batch_of busy 5 sixteen).replies ≡ replicate 16 (told (Granted (grant 1 0)))
  pub seventeen_refused : batch_of busy 5 seventeen ≡ untried busy 18
  pub before_client : (batch_of busy 8 seventeen).reply ≡ Refused 18
  -- a client that is not there: each entry gets 2
  pub no_client : take 2 (batch_of busy 8 (pair 1 ∷ pair 2 ∷ [])).replies ≡ told (Refused 2) ∷ told (Refused 2) ∷ []
  -- during recovery each gets 5, after 3
  pub recovering :
      take 2 (batch_of (after busy (XX ∷ [])) 5 (pair 1 ∷ pair 32 ∷ [])).replies
      ≡ told (Refused 5) ∷ told (Refused 3) ∷ []
  -- no open grants the open of another
  pub grants_nothing : (s : Service) (m : Mode) (i f : ℕ) → (step_of s (Open m i f)).grants ≡ no_grants
  -- an empty list is accepted and changes nothing
  pub empty_accepted : (batch_of busy 5 []).reply ≡ Done
  pub empty_count : (batch_of busy 5 []).count ≡ 0
  pub empty_service : (batch_of busy 5 []).service ≡ busy

pub examples : Examples
unfolding fresh step_of moved spaced any_below sum_below file_step table_step first_below state_of permission_at_grant count stored batch_of
examples =
    record {
      pairs = refl;
      flags_left = refl;
      entry_by_entry = refl;
      places = refl;
      five = refl;
      accepted = refl;
      final_state = refl;
      sixteen_tried = refl;
      seventeen_refused = refl;
      before_client = refl;
      no_client = refl;
      recovering = refl;
      grants_nothing = λ s m i f. refl;
      empty_accepted = refl;
      empty_count = refl;
      empty_service = refl;
    }

-- A batch: "A closing run opens up to 16 pairs of file and mode for one station. The outcome, entry by entry and in the
-- final state, is that of single opens in list order; a refused entry doesn't stop the rest, and a file listed twice
-- meets its own wait. .. 18 when the list has more than 16 entries, before any entry is tried." (document 02, Wish 6)
use Rattle.std.specs.Prelude.{ℕ, suc, ◌-◌, Bool, false, cond, List, [], ◌∷◌, ◌++◌, map, ltb, length, get_or, replicate}
use Rattle.records.specs.declared.record.Mode.{Mode}
use Rattle.records.specs.declared.record.Mode.TheVariants.{Read, Write}
use Rattle.protocol.specs.declared.reply.Reply.TheVariants.{Refused, Done}
use Rattle.protocol.specs.declared.step.Step.{Step}
use Rattle.protocol.specs.declared.step.Step.TheVariants.{Open}
use Rattle.protocol.specs.Refusal.{Test, tested}
use Rattle.protocol.specs.Reply.{no_calls}
use Rattle.service.specs.declared.outcome.Outcome.{Outcome}
use Rattle.service.specs.declared.service.Service.{Service}
use Rattle.service.specs.Step.{step_of}
use Rattle.service.specs.NothingBehind.{after_steps}
use Rattle.batch.specs.declared.batch.BatchOutcome.{BatchOutcome}
use Rattle.batch.specs.declared.batch.OpenReply.{OpenReply}

-- ---- the list

-- "pairs of file and mode": an entry of the list
pub record Opening : Type 0 where
  pub file : ℕ
  pub mode : Mode

-- The list as it is lent: the files, and beside them flags, whether each is opened for write. A file past the flags is
-- opened for read; a flag past the files is no entry. So no file is lost, and nothing is written unasked.
abbrev pub mode_at : List Bool → ℕ → Mode
mode_at flags k = cond (get_or flags k false) Write Read

abbrev pub listed_from : ℕ → List ℕ → List Bool → List Opening
listed_from k [] flags = []
listed_from k (f ∷ files) flags = record { file = f; mode = mode_at flags k } ∷ listed_from (suc k) files flags

abbrev pub listed : List ℕ → List Bool → List Opening
listed files flags = listed_from 0 files flags

-- "single opens in list order" of client i
abbrev pub opens_of : ℕ → List Opening → List Step
opens_of i l = map (λ (x : Opening). Open x.mode i x.file) l

-- ---- the outcome

-- "entry by entry": each step takes the service that the one before it left, whether that was refused or not. An open
-- grants nothing to others, so its reply and its callbacks are all that is told of it.
abbrev pub reply_of : Outcome → OpenReply
reply_of o = record { reply = o.reply; calls = o.calls }

abbrev pub replies_to : Service → List Step → List OpenReply
replies_to s [] = []
replies_to s (x ∷ xs) = reply_of (step_of s x) ∷ replies_to (step_of s x).service xs

-- "up to 16": the replies stand in their places, and the places past them hold none
abbrev pub max_openings : ℕ
max_openings = 16

abbrev pub no_reply : OpenReply
no_reply = record { reply = Done; calls = no_calls }

abbrev pub in_places : List OpenReply → List OpenReply
in_places replies = replies ++ replicate (max_openings - length replies) no_reply

-- all entries are tried, and the service is that "in the final state"
abbrev pub tried : Service → List Step → BatchOutcome
tried s xs =
    record {
      service = after_steps s xs;
      reply = Done;
      count = length xs;
      replies = in_places (replies_to s xs);
    }

-- refused, with no entry tried
abbrev pub untried : Service → ℕ → BatchOutcome
untried s k = record { service = s; reply = Refused k; count = 0; replies = in_places [] }

-- "18 when the list has more than 16 entries"
abbrev pub list_too_long : List Opening → Test
list_too_long l = (ltb max_openings (length l), 18)

unfoldable pub batch_of : Service → ℕ → List Opening → BatchOutcome
batch_of s i l = tested (list_too_long l ∷ []) (untried s) (tried s (opens_of i l))

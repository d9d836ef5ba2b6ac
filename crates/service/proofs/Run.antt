-- Lists of steps on a service, for the examples. Assumes nothing.
use Prim.Native.Nat.{ℕ, zero, suc}
use mathlib.Core.List.{List, [], ◌∷◌}
use mathlib.Core.Bool.{true, false}
use Rattle.records.specs.declared.record.ClientRecord.{ClientRecord}
use Rattle.records.specs.declared.record.Mode.TheVariants.{Read as ForRead, Write as ForWrite}
use Rattle.protocol.specs.declared.reply.Grant.{Grant}
use Rattle.protocol.specs.declared.reply.Reply.{Reply}
use Rattle.decision.specs.declared.state.FileState.{FileState}
use Rattle.protocol.specs.declared.step.Step.{Step}
use Rattle.protocol.specs.declared.step.Step.TheVariants.{Open, Close, Read, Write, Flush, Answer, Crash, Report, End}
use Rattle.protocol.specs.declared.step.Step.TheVariants.{Restart, Embargo, Lift}
use Rattle.sizes.specs.Sizes.{default_sizes}
use Rattle.records.specs.Version.{version_of}
use Rattle.decision.specs.State.{state_of}
use Rattle.protocol.specs.Entry.{record_at}
use Rattle.service.specs.declared.service.Service.{Service}
use Rattle.service.specs.Contents.{sizes_of, entry_at}
use Rattle.service.specs.Step.{step_of}
use Rattle.service.specs.Fresh.{fresh}
use Rattle.service.specs.NothingBehind.{after_steps}

-- "without it 8, 32 and 4 hold" (document 02, Wish 7): the fresh service where no sizes are given
abbrev pub fresh_default : Service
fresh_default = fresh default_sizes

-- the words of the step file
abbrev pub OR : ℕ → ℕ → Step
OR i f = Open ForRead i f

abbrev pub OW : ℕ → ℕ → Step
OW i f = Open ForWrite i f

abbrev pub CR : ℕ → ℕ → Step
CR i f = Close ForRead i f

abbrev pub CW : ℕ → ℕ → Step
CW i f = Close ForWrite i f

abbrev pub RD : ℕ → ℕ → ℕ → Step
RD i f b = Read i f b

abbrev pub WR : ℕ → ℕ → ℕ → ℕ → Step
WR i f b v = Write i f b v

abbrev pub FL : ℕ → ℕ → ℕ → Step
FL i f b = Flush i f b

abbrev pub AN : ℕ → ℕ → Step
AN i f = Answer i f

abbrev pub XX : Step
XX = Crash

abbrev pub RP : ℕ → Step
RP i = Report i

abbrev pub EN : Step
EN = End

abbrev pub BT : ℕ → Step
BT i = Restart i

abbrev pub EM : ℕ → ℕ → Step
EM i f = Embargo i f

abbrev pub LF : ℕ → Step
LF i = Lift i

-- G latest previous permission
abbrev pub grant : ℕ → ℕ → Grant
grant latest previous = record { latest = version_of latest; previous = version_of previous; caching = true }

abbrev pub grant_uncached : ℕ → ℕ → Grant
grant_uncached latest previous = record { latest = version_of latest; previous = version_of previous; caching = false }

-- the replies to the steps, one after the other, and the service after them
abbrev pub replies : Service → List Step → List Reply
replies s [] = []
replies s (x ∷ xs) = let r = step_of s x in r.reply ∷ replies r.service xs

abbrev pub after : Service → List Step → Service
after = after_steps

-- the reply to the last step, after the others
abbrev pub answer_after : Service → List Step → Step → Reply
answer_after s xs x = (step_of (after s xs) x).reply

abbrev pub times : ℕ → Step → List Step
times zero x = []
times (suc n) x = x ∷ times n x

-- eight reports and the end of recovery
abbrev pub recovered : List Step
recovered = RP 0 ∷ RP 1 ∷ RP 2 ∷ RP 3 ∷ RP 4 ∷ RP 5 ∷ RP 6 ∷ RP 7 ∷ EN ∷ []

abbrev pub state_at : Service → ℕ → FileState
state_at s f = state_of (sizes_of s).clients (record_at (entry_at s f)) (entry_at s f).last

abbrev pub server_record : Service → ℕ → ℕ → ClientRecord
server_record s i f = record_at (entry_at s f) i

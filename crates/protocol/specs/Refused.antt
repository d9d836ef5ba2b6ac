-- Document 01's numbers of the refusals, and those of document 02.
use Rattle.std.specs.Prelude.{ℕ, Bool, cond, ⊤, Ok, Err}
use Rattle.std.specs.declared.result.Result.{Result}
use Rattle.protocol.specs.declared.refusal.Refusal.{Refusal}
use Rattle.protocol.specs.declared.refusal.Refusal.TheVariants.{NoStep, NoClient, NoFile, NoBlock, InRecovery, NotInRecovery}
use Rattle.protocol.specs.declared.refusal.Refusal.TheVariants.{Reported, ReportMissing, OpenWaits, NoCall, NotOpen, CountFull}
use Rattle.protocol.specs.declared.refusal.Refusal.TheVariants.{NotDirty, VersionSpent, OpenWaitsAtWriting, BufferTooShort}
use Rattle.protocol.specs.declared.refusal.Refusal.TheVariants.{NoImage, ListTooLong, OutOfRange, UnderEmbargo, NotUnderEmbargo}
use Rattle.protocol.specs.declared.refusal.Refusal.TheVariants.{ReportsClash, NoPlace}
use Rattle.protocol.specs.declared.reply.Reply.{Reply}
use Rattle.protocol.specs.declared.reply.Reply.TheVariants.{Refused}

abbrev pub number_of : Refusal → ℕ
number_of NoStep = 1
number_of NoClient = 2
number_of NoFile = 3
number_of NoBlock = 4
number_of InRecovery = 5
number_of NotInRecovery = 6
number_of Reported = 7
number_of ReportMissing = 8
number_of OpenWaits = 9
number_of NoCall = 10
number_of NotOpen = 11
number_of CountFull = 12
number_of NotDirty = 13
number_of VersionSpent = 14
number_of OpenWaitsAtWriting = 15
number_of BufferTooShort = 16
number_of NoImage = 17
number_of ListTooLong = 18
number_of OutOfRange = 19
number_of UnderEmbargo = 20
number_of NotUnderEmbargo = 21
number_of ReportsClash = 22
number_of NoPlace = 23

-- the reply "N refusal"
abbrev pub refused_with : Refusal → Reply
refused_with r = Refused (number_of r)

-- the number of what was found out, 0 where nothing is refused
abbrev pub refusal_in : Result ⊤ Refusal → ℕ
refusal_in (Ok x) = 0
refusal_in (Err r) = number_of r

-- refused where the test holds
abbrev pub refusal_if : Bool → Refusal → Result ⊤ Refusal
refusal_if test r = cond test (Err r) (Ok tt)

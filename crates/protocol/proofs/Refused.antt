-- What a tested step's result says: with a refusal the step is refused by its number, which is not 0; with none it is done.
-- Assumes nothing.
use Prim.Native.Nat.{ℕ}
use mathlib.Core.Path.{◌≡◌, sym, ap, ◌∙◌}
use mathlib.Core.List.{List}
use native.Mathlib.Omega.{arith}
use Rattle.std.specs.Prelude.{⊤, Ok, Err}
use Rattle.std.specs.declared.result.Result.{Result}
use Rattle.decision.specs.Lists.{first_of}
use Rattle.protocol.specs.declared.refusal.Refusal.{Refusal}
use Rattle.protocol.specs.declared.refusal.Refusal.TheVariants.{NoStep, NoClient, NoFile, NoBlock, InRecovery, NotInRecovery}
use Rattle.protocol.specs.declared.refusal.Refusal.TheVariants.{Reported, ReportMissing, OpenWaits, NoCall, NotOpen, CountFull}
use Rattle.protocol.specs.declared.refusal.Refusal.TheVariants.{NotDirty, VersionSpent, OpenWaitsAtWriting, BufferTooShort, NoImage, ListTooLong}
use Rattle.protocol.specs.declared.refusal.Refusal.TheVariants.{OutOfRange, UnderEmbargo, NotUnderEmbargo, ReportsClash, NoPlace}
use Rattle.protocol.specs.Refusal.{Test, tested}
use Rattle.protocol.specs.Refused.{number_of, refusal_in}
use Rattle.protocol.proofs.Tested.{when_refused, when_accepted}

-- the number of a refusal is not 0, which stands for none
pub numbered : (r : Refusal) → number_of r ≡ 0 → ⊥
numbered NoStep e = omega (arith, e)
numbered NoClient e = omega (arith, e)
numbered NoFile e = omega (arith, e)
numbered NoBlock e = omega (arith, e)
numbered InRecovery e = omega (arith, e)
numbered NotInRecovery e = omega (arith, e)
numbered Reported e = omega (arith, e)
numbered ReportMissing e = omega (arith, e)
numbered OpenWaits e = omega (arith, e)
numbered NoCall e = omega (arith, e)
numbered NotOpen e = omega (arith, e)
numbered CountFull e = omega (arith, e)
numbered NotDirty e = omega (arith, e)
numbered VersionSpent e = omega (arith, e)
numbered OpenWaitsAtWriting e = omega (arith, e)
numbered BufferTooShort e = omega (arith, e)
numbered NoImage e = omega (arith, e)
numbered ListTooLong e = omega (arith, e)
numbered OutOfRange e = omega (arith, e)
numbered UnderEmbargo e = omega (arith, e)
numbered NotUnderEmbargo e = omega (arith, e)
numbered ReportsClash e = omega (arith, e)
numbered NoPlace e = omega (arith, e)

module _
    {ℓ}
    {A : Type ℓ}
    (ts : List Test)
    (refused : ℕ → A)
    (done : A)
    {r : Result ⊤ Refusal}
    (told : refusal_in r ≡ first_of ts) where
  pub refused_by : {refusal : Refusal} → r ≡ Err refusal → tested ts refused done ≡ refused (number_of refusal)
  refused_by {refusal} is =
      when_refused ts refused done (number_of refusal) (ap refusal_in (sym is) ∙ told) (numbered refusal)

  pub not_refused_by : {x : ⊤} → r ≡ Ok x → tested ts refused done ≡ done
  not_refused_by is = when_accepted ts refused done (refusal_in r) told (ap refusal_in is)

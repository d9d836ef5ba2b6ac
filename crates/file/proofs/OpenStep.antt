-- An open, granted or waiting, as the step's definition has it. Assumes nothing.
use Prim.Native.Nat.{ℕ, ◌≤◌}
use mathlib.Core.Path.{◌≡◌, sym, ap, ◌∙◌}
use mathlib.Core.Bool.{Bool, not}
use mathlib.Core.List.{List}
use lib.Dec.{eqb}
use lib.ListN.{get_or, length-replicate}
use borrow.Author.Tests.{eq-eqb, ne_eqb}
use Rattle.std.specs.Prelude.{⊤, Ok}
use Rattle.std.specs.declared.result.Result.{Result}
use Rattle.records.specs.declared.record.Mode.{Mode}
use Rattle.sizes.proofs.Choosing.{when, unless}
use Rattle.sizes.specs.declared.sizes.Sizes.{Sizes}
use Rattle.sizes.specs.Sizes.{max_clients}
use Rattle.decision.specs.Lists.{first_of}
use Rattle.decision.specs.Callback.{asks_nothing}
use Rattle.decision.proofs.Counting.{count_agree}
use Rattle.decision.proofs.CallOrder.{kind_due}
use Rattle.protocol.specs.declared.refusal.Refusal.{Refusal}
use Rattle.protocol.specs.declared.reply.Grant.{Grant}
use Rattle.protocol.specs.declared.reply.Reply.TheVariants.{Granted}
use Rattle.protocol.specs.declared.shared.SharedFile.{SharedFile}
use Rattle.protocol.specs.declared.step.Step.TheVariants.{Open}
use Rattle.protocol.specs.Entry.{record_at, calls_in, calls_for, calls_due, grant_of}
use Rattle.protocol.specs.Client.{side_of}
use Rattle.protocol.specs.Refusal.{open_tests}
use Rattle.protocol.specs.Refused.{refusal_in}
use Rattle.blocks.specs.declared.stores.Stores.{Stores}
use Rattle.protocol.specs.Reply.{no_calls}
use Rattle.file.specs.FileStep.{granted, waiting, after_open, file_step}
use Rattle.file.proofs.Taking.{open_step, accepted}

module _ (z : Sizes) (embargoed recovering : Bool) (x : SharedFile) (a : Stores) (mode : Mode) (i f : ℕ) where
  -- how many clients the callbacks call is how many the open causes to be called
  calls_counted :
      (calls : List ℕ)
      → z.clients ≤ max_clients
      → calls ≡ calls_due z.clients x.entry i mode no_calls
      → calls_in z.clients calls ≡ calls_for z.clients x.entry i mode
  calls_counted calls bound due =
      count_agree z.clients _ _
      (λ j h.
      ap (λ (k : ℕ). not (asks_nothing k))
      (ap (λ (l : List ℕ). get_or l j 0) due
      ∙ kind_due z.clients (record_at x.entry) x.entry.last i mode no_calls (rw length-replicate bound) j h))

  module _
      {r : Result ⊤ Refusal}
      {u : ⊤}
      (calls : List ℕ)
      (number : ℕ)
      (bound : z.clients ≤ max_clients)
      (tests : refusal_in r ≡ first_of (open_tests z embargoed recovering x.entry (side_of x.sides i) mode i f))
      (passed : r ≡ Ok u)
      (due : calls ≡ calls_due z.clients x.entry i mode no_calls)
      (counted : number ≡ calls_in z.clients calls) where
    taken : file_step z embargoed recovering x a (Open mode i f) ≡ after_open z x a mode i f
    taken =
        accepted (open_tests z embargoed recovering x.entry (side_of x.sides i) mode i f) x a (after_open z x a mode i f)
        (open_step z embargoed recovering x a mode i f) tests passed

    counts : number ≡ calls_for z.clients x.entry i mode
    counts = counted ∙ calls_counted calls bound due

    pub open-granted :
        (g : Grant)
        → number ≡ 0
        → g ≡ grant_of z.clients x.entry i mode
        → file_step z embargoed recovering x a (Open mode i f) ≡ granted z f x a i mode g (Granted g)
    open-granted g none is =
        taken
        ∙ when _ _ (ap (λ (n : ℕ). eqb n 0) (sym counts) ∙ eq-eqb number 0 none)
        ∙ ap (λ (g' : Grant). granted z f x a i mode g' (Granted g')) (sym is)

    pub open-waits :
        (number ≡ 0 → ⊥) → file_step z embargoed recovering x a (Open mode i f) ≡ waiting z x a i mode
    open-waits some = taken ∙ unless _ _ (ap (λ (n : ℕ). eqb n 0) (sym counts) ∙ ne_eqb number 0 some)

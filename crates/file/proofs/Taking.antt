-- A step of each kind, as the step's definition has it, refused or accepted; and what a refused one leaves in the lent
-- arrays. Assumes nothing.
use Prim.Native.Nat.{ℕ}
use mathlib.Core.Path.{◌≡◌, refl, sym, ◌∙◌, subst, subst⁻¹}
use mathlib.Core.Bool.{Bool, true, false, true≢false}
use mathlib.Core.List.{List}
use Rattle.std.specs.Prelude.{⊤, Ok, Err}
use Rattle.std.specs.declared.result.Result.{Result}
use Rattle.records.specs.declared.record.Mode.{Mode}
use Rattle.sizes.specs.declared.sizes.Sizes.{Sizes}
use Rattle.decision.specs.Lists.{first_of}
use Rattle.protocol.specs.declared.refusal.Refusal.{Refusal}
use Rattle.protocol.specs.declared.reply.Reply.{Reply}
use Rattle.protocol.specs.declared.reply.Reply.TheVariants.{Refused}
use Rattle.protocol.specs.declared.shared.SharedFile.{SharedFile}
use Rattle.protocol.specs.declared.step.Step.TheVariants.{Open, Close, Flush, Answer}
use Rattle.protocol.specs.Client.{side_of}
use Rattle.protocol.specs.Refusal.{Test, open_tests, close_tests, flush_tests, answer_tests}
use Rattle.protocol.specs.Reply.{no_calls, is_refused}
use Rattle.protocol.specs.Refused.{refusal_in, refused_with}
use Rattle.protocol.proofs.Refused.{refused_by, not_refused_by}
use Rattle.words.specs.Rows.{file_held, Puts}
use Rattle.blocks.specs.declared.stores.Stores.{Stores}
use Rattle.blocks.specs.Stores.{dirty_in}
use Rattle.file.specs.FileStep.{FileAfter, leaving, unless_tested, after_open, after_close, after_flush, after_answer, file_step}
use Rattle.file.specs.Held.{Holds}

module _ (z : Sizes) (embargoed recovering : Bool) (x : SharedFile) (a : Stores) where
  pub open_step :
      (mode : Mode) (i f : ℕ)
      → file_step z embargoed recovering x a (Open mode i f)
      ≡ unless_tested (open_tests z embargoed recovering x.entry (side_of x.sides i) mode i f) x a (after_open z x a mode i f)
  unfolding file_step
  open_step mode i f = refl

  pub close_step :
      (mode : Mode) (i f : ℕ)
      → file_step z embargoed recovering x a (Close mode i f)
      ≡ unless_tested (close_tests z embargoed recovering x.entry (side_of x.sides i) mode i f) x a (after_close z x a mode i f)
  unfolding file_step
  close_step mode i f = refl

  pub flush_step :
      (i f b : ℕ)
      → file_step z embargoed recovering x a (Flush i f b)
      ≡ unless_tested (flush_tests z embargoed recovering (dirty_in a i f b) i f b) x a (after_flush z x a i f b)
  unfolding file_step
  flush_step i f b = refl

  pub answer_step :
      (i f : ℕ)
      → file_step z embargoed recovering x a (Answer i f)
      ≡ unless_tested (answer_tests z embargoed recovering x.entry i f) x a (after_answer z x a i f)
  unfolding file_step
  answer_step i f = refl

-- the step is done
pub accepted :
    (ts : List Test) (x : SharedFile) (a : Stores) (after : FileAfter) {step : FileAfter} {r : Result ⊤ Refusal} {u : ⊤}
    → step ≡ unless_tested ts x a after
    → refusal_in r ≡ first_of ts
    → r ≡ Ok u
    → step ≡ after
accepted ts x a after taken tests done = taken ∙ not_refused_by ts (λ n. leaving x a (Refused n)) after tests done

-- what stands in the row, and in the arrays, of a step that leaves the same
pub puts_as : {f : ℕ} {x y : SharedFile} {t₀ t : List ℕ} → x ≡ y → Puts f x t₀ t → Puts f y t₀ t
puts_as {f} {x} {y} {t₀} {t} same puts = subst (λ (x : SharedFile). Puts f x t₀ t) same puts

pub holds_as :
    {step after : FileAfter} {f : ℕ} {t₀ t : List ℕ} {reply : Reply} {calls : List ℕ} {s : Stores}
    → step ≡ after
    → Holds after f t₀ t reply calls s
    → Holds step f t₀ t reply calls s
holds_as {step} {after} {f} {t₀} {t} {reply} {calls} {s} same holds =
    subst⁻¹ (λ (x : FileAfter). Holds x f t₀ t reply calls s) same holds

-- a refused step leaves all as it came
pub refused_holds :
    (ts : List Test) (after : FileAfter) {f : ℕ} {t : List ℕ} {s : Stores} {step : FileAfter} {r : Result ⊤ Refusal}
    {refusal : Refusal} {reply : Reply}
    → step ≡ unless_tested ts (file_held t f) s after
    → refusal_in r ≡ first_of ts
    → r ≡ Err refusal
    → reply ≡ refused_with refusal
    → Holds step f t t reply no_calls s
refused_holds ts after {f} {t} {s} taken tests is told =
    holds_as (taken ∙ refused_by ts (λ n. leaving (file_held t f) s (Refused n)) after tests is)
    (record {
      puts = record { long = refl; here = refl; beside = λ g j off lt. refl };
      reply_after = told;
      calls_after = refl;
      stores_after = refl;
      refused = λ e. refl;
    })

-- of a reply that is no refusal, what a refusal must leave is not asked
pub not_refused : {A : Type 0} (reply : Reply) → is_refused reply ≡ false → is_refused reply ≡ true → A
not_refused reply other refused = absurd (true≢false (sym refused ∙ other))

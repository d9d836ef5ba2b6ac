-- What is left in the lent arrays where the row is stored first and an answer may then grant the open that waits. Assumes
-- nothing.
use Prim.Native.Nat.{ℕ}
use mathlib.Core.Path.{◌≡◌, ap, ◌∙◌, subst, subst⁻¹}
use mathlib.Core.List.{List}
use Rattle.sizes.specs.declared.sizes.Sizes.{Sizes}
use Rattle.protocol.specs.declared.entry.Entry.{Entry}
use Rattle.protocol.specs.declared.reply.Reply.{Reply}
use Rattle.protocol.specs.declared.reply.Reply.TheVariants.{Answered}
use Rattle.protocol.specs.declared.shared.SharedFile.{SharedFile}
use Rattle.protocol.specs.Reply.{no_calls, is_refused}
use Rattle.words.specs.Rows.{file_held, Puts}
use Rattle.blocks.specs.declared.stores.Stores.{Stores}
use Rattle.file.specs.FileStep.{FileAfter, leaving, granted_if_last, with_entry}
use Rattle.file.specs.Held.{Holds, Leaves}
use Rattle.file.proofs.LastAnswer.{no_calls_lem, no_refusal}
use Rattle.file.proofs.Taking.{puts_as, not_refused}

-- the row was stored twice
pub puts_after : {f : ℕ} {x y : SharedFile} {t₀ t₁ t : List ℕ} → Puts f x t₀ t₁ → Puts f y t₁ t → Puts f y t₀ t
puts_after first then =
    record {
      long = then.long ∙ first.long;
      here = then.here;
      beside = λ g k off lt. then.beside g k off lt ∙ first.beside g k off lt;
    }

-- the second time its entry
pub entry_stored :
    {f : ℕ} {x : SharedFile} {e : Entry} {t₀ t₁ t : List ℕ}
    → Puts f x t₀ t₁
    → Puts f (with_entry (file_held t₁ f) e) t₁ t
    → Puts f (with_entry x e) t₀ t
entry_stored {f} {x} {e} first then = puts_as (ap (λ (x : SharedFile). with_entry x e) first.here) (puts_after first then)

pub leaves_as :
    {step after : FileAfter} {f : ℕ} {t₀ t : List ℕ} {reply : Reply} {s : Stores}
    → step ≡ after
    → Leaves after f t₀ t reply s
    → Leaves step f t₀ t reply s
leaves_as {step} {after} {f} {t₀} {t} {reply} {s} same leaves =
    subst⁻¹ (λ (x : FileAfter). Leaves x f t₀ t reply s) same leaves

-- a step that is done leaves no less
pub leaves_held :
    {after : FileAfter} {f : ℕ} {t₀ t : List ℕ} {reply : Reply} {calls : List ℕ} {s : Stores}
    → Holds after f t₀ t reply calls s
    → Leaves after f t₀ t reply s
leaves_held holds = record { puts = holds.puts; reply_after = holds.reply_after; stores_after = holds.stores_after }

module _
    (z : Sizes)
    (file sent : ℕ)
    (x : SharedFile)
    (a : Stores)
    {f : ℕ}
    {t₀ t₁ t : List ℕ}
    {reply : Reply}
    {s : Stores}
    (first : Puts f x t₀ t₁)
    (then : Leaves (granted_if_last z file sent (leaving (file_held t₁ f) a (Answered sent))) f t₁ t reply s) where
  abbrev after : FileAfter
  after = granted_if_last z file sent (leaving x a (Answered sent))

  pub stored_before : Leaves after f t₀ t reply s
  stored_before =
      let there : Leaves after f t₁ t reply s =
      subst (λ (x : SharedFile). Leaves (granted_if_last z file sent (leaving x a (Answered sent))) f t₁ t reply s)
      first.here
      then in
      record {
        puts = puts_after first there.puts;
        reply_after = there.reply_after;
        stores_after = there.stores_after;
      }

  -- it is no refusal, and sends no callback
  pub answer_holds : Holds after f t₀ t reply no_calls s
  answer_holds =
      record {
        puts = stored_before.puts;
        reply_after = stored_before.reply_after;
        calls_after = no_calls_lem z file sent x a;
        stores_after = stored_before.stores_after;
        refused = not_refused reply (ap is_refused stored_before.reply_after ∙ no_refusal z file sent x a);
      }

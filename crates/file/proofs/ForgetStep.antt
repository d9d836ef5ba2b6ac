-- The server forgets a client, as the definition has it, where a call on it counts as answered; and a client drops what it
-- has. Assumes nothing.
use Prim.Native.Nat.{ℕ}
use mathlib.Core.Path.{◌≡◌, refl, sym, ap, ◌∙◌}
use mathlib.Core.Bool.{true, false, cond}
use Rattle.sizes.proofs.Choosing.{when, unless}
use Rattle.sizes.specs.declared.sizes.Sizes.{Sizes}
use Rattle.decision.specs.Callback.{asks_nothing}
use Rattle.protocol.specs.declared.entry.Entry.{Entry}
use Rattle.protocol.specs.declared.reply.Reply.TheVariants.{Answered, Done}
use Rattle.protocol.specs.declared.shared.SharedFile.{SharedFile}
use Rattle.protocol.specs.Client.{with_side, no_client}
use Rattle.protocol.specs.Entry.{call_to, answered_entry, forgotten_entry}
use Rattle.blocks.specs.declared.stores.Stores.{Stores}
use Rattle.blocks.specs.Stores.{dropped_unless}
use Rattle.file.specs.FileStep.{FileAfter, leaving, granted_if_last, with_entry, after_forgetting, after_dropping}

module _ (z : Sizes) (f : ℕ) (x : SharedFile) (a : Stores) (i : ℕ) where
  -- what is left of an entry without the client, to which a callback of the kind is out
  abbrev left : Entry → ℕ → FileAfter
  left e kind =
      cond (asks_nothing kind) (leaving (with_entry x e) a Done)
      (granted_if_last z f 0 (leaving (with_entry x (answered_entry e i kind)) a (Answered 0)))

  forgotten :
      (let e = forgotten_entry z.clients x.entry i in
      after_forgetting z f x a i ≡ left e (call_to z.clients e i))
  unfolding after_forgetting
  forgotten = refl

  module _ (e : Entry) (kind : ℕ) (is : e ≡ forgotten_entry z.clients x.entry i) (called : kind ≡ call_to z.clients e i) where
    whole : after_forgetting z f x a i ≡ left e kind
    whole = forgotten ∙ ap (λ (e : Entry). left e (call_to z.clients e i)) (sym is) ∙ ap (left e) (sym called)

    pub forget-done : asks_nothing kind ≡ true → after_forgetting z f x a i ≡ leaving (with_entry x e) a Done
    forget-done none = whole ∙ when _ _ none

    pub forget-answers :
        (after : Entry)
        → asks_nothing kind ≡ false
        → after ≡ answered_entry e i kind
        → after_forgetting z f x a i ≡ granted_if_last z f 0 (leaving (with_entry x after) a (Answered 0))
    forget-answers after some answered =
        whole
        ∙ unless _ _ some
        ∙ ap (λ (e : Entry). granted_if_last z f 0 (leaving (with_entry x e) a (Answered 0))) (sym answered)

  pub drop_step :
      after_dropping z f x a i
      ≡ leaving (record { entry = x.entry; sides = with_side x.sides i no_client }) (dropped_unless z.blocks false i f a) Done
  unfolding after_dropping
  drop_step = refl

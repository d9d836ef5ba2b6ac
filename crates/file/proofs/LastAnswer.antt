-- What an answer leaves, the last or not: whose open it grants is a client's, and it is no refusal. Assumes nothing.
use Prim.Native.Nat.{ℕ, ◌<◌}
use mathlib.Core.Path.{◌≡◌, refl, sym, ap, ◌∙◌, subst⁻¹}
use mathlib.Core.Bool.{false, true≢false}
use lib.Dec.{eqb}
use borrow.Author.Tests.{eq-eqb, ne_eqb, ltb-true}
use Rattle.sizes.proofs.Choosing.{when, unless, split}
use Rattle.sizes.specs.declared.sizes.Sizes.{Sizes}
use Rattle.decision.specs.Callback.{asks_nothing}
use Rattle.protocol.specs.declared.entry.Entry.{Entry}
use Rattle.protocol.specs.declared.reply.Grant.{Grant}
use Rattle.protocol.specs.declared.reply.Reply.{Reply}
use Rattle.protocol.specs.declared.reply.Reply.TheVariants.{Granted, Waiting, Value, Refused, Answered}
use Rattle.protocol.specs.declared.reply.Reply.TheVariants.{AnsweredGrant, Done}
use Rattle.protocol.specs.declared.shared.SharedFile.{SharedFile}
use Rattle.protocol.specs.Entry.{waits, call_to, calls_out, grant_of}
use Rattle.protocol.specs.Reply.{no_calls, is_refused}
use Rattle.blocks.specs.declared.stores.Stores.{Stores}
use Rattle.file.specs.FileStep.{FileAfter, leaving, granted, waiter_granted, granted_if_last}

-- a client that has a callback has it from an open that waits
pub someone_waits : (n : ℕ) (e : Entry) (i : ℕ) → asks_nothing (call_to n e i) ≡ false → e.waiter < n
someone_waits n e i called =
    split (waits n e) (λ w. ltb-true e.waiter n w) (λ w. absurd (true≢false (rw w at called)))

-- the open that a reply tells of as granted by an answer is a client's, below n
abbrev pub GrantsBelow : ℕ → Reply → Type 0
GrantsBelow n (Granted g) = Unit {0}
GrantsBelow n Waiting = Unit {0}
GrantsBelow n (Value v) = Unit {0}
GrantsBelow n (Refused k) = Unit {0}
GrantsBelow n (Answered sent) = Unit {0}
GrantsBelow n (AnsweredGrant sent j g) = j < n
GrantsBelow n Done = Unit {0}

-- x and a are left by the answer, before any grant; `sent` blocks went to the server
module _ (z : Sizes) (f sent : ℕ) (x : SharedFile) (a : Stores) where
  abbrev first : FileAfter
  first = leaving x a (Answered sent)

  abbrev after : FileAfter
  after = granted_if_last z f sent first

  -- what holds of both holds of the one that it is
  either : (P : FileAfter → Type 0) → P (waiter_granted z f sent x a) → P first → P after
  either P last more =
      split (eqb (calls_out z.clients x.entry) 0)
      (λ e. subst⁻¹ P (when (waiter_granted z f sent x a) first e) last)
      (λ e. subst⁻¹ P (unless (waiter_granted z f sent x a) first e) more)

  pub no_calls_lem : no_calls ≡ after.calls
  no_calls_lem = either (λ o. no_calls ≡ o.calls) refl refl

  pub no_refusal : is_refused after.reply ≡ false
  no_refusal = either (λ o. is_refused o.reply ≡ false) refl refl

  pub grants_below_lem : x.entry.waiter < z.clients → GrantsBelow z.clients after.reply
  grants_below_lem there = either (λ o. GrantsBelow z.clients o.reply) there tt

  -- `out` callbacks are out then, in the entry e
  module _ (e : Entry) (out : ℕ) (same : x.entry ≡ e) (counted : out ≡ calls_out z.clients e) where
    found : calls_out z.clients x.entry ≡ out
    found = ap (calls_out z.clients) same ∙ sym counted

    pub more-out : (out ≡ 0 → ⊥) → after ≡ first
    more-out some = unless _ _ (ap (λ (n : ℕ). eqb n 0) found ∙ ne_eqb out 0 some)

    pub last-grants :
        (g : Grant)
        → out ≡ 0
        → g ≡ grant_of z.clients e e.waiter e.mode
        → after ≡ granted z f x a e.waiter e.mode g (AnsweredGrant sent e.waiter g)
    last-grants g all is =
        let grant : grant_of z.clients x.entry x.entry.waiter x.entry.mode ≡ g =
        ap (λ (e : Entry). grant_of z.clients e e.waiter e.mode) same ∙ sym is in
        when _ _ (ap (λ (n : ℕ). eqb n 0) found ∙ eq-eqb out 0 all)
        ∙ (λ k. granted z f x a (same k).waiter (same k).mode (grant k) (AnsweredGrant sent (same k).waiter (grant k)))

-- `callbacks_due` meets its contract: none is due where the opener keeps its permission or the open calls nobody, and
-- else after i clients theirs are stored. Assumes nothing.
use Rattle.std.proofs.Common.{ℕ, ◌≡◌, ◌||◌, sym, ◌∙◌, replicate}
use lib.Dec.{eqb}
use Rattle.records.specs.declared.record.Mode.{Mode}
use Rattle.records.specs.declared.record.ClientRecord.{ClientRecord}
use Rattle.records.specs.Record.{keeps_permission}
use Rattle.decision.specs.State.{record_in, state_of}
use Rattle.decision.specs.Callback.{callback_kind, callback_due, callbacks_due}
use Rattle.sizes.proofs.Choosing.{cond_not, split}
use Rattle.decision.proofs.Beyond.{get_d_alike}
use Rattle.decision.proofs.Storing.{stored_same, stored_none, stored_more}
use Rattle.decision.proofs.callback.callbacks_due.Goals as goal

module _ (n : ℕ) (r : ℕ → ClientRecord) (last opener : ℕ) (mode : Mode) where
  -- where none is due, what is stored is 0
  none-due : ((k : ℕ) → callback_due n r last opener mode k ≡ 0)
      → replicate 8 0 ≡ callbacks_due n r last opener mode (replicate 8 0)
  none-due none =
      sym
      (stored_same n (λ k. k) (callback_due n r last opener mode) (replicate 8 0) 0
      (λ k below. none k ∙ sym (get_d_alike 8 0 k)))

  -- a client that is not called is due none, opener or not
  not-called : (k : ℕ)
      → callback_kind (state_of n r last) mode (r k) (eqb k last) ≡ 0 → callback_due n r last opener mode k ≡ 0
  not-called k none = split (keeps_permission mode (r opener) || eqb k opener) (λ e. rw e) (λ e. rw e none)

pub returns-then-keeps_permission : goal.returns-then-keeps_permission
returns-then-keeps_permission c =
    let a = c.args in
    none-due a.clients (record_in a.records) a.last a.opener a.mode
    (λ k. rw (← c.record_of.ensures, ← c.keeps_permission.ensures, c.if-keeps_permission.true))

pub returns-then-calls_nobody : goal.returns-then-calls_nobody
returns-then-calls_nobody c =
    let a = c.args in
    let r = record_in a.records in
    none-due a.clients r a.last a.opener a.mode
    (λ k.
    not-called a.clients r a.last a.opener a.mode k
    (rw (← c.state_of-state.ensures) (c.calls_nobody.ensures c.if-calls_nobody.true (r k) (eqb k a.last))))

pub loop-i-init : goal.loop-i-init
loop-i-init c = stored_none

pub loop-i-preserved : goal.loop-i-preserved
loop-i-preserved c =
    stored_more c.loop-i.invariant c.loop-i-test.true
    (rw (
      c.either.ensures,
      cond_not (eqb c.loop-i.i c.args.opener) c.callback_kind-kind.result 0,
      c.callback_kind-kind.ensures,
      c.state_of-state.ensures,
      ← c.record_of.ensures,
      ← c.keeps_permission.ensures,
      c.if-keeps_permission.false,
    ))

-- Two functions from client to record that agree below n: whatever is decided of n clients is the same by both. It
-- leads to lists of records with room for more clients than there are. Assumes nothing.
use Prim.Native.Nat.{ℕ, ◌<◌}
use mathlib.Core.Path.{◌≡◌, ap}
use mathlib.Core.Bool.{cond, not, ◌&&◌, ◌||◌}
use lib.Dec.{eqb, ltb}
use borrow.Author.Tests.{ltb-true}
use Rattle.records.specs.declared.record.Mode.{Mode}
use Rattle.records.specs.declared.record.ClientRecord.{ClientRecord}
use Rattle.records.specs.Record.{is_open, keeps_permission}
use Rattle.sizes.proofs.Choosing.{split}
use Rattle.decision.specs.declared.state.Property.{Property}
use Rattle.decision.specs.declared.state.Property.TheVariants.{Open, Uncached, Writing}
use Rattle.decision.specs.State.{has, tally, others, state_of}
use Rattle.decision.specs.Callback.{asks_nothing, callback_kind, callback_due, calls_caused}
use Rattle.decision.specs.Permission.{permission_at_grant}
use Rattle.decision.proofs.Counting.{count_agree}

module _ (n : ℕ) (r s : ℕ → ClientRecord) (same : (i : ℕ) → i < n → r i ≡ s i) where
  tally_agree : (p : Property) → tally n r p ≡ tally n s p
  tally_agree p = count_agree n _ _ (λ i below. ap (has p) (same i below))

  others_agree : (p : Property) (i : ℕ) → others n r p i ≡ others n s p i
  others_agree p i = count_agree n _ _ (λ j below. ap (λ x. not (eqb j i) && has p x) (same j below))

  -- the last writer is a client only below n
  last_agree : (last : ℕ) → (ltb last n && is_open (r last)) ≡ (ltb last n && is_open (s last))
  last_agree last =
      split (ltb last n) (λ e. ap (λ x. ltb last n && is_open x) (same last (ltb-true last n e))) (λ e. rw e)

  state_agree : (last : ℕ) → state_of n r last ≡ state_of n s last
  unfolding state_of
  state_agree last = cc (tally_agree Open, tally_agree Uncached, tally_agree Writing, last_agree last)

  -- The opener is a client.
  module _ (opener : ℕ) (mode : Mode) (below : opener < n) where
    pub due-agree :
        (last i : ℕ) → i < n → callback_due n r last opener mode i ≡ callback_due n s last opener mode i
    due-agree last i is =
        λ k.
        cond (keeps_permission mode (same opener below k) || eqb i opener) 0
        (callback_kind (state_agree last k) mode (same i is k) (eqb i last))

    pub calls-agree : (last : ℕ) → calls_caused n r last opener mode ≡ calls_caused n s last opener mode
    calls-agree last = count_agree n _ _ (λ i is. ap (λ x. not (asks_nothing x)) (due-agree last i is))

    pub permission-agree : permission_at_grant n r opener mode ≡ permission_at_grant n s opener mode
    unfolding permission_at_grant
    permission-agree =
        cc (same opener below, others_agree Writing opener, others_agree Open opener, tally_agree Uncached)

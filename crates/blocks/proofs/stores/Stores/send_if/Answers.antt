-- `send_if` meets its contract: after b turns b of the server's blocks are stored, each the client's where that is
-- dirty. Assumes nothing.
use Rattle.std.proofs.Common.{ℕ, ◌+◌, ◌≡◌, false, cond, List, refl, sym, ap, ◌∙◌, get_or, arith}
use Rattle.sizes.proofs.Choosing.{when, unless}
use Rattle.decision.proofs.Storing.{get_d_stored_other, stored_none, stored_more, stored_all}
use Rattle.blocks.proofs.stores.Stores.send_if.Invariants.{sent_block}
use Rattle.blocks.proofs.stores.Stores.send_if.Goals as goal

pub returns-then-not-send : goal.returns-then-not-send
returns-then-not-send c = record {
  blocks_after = sym (unless _ _ c.if-not-send.true);
  copies_after = refl;
  held_after = refl;
  dirty_after = refl;
}

pub loop-b-init : goal.loop-b-init
loop-b-init c = (stored_none, refl, refl, refl)

pub loop-b-preserved : goal.loop-b-preserved
loop-b-preserved c =
    let a = c.args in
    let came = a.self.now in
    let turn = c.loop-b in
    let h = turn.invariant in
    let value = sent_block a.base a.to came.dirty came.copies came.blocks in
    let unsent : get_or turn.self.blocks (a.to + turn.b) 0 ≡ get_or came.blocks (a.to + turn.b) 0 =
    ap (λ (l : List ℕ). get_or l (a.to + turn.b) 0) h.0.stores
    ∙ get_d_stored_other turn.b (λ k. a.to + k) value came.blocks 0 (a.to + turn.b) (λ k below. omega arith) in (
      stored_more h.0 c.loop-b-test.true
          (c.either.ensures
          ∙ (rw (unsent, h.1, h.3))),
      h.1,
      h.2,
      h.3,
    )

pub returns : goal.returns
returns c =
    let h = c.loop-b.invariant in
    record {
      blocks_after = stored_all h.0 c.loop-b-test.false ∙ sym (when _ _ c.if-not-send.false);
      copies_after = h.1;
      held_after = h.2;
      dirty_after = h.3;
    }

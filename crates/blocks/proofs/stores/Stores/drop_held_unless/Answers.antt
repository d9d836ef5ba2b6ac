-- `drop_held_unless` meets its contract: after b turns b copies are dropped. Assumes nothing.
use Rattle.std.proofs.Common.{refl, sym, ◌∙◌}
use Rattle.sizes.proofs.Choosing.{when, unless}
use Rattle.decision.proofs.Storing.{stored_none, stored_more, stored_all}
use Rattle.blocks.proofs.stores.Stores.drop_held_unless.Goals as goal

pub returns-then-keep : goal.returns-then-keep
returns-then-keep c = record {
  blocks_after = refl;
  copies_after = sym (when _ _ c.if-keep.true);
  held_after = sym (when _ _ c.if-keep.true);
  dirty_after = refl;
}

pub loop-b-init : goal.loop-b-init
loop-b-init c = (stored_none, stored_none, refl, refl)

pub loop-b-preserved : goal.loop-b-preserved
loop-b-preserved c =
    let h = c.loop-b.invariant in
    (stored_more h.0 c.loop-b-test.true refl, stored_more h.1 c.loop-b-test.true refl, h.2, h.3)

pub returns : goal.returns
returns c =
    let h = c.loop-b.invariant in
    let dropped = c.if-keep.false in
    record {
      blocks_after = h.2;
      copies_after = stored_all h.0 c.loop-b-test.false ∙ sym (unless _ _ dropped);
      held_after = stored_all h.1 c.loop-b-test.false ∙ sym (unless _ _ dropped);
      dirty_after = h.3;
    }

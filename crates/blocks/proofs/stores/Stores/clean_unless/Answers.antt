-- `clean_unless` meets its contract: after b turns b of the flags are taken away. Assumes nothing.
use Rattle.std.proofs.Common.{refl, sym, ◌∙◌}
use Rattle.sizes.proofs.Choosing.{when, unless}
use Rattle.decision.proofs.Storing.{stored_none, stored_more, stored_all}
use Rattle.blocks.proofs.stores.Stores.clean_unless.Goals as goal

pub returns-then-keep : goal.returns-then-keep
returns-then-keep c = record {
  blocks_after = refl;
  copies_after = refl;
  held_after = refl;
  dirty_after = sym (when _ _ c.if-keep.true);
}

pub loop-b-init : goal.loop-b-init
loop-b-init c = (stored_none, refl, refl, refl)

pub loop-b-preserved : goal.loop-b-preserved
loop-b-preserved c =
    let h = c.loop-b.invariant in
    (stored_more h.0 c.loop-b-test.true refl, h.1, h.2, h.3)

pub returns : goal.returns
returns c =
    let h = c.loop-b.invariant in
    record {
      blocks_after = h.1;
      copies_after = h.2;
      held_after = h.3;
      dirty_after = stored_all h.0 c.loop-b-test.false ∙ sym (unless _ _ c.if-keep.false);
    }

-- `advance` meets its contract: the last turn writes the totals, any other counts what fills the buffer. Assumes
-- nothing.
use mathlib.Core.Path.{sym, ap, ◌∙◌}
use Rattle.telling.proofs.Parts.{last_move}
use Rattle.playing.specs.declared.session.Session.{Session}
use Rattle.playing.proofs.Ending.{turn_moved}
use Rattle.counting.specs.Lines.{counting, counted_held}
use Rattle.counting.specs.Session.{standing}
use Rattle.counting.proofs.session.advance.Goals as goal

pub returns-then-is_told : goal.returns-then-is_told
returns-then-is_told c =
    let a = c.args in
    let now = a.counted.now in
    let held = now.service in
    let closing = c.close.ensures in
    record {
      moves =
          last_move (counting a.session.settable) (standing a.session held.table held.flags held.stores now.totals)
          a.got a.buffer.now a.out.now _ _ (sym c.is_told.ensures ∙ c.if-is_told.true) closing.moved closing.out_after
          closing.written_in_bounds;
      same = closing.settable_value;
    }

pub returns : goal.returns
returns c =
    let a = c.args in
    let after = c.count_turn-turn.new.counted in
    let held = after.service in
    let fill = c.fill-filled in
    let goes_on = c.after_turn.ensures in
    record {
      moves =
          turn_moved (counting a.session.settable) (λ z. counted_held z held.table held.flags held.stores after.totals)
          a.session a.out.now c.after_turn.result _ a.got a.buffer.now _ _ _ _ _ _ fill.ensures.buffer_after
          fill.ensures.value (sym c.is_told.ensures ∙ c.if-is_told.false) c.over_after-over.ensures
          (c.count_turn-turn.ensures.turns a.out.now) goes_on.session goes_on.written;
      same = ap (λ (σ : Session). σ.settable) goes_on.session;
    }

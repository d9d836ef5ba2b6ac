-- `advance` meets its contract: the last turn writes the picture, any other explains what fills the buffer. Assumes
-- nothing.
use mathlib.Core.Path.{sym, ap, ◌∙◌}
use Rattle.telling.proofs.Parts.{last_move}
use Rattle.playing.specs.declared.session.Session.{Session}
use Rattle.playing.proofs.Ending.{turn_moved}
use Rattle.explaining.specs.Lines.{explaining, state_held}
use Rattle.explaining.specs.Session.{standing}
use Rattle.explaining.proofs.session.advance.Goals as goal

pub returns-then-is_told : goal.returns-then-is_told
returns-then-is_told c =
    let a = c.args in
    let now = a.noted.now in
    let held = now.service in
    let closing = c.close.ensures in
    record {
      moves =
          last_move (explaining a.session.settable)
          (standing a.session held.table held.flags held.stores now.ledger now.refusals) a.got a.buffer.now a.out.now _ _
          (sym c.is_told.ensures ∙ c.if-is_told.true) closing.moved closing.out_after closing.written_in_bounds;
      same = closing.settable_value;
    }

pub returns : goal.returns
returns c =
    let a = c.args in
    let after = c.explain_turn-turn.new.noted in
    let held = after.service in
    let fill = c.fill-filled in
    let goes_on = c.after_turn.ensures in
    record {
      moves =
          turn_moved (explaining a.session.settable)
          (λ z. state_held z held.table held.flags held.stores after.ledger after.refusals) a.session a.out.now
          c.after_turn.result _ a.got a.buffer.now _ _ _ _ _ _ fill.ensures.buffer_after fill.ensures.value
          (sym c.is_told.ensures ∙ c.if-is_told.false) c.over_after-over.ensures c.explain_turn-turn.ensures.turns
          goes_on.session goes_on.written;
      same = ap (λ (σ : Session). σ.settable) goes_on.session;
    }

-- `advance` meets its contract: the last turn writes the summary, any other plays what fills the buffer. Assumes
-- nothing.
use mathlib.Core.Path.{sym, ap, ◌∙◌}
use Rattle.service.specs.Lent.{service_held}
use Rattle.telling.proofs.Parts.{last_move}
use Rattle.playing.specs.declared.session.Session.{Session}
use Rattle.playing.specs.Lines.{playing}
use Rattle.playing.specs.Session.{standing}
use Rattle.playing.proofs.Ending.{turn_moved}
use Rattle.playing.proofs.session.Session.advance.Goals as goal

pub returns-then-is_told : goal.returns-then-is_told
returns-then-is_told c =
    let a = c.args in
    let held = a.service.now in
    let closing = c.close.ensures in
    record {
      moves =
          last_move (playing a.self.settable) (standing a.self held.table held.flags held.stores) a.got a.buffer.now
          a.out.now _ _ (sym c.is_told.ensures ∙ c.if-is_told.true) closing.moved closing.out_after
          closing.written_in_bounds;
      same = closing.settable_value;
    }

pub returns : goal.returns
returns c =
    let a = c.args in
    let after = c.play_turn-turn.new.service in
    let fill = c.fill-filled in
    let goes_on = c.after_turn.ensures in
    record {
      moves =
          turn_moved (playing a.self.settable) (λ z. service_held z after.table after.flags after.stores) a.self a.out.now
          c.after_turn.result _ a.got a.buffer.now _ _ _ _ _ _ fill.ensures.buffer_after fill.ensures.value
          (sym c.is_told.ensures ∙ c.if-is_told.false) c.over_after-over.ensures c.play_turn-turn.ensures.turns
          goes_on.session goes_on.written;
      same = ap (λ (σ : Session). σ.settable) goes_on.session;
    }

-- `play_turn` meets its contract: the lines are played, and the turn ends. Assumes nothing.
use Rattle.service.specs.Lent.{service_held}
use Rattle.playing.proofs.Ending.{told_inside, turn_ended_there}
use Rattle.playing.proofs.turn.play_turn.Goals as goal

pub end_turn-requires-clause-used_in_bounds : goal.end_turn-requires-clause-used_in_bounds
end_turn-requires-clause-used_in_bounds c =
    let after = c.play_lines-progress.new.service in
    told_inside _ (λ z. service_held z after.table after.flags after.stores) _ _ _ _ _ _ _ _ c.min-n.ensures
    c.play_lines-progress.ensures.tells

pub returns : goal.returns
returns c =
    let after = c.play_lines-progress.new.service in
    let lines = c.play_lines-progress.ensures in
    let ended = c.end_turn.ensures in
    record {
      turns =
          turn_ended_there _ (λ z. service_held z after.table after.flags after.stores) _ _ _ _ _ _ _ _ c.min-n.ensures
          lines.tells _ _ ended.value ended.buffer_after;
    }

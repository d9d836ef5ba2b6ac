-- `explain_turn` meets its contract: the lines are explained, and the turn ends. Assumes nothing.
use Rattle.playing.proofs.Ending.{told_inside, turn_ended_there}
use Rattle.explaining.specs.Lines.{state_held}
use Rattle.explaining.proofs.turn.explain_turn.Goals as goal

pub end_turn-requires-clause-used_in_bounds : goal.end_turn-requires-clause-used_in_bounds
end_turn-requires-clause-used_in_bounds c =
    let after = c.explain_lines-progress.new.noted in
    let held = after.service in
    told_inside _ (λ z. state_held z held.table held.flags held.stores after.ledger after.refusals) _ _ _ _ _ _ _ _
    c.min-n.ensures c.explain_lines-progress.ensures.tells

pub returns : goal.returns
returns c =
    let after = c.explain_lines-progress.new.noted in
    let held = after.service in
    let ended = c.end_turn.ensures in
    record {
      turns =
          turn_ended_there _ (λ z. state_held z held.table held.flags held.stores after.ledger after.refusals) _ _ _ _ _ _ _
          _ c.min-n.ensures c.explain_lines-progress.ensures.tells _ _ ended.value ended.buffer_after;
    }

-- `count_turn` meets its contract: the lines are counted, and the turn ends. Assumes nothing.
use mathlib.Core.List.{[]}
use native.Mathlib.Omega.{arith}
use Rattle.playing.proofs.Ending.{told_inside, turn_ended}
use Rattle.counting.specs.Lines.{counted_held}
use Rattle.counting.proofs.Counting.{still_can}
use Rattle.counting.proofs.turn.count_turn.Goals as goal

pub end_turn-requires-clause-used_in_bounds : goal.end_turn-requires-clause-used_in_bounds
end_turn-requires-clause-used_in_bounds c =
    let after = c.count_lines-progress.new.counted in
    let held = after.service in
    let inside =
    told_inside _ (λ z. counted_held z held.table held.flags held.stores after.totals) _ _ _ _ _ _ _ _ c.min-n.ensures
    (c.count_lines-progress.ensures.tells []) in
    omega (arith, inside)

pub returns : goal.returns
returns c =
    let after = c.count_lines-progress.new.counted in
    let held = after.service in
    let lines = c.count_lines-progress in
    let ended = c.end_turn.ensures in
    record {
      turns = λ out.
          turn_ended _ (λ z. counted_held z held.table held.flags held.stores after.totals) _ _ _ _ _ _ _ _ c.min-n.ensures
          (lines.ensures.tells out) 0 _ _
          (still_can out lines.result.written lines.result.number (lines.ensures.tells []).fits)
          ended.value ended.buffer_after;
    }

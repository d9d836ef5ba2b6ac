-- `explain_line` meets its contract: the step is taken, and told with what was seen before it. Assumes nothing.
use mathlib.Core.Path.{refl}
use Rattle.explaining.proofs.Wholes.{stored_long}
use Rattle.explaining.proofs.Explaining.{step_told_lem}
use Rattle.explaining.proofs.lines.explain_line.Goals as goal

pub returns-clause-tells_line : goal.returns-clause-tells_line
returns-clause-tells_line c =
    let a = c.args in
    let noted = a.noted.now in
    let held = noted.service in
    let kept = c.keep_in.ensures in
    let seen = c.look-seen in
    let told = c.tell_step in
    step_told_lem a.fresh a.given a.force c.requires.force_value a.line a.step c.asked-named.result c.asked-named.ensures
    held.table held.flags _ a.words.now _ _ _ _ _ c.take_step-said.ensures kept.table_len noted.ledger _ _
    c.requires.before_len kept.kept seen.result seen.ensures.caching_value seen.ensures.told_value
    seen.ensures.holds_value noted.refusals a.out.now a.at _ _ _ told.result told.ensures.wrote_if_room
    told.ensures.upper_bound told.ensures.since_after told.ensures.refusals_after

pub returns-clause-before_len_unchanged : goal.returns-clause-before_len_unchanged
returns-clause-before_len_unchanged c = stored_long _ _ _ _ _ _ c.keep_in.ensures.kept refl

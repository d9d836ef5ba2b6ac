-- `explain_first` meets its contract: a first line that chooses the sizes is told by what it sets, and no other is. Assumes
-- nothing.
use mathlib.Core.Path.{sym, ap, ◌∙◌}
use lib.ListN.{length}
use mathlib.Core.Bool.{not}
use Rattle.sizes.proofs.Choosing.{when}
use Rattle.telling.proofs.Reaching.{line_bytes}
use Rattle.telling.proofs.LineByLine.{from_1, none_yet}
use Rattle.sentences.specs.Explained.{explained_room}
use Rattle.playing.proofs.FirstLines.{none_later, left_alone, can-be-told, is-first, first_read, first-sets}
use Rattle.explaining.specs.Lines.{explaining, state_held}
use Rattle.explaining.proofs.Explaining.{line_told}
use Rattle.explaining.proofs.lines.explain_first.Goals as goal
use Rattle.std.proofs.Common.{None}

pub returns-then-not-chooses-can_tell : goal.returns-then-not-chooses-can_tell
returns-then-not-chooses-can_tell c =
    let a = c.args in
    λ l.
    let came =
    state_held a.sizes a.service.now.table a.service.now.flags a.service.now.stores l a.refusals.now in
    record {
      reached = none_yet (explaining a.fresh) came a.first a.input.now a.out.now;
      chosen =
          left_alone a.fresh a.first a.input.now c.read_first_setting-line.result c.read_first_setting-line.ensures
          c.is_set.result c.can_tell.result c.is_set.ensures explained_room (length a.out.now) c.can_tell.ensures
          (ap not c.if-not-chooses-can_tell.true);
    }

pub returns : goal.returns
returns c =
    let a = c.args in
    let room = length a.out.now in
    let read = c.read_first_setting-line in
    let line = read.result in
    let set = c.is_set in
    let asked = c.can_tell in
    let left = ap not c.if-not-chooses-can_tell.false in
    let can =
    can-be-told a.fresh a.first a.input.now line read.ensures set.result asked.result set.ensures explained_room room asked.ensures left in
    let is =
    first-sets a.fresh a.first a.input.now line read.ensures set.result asked.result set.ensures explained_room room asked.ensures left
    ∙ sym (when _ _ (is-first a.fresh a.first a.input.now line read.ensures set.result asked.result set.ensures explained_room room asked.ensures left)) in
    λ l.
    let came =
    state_held a.sizes a.service.now.table a.service.now.flags a.service.now.stores l a.refusals.now in
    record {
      reached =
          line_told a.fresh came a.first a.input.now a.out.now came a.first 0 0 a.out.now None line.next _
          c.tell_setting-set.result.to _
          (none_yet (explaining a.fresh) came a.first a.input.now a.out.now)
          (first_read a.fresh a.first a.input.now line read.ensures set.result asked.result set.ensures explained_room room asked.ensures left)
          can
          (c.tell_setting-set.ensures.tells_line a.fresh l (line_bytes a.input.now 0 line.next) is);
      chosen = none_later a.fresh a.first _ _ (from_1 explained_room room 0 a.first can);
    }

-- `play_first` meets its contract: a first line that chooses the sizes is played by what it sets, and no other is. Assumes
-- nothing.
use mathlib.Core.Path.{ap}
use mathlib.Core.Bool.{not}
use native.Mathlib.Omega.{arith}
use lib.ListN.{length}
use Rattle.service.specs.Lent.{service_held}
use Rattle.stepfile.specs.Played.{set_outcome}
use Rattle.writer.specs.Buffer.{line_room}
use Rattle.telling.proofs.Reaching.{line_bytes}
use Rattle.telling.proofs.LineByLine.{from_1, none_yet}
use Rattle.playing.specs.Lines.{playing}
use Rattle.playing.proofs.FirstLines.{none_later, left_alone, can-be-told, is-first, first_read, first-sets}
use Rattle.playing.proofs.Playing.{set_outcome_lem, line_played}
use Rattle.playing.proofs.lines.play_first.Goals as goal
use Rattle.std.proofs.Common.{None}

pub returns-then-not-chooses-can_tell : goal.returns-then-not-chooses-can_tell
returns-then-not-chooses-can_tell c =
    let a = c.args in
    let came = service_held a.sizes a.service.now.table a.service.now.flags a.service.now.stores in
    record {
      reached = none_yet (playing a.settable) came a.first a.input.now a.out.now;
      chosen =
          left_alone a.settable a.first a.input.now c.read_first_setting-line.result c.read_first_setting-line.ensures
          c.is_set.result c.can_tell.result c.is_set.ensures line_room (length a.out.now) c.can_tell.ensures
          (ap not c.if-not-chooses-can_tell.true);
    }

pub returns : goal.returns
returns c =
    let a = c.args in
    let came = service_held a.sizes a.service.now.table a.service.now.flags a.service.now.stores in
    let room = length a.out.now in
    let read = c.read_first_setting-line in
    let line = read.result in
    let set = c.is_set in
    let asked = c.can_tell in
    let left = ap not c.if-not-chooses-can_tell.false in
    let can = can-be-told a.settable a.first a.input.now line read.ensures set.result asked.result set.ensures line_room room asked.ensures left in
    let outcome =
    set_outcome_lem a.settable came a.first (line_bytes a.input.now 0 line.next) line.setting
    (is-first a.settable a.first a.input.now line read.ensures set.result asked.result set.ensures line_room room asked.ensures left)
    (first-sets a.settable a.first a.input.now line read.ensures set.result asked.result set.ensures line_room room asked.ensures left) in
    record {
      reached =
          line_played a.settable came a.first a.input.now a.out.now came a.first 0 0 a.out.now None line.next
          (set_outcome came line.setting)
          _ c.write_setting.result _
          (none_yet (playing a.settable) came a.first a.input.now a.out.now)
          (first_read a.settable a.first a.input.now line read.ensures set.result asked.result set.ensures line_room room asked.ensures left)
          can
          outcome
          c.choose_sizes-chosen.ensures
          (c.write_setting.ensures.wrote_if_room came)
          (omega (arith, c.write_setting.ensures.upper_bound));
      chosen = none_later a.settable a.first _ _ (from_1 line_room room 0 a.first can);
    }

-- `count_first` meets its contract: a first line that chooses the sizes is taken by what it sets, and no other is. Assumes
-- nothing.
use Prim.Native.Nat.{ℕ}
use mathlib.Core.Path.{ap, ◌∙◌}
use mathlib.Core.Bool.{not}
use mathlib.Core.List.{List}
use Rattle.service.specs.declared.service.Service.{Service}
use Rattle.service.specs.declared.outcome.Outcome.{Outcome}
use Rattle.service.specs.Lent.{service_held}
use Rattle.telling.proofs.Reaching.{line_bytes}
use Rattle.telling.proofs.LineByLine.{from_1, none_yet}
use Rattle.counting.specs.Lines.{Counted, counting}
use Rattle.playing.proofs.FirstLines.{none_later, left_alone, can-be-told, is-first, first_read, first-sets}
use Rattle.playing.proofs.Playing.{set_outcome_lem}
use Rattle.counting.proofs.Counting.{line_counted, none_counted}
use Rattle.counting.proofs.lines.count_first.Goals as goal
use Rattle.std.proofs.Common.{None}

-- a service, with any totals beside it
abbrev beside : Service → List ℕ → Counted
beside s totals = record { service = s; totals = totals }

pub returns-then-not-chooses-can_tell : goal.returns-then-not-chooses-can_tell
returns-then-not-chooses-can_tell c =
    let a = c.args in
    let came = service_held a.sizes a.service.now.table a.service.now.flags a.service.now.stores in
    record {
      reached = λ totals out. none_yet (counting a.settable) (beside came totals) a.first a.input.now out;
      chosen =
          left_alone a.settable a.first a.input.now c.read_first_setting-line.result c.read_first_setting-line.ensures
          c.is_set.result c.can_tell.result c.is_set.ensures 0 0 c.can_tell.ensures
          (ap not c.if-not-chooses-can_tell.true);
    }

pub returns : goal.returns
returns c =
    let a = c.args in
    let came = service_held a.sizes a.service.now.table a.service.now.flags a.service.now.stores in
    let read = c.read_first_setting-line in
    let line = read.result in
    let set = c.is_set in
    let asked = c.can_tell in
    let left = ap not c.if-not-chooses-can_tell.false in
    let can = can-be-told a.settable a.first a.input.now line read.ensures set.result asked.result set.ensures 0 0 asked.ensures left in
    let outcome =
    set_outcome_lem a.settable came a.first (line_bytes a.input.now 0 line.next) line.setting
    (is-first a.settable a.first a.input.now line read.ensures set.result asked.result set.ensures 0 0 asked.ensures left)
    (first-sets a.settable a.first a.input.now line read.ensures set.result asked.result set.ensures 0 0 asked.ensures left) in
    record {
      reached = λ totals out.
          line_counted a.settable (beside came totals) a.first a.input.now out out (beside came totals) a.first 0 None line.next _
          (none_yet (counting a.settable) (beside came totals) a.first a.input.now out)
          (first_read a.settable a.first a.input.now line read.ensures set.result asked.result set.ensures 0 0 asked.ensures left)
          can
          (none_counted a.settable (beside came totals) a.first _ _
          (c.choose_sizes-chosen.ensures ∙ ap (λ (o : Outcome). o.service) outcome));
      chosen = none_later a.settable a.first _ _ (from_1 0 0 0 a.first can);
    }

-- `sizes_from` meets its contract: nothing may follow the numbers. Assumes nothing.
use mathlib.Core.Path.{sym, ◌∙◌}
use Rattle.reader.proofs.Settings.{more-follows}
use Rattle.reader.proofs.setting.sizes_from.Goals as goal

pub returns-then-sizes-s : goal.returns-then-sizes-s
returns-then-sizes-s c =
    more-follows c.args.s.now c.args.at _ _ c.sizes_at.ensures (sym c.ok_or.ensures.value ∙ c.in_ok-sizes.was) c.if-sizes-s.true

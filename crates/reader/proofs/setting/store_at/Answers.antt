-- `store_at` meets its contract: the largest store at the end of the bytes, and a number before it. Assumes nothing.
use mathlib.Core.Path.{◌∙◌}
use Rattle.reader.proofs.Settings.{store_given}
use Rattle.reader.proofs.setting.store_at.Goals as goal

pub returns : goal.returns
returns c = store_given c.args.s.now c.args.at c.if-s-at.false ∙ c.argument_at.ensures

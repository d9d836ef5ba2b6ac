-- `read_setting` meets its contract: the word, then the numbers. Assumes nothing.
use mathlib.Core.Path.{sym, ◌∙◌}
use Rattle.sizes.proofs.Choosing.{when, unless}
use Rattle.stepfile.specs.Setting.{setting_of}
use Rattle.reader.proofs.setting.read_setting.Goals as goal

pub returns-then-begins_with_set : goal.returns-then-begins_with_set
unfolding setting_of
returns-then-begins_with_set c = c.sizes_from.ensures ∙ sym (when _ _ (sym c.if-begins_with_set.ensures))

pub returns-else-begins_with_set : goal.returns-else-begins_with_set
unfolding setting_of
returns-else-begins_with_set c = sym (unless _ _ (sym c.if-begins_with_set.ensures))

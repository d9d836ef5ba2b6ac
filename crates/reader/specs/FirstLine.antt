-- "chosen when the service starts, by a first line SET": what the first line of an input sets.
use Rattle.std.specs.Prelude.{ℕ, ◌+◌, Bool, true, false, List, length, Ok, Err}
use Rattle.stepfile.specs.declared.setting.NoSizes.TheVariants.{OutOfRange, Missing}
use Rattle.stepfile.specs.Grammar.{Reading, found, nothing}
use Rattle.stepfile.specs.Input.{first_line}
use Rattle.stepfile.specs.Setting.{setting_of, Setting}
use Rattle.reader.specs.declared.setting.FirstSetting.{FirstSetting}

-- whether a line is a settings line, in range or not
abbrev pub is_set : Setting → Bool
is_set (Ok z) = true
is_set (Err OutOfRange) = true
is_set (Err Missing) = false

-- what it sets, and the offset past its LF; an input without a whole line sets nothing
abbrev pub setting_in : Reading (List ℕ) → FirstSetting
setting_in (found l r) = record { setting = setting_of l; next = length l + 1 }
setting_in nothing = record { setting = (Err Missing); next = 0 }

abbrev pub first_setting : List ℕ → FirstSetting
first_setting input = setting_in (first_line input)

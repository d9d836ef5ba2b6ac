-- The copy check: whether a client that is granted permission keeps its cached copy.
use Rattle.std.specs.Prelude.{Bool, ◌&&◌, ◌||◌}
use Rattle.records.specs.declared.record.Mode.{Mode}
use Rattle.records.specs.declared.version.Version.{Version}
use Rattle.records.specs.Record.{is_write}
use Rattle.records.specs.Version.{same_version, previous_version}

-- "the copy is kept when its label equals the latest version, or for a write open the previous one"
abbrev pub keeps_copy : Mode → Version → Version → Bool
keeps_copy mode label latest = same_version label latest || (is_write mode && same_version label (previous_version latest))

-- "A version of 32 bits (1 at the start)"; 0 labels no copy. "Version numbers are never compared with counts or block
-- values": these functions alone make, read and compare one.
use Rattle.std.specs.Prelude.{ℕ, ◌+◌, ◌-◌, Bool, cond, ◌&&◌, eqb, leb}
use Rattle.records.specs.declared.version.Version.{Version}
use Rattle.records.specs.declared.record.Mode.{Mode}
use Rattle.records.specs.declared.record.Mode.TheVariants.{Read, Write}

abbrev pub version_of : ℕ → Version
version_of n = record { 0 = n }

abbrev pub number_of : Version → ℕ
number_of v = v.0

-- "label: the version of its copy, 0 for no copy"
abbrev pub no_version : Version
no_version = version_of 0

-- "1 at the start"
abbrev pub first_version : Version
first_version = version_of 1

abbrev pub same_version : Version → Version → Bool
same_version v w = eqb (number_of v) (number_of w)

-- "0 for no copy"
abbrev pub is_no_version : Version → Bool
is_no_version v = same_version v no_version

-- "at version 1"
abbrev pub is_first_version : Version → Bool
is_first_version v = same_version v first_version

-- "the label isn't above the latest and latest less label is at most .." (document 02, Wish 3)
abbrev pub lags_at_most : ℕ → Version → Version → Bool
lags_at_most most label latest = leb (number_of label) (number_of latest) && leb (number_of latest - number_of label) most

-- "The version is 4,294,967,295"
abbrev pub is_last_version : Version → Bool
is_last_version v = eqb (number_of v) 4294967295

-- "a version of 0 [reads] as 1"
abbrev pub as_read : Version → Version
as_read v = cond (is_no_version v) first_version v

-- "the version rises by 1"; "a grant that would pass the limit of .. 14 leaves that number"
abbrev pub next_version : Version → Version
next_version v = cond (is_last_version v) v (version_of (number_of v + 1))

-- "previous (latest less 1)"
abbrev pub previous_version : Version → Version
previous_version v = version_of (number_of v - 1)

-- "For write, the version rises by 1": the latest version, once an open in this mode is granted at the stored version
-- v
abbrev pub latest_at : Mode → Version → Version
latest_at Read v = as_read v
latest_at Write v = next_version (as_read v)

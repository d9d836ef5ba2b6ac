-- What the words of the lent table mean. Every number means something.
use Rattle.std.specs.Prelude.{ℕ, zero, suc, ◌/◌, ◌%◌, ◌≡◌, cond, List, [], ◌∷◌, eqb}
use Rattle.records.specs.declared.record.Mode.{Mode}
use Rattle.records.specs.declared.record.Mode.TheVariants.{Read, Write}
use Rattle.records.specs.declared.record.ClientRecord.{ClientRecord}
use Rattle.records.specs.declared.version.Version.{Version}
use Rattle.records.specs.Version.{version_of}
use Rattle.sizes.specs.Sizes.{max_clients}
use Rattle.protocol.specs.declared.client.ClientFile.{ClientFile}

-- the digit to base 256 that stands at this scale
abbrev pub digit : ℕ → ℕ → ℕ
digit scale w = w / scale % 256

-- a record: readers, writers, and whether it may cache
abbrev pub record_held : ℕ → ClientRecord
record_held w = record { readers = w % 256; writers = digit 256 w; caching = eqb (digit 65536 w) 1 }

-- a side: its record, its mark and its label
abbrev pub side_held : ℕ → ClientFile
side_held w =
    record {
      opens = record_held w;
      marked = eqb (digit 16777216 w) 1;
      label = version_of (w / 4294967296);
    }

-- the head of an entry: the version, the last writer, the waiter and its mode
abbrev pub version_held : ℕ → Version
version_held w = version_of (w % 4294967296)

abbrev pub last_held : ℕ → ℕ
last_held w = digit 4294967296 w

abbrev pub waiter_held : ℕ → ℕ
waiter_held w = digit 1099511627776 w

abbrev pub mode_held : ℕ → Mode
mode_held w = cond (eqb (w / 281474976710656) 0) Read Write

pub record Head (w : ℕ) (v : Version) (l i : ℕ) (m : Mode) : Type 0 where
  pub version : version_held w ≡ v
  pub last : last_held w ≡ l
  pub waiter : waiter_held w ≡ i
  pub mode : mode_held w ≡ m

-- the n low digits of a number, the lowest first
unfoldable pub digits : ℕ → ℕ → List ℕ
digits zero w = []
digits (suc n) w = w % 256 ∷ digits n (w / 256)

-- the callbacks that are out: a digit for each client
abbrev pub calls_held : ℕ → List ℕ
calls_held w = digits max_clients w

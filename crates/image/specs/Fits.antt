-- What a service has that a program holds. `write_image` ensures it of the service that it is given, whatever that is:
-- so no statement on images has to presume it of a written service.
use Rattle.std.specs.Prelude.{ℕ, ◌<◌, ◌≡◌, length}
use Rattle.records.specs.Version.{number_of}
use Rattle.sizes.specs.Sizes.{max_clients, max_files, max_blocks, max_places}
use Rattle.protocol.specs.Entry.{record_at}
use Rattle.service.specs.declared.service.Service.{Service}
use Rattle.service.specs.Contents.{table_in, entry_at, block_at}

-- Of what the image looks at: each list has the length of its array, and each number fits its field. So it is in every
-- service that a program holds, hand-made ones included (`held_fits`, proofs/HeldFits.antt).
pub record Fits (s : Service) : Type 0 where
  pub entries : length (table_in s).files ≡ max_files
  pub places : length s.server.blocks ≡ max_places
  pub used : length s.server.used ≡ max_places
  pub embargoes : length (table_in s).embargoed ≡ max_clients
  pub records : (f : ℕ) → f < max_files → length (entry_at s f).records ≡ max_clients
  pub version : (f : ℕ) → f < max_files → number_of (entry_at s f).version < 4294967296
  pub last : (f : ℕ) → f < max_files → (entry_at s f).last < 256
  pub readers : (f i : ℕ) → f < max_files → i < max_clients → (record_at (entry_at s f) i).readers < 256
  pub writers : (f i : ℕ) → f < max_files → i < max_clients → (record_at (entry_at s f) i).writers < 256
  pub block : (f b : ℕ) → f < max_files → b < max_blocks → block_at s f b < 18446744073709551616

-- What happens to a service: a step, a batch of opens, the reading of an image, or the move of the share to a standby
-- machine. A new kind of member is a line in each definition of this file.
use Rattle.std.specs.Prelude.{ℕ, ◌<◌, ◌≡◌, Bool, false, cond, List, [], ◌∷◌, length}
use Rattle.records.specs.Version.{as_read}
use Rattle.sizes.specs.Sizes.{max_clients, max_files, max_places}
use Rattle.protocol.specs.declared.step.Step.{Step}
use Rattle.protocol.specs.declared.step.Step.TheVariants.{Crash}
use Rattle.protocol.specs.Reply.{is_refused}
use Rattle.table.specs.TableStep.{entry_of}
use Rattle.service.specs.declared.service.Server.{Server}
use Rattle.service.specs.declared.service.Service.{Service}
use Rattle.service.specs.Contents.{sizes_of, entry_at, block_at, used_at, embargoed_at}
use Rattle.service.specs.Demand3.{after}
use Rattle.batch.specs.Batch.{Opening, opens_of, list_too_long, batch_of}
use Rattle.image.specs.Image.{image_of}
use Rattle.image.specs.Fits.{Fits}
use Rattle.restore.specs.Reading.{reading_of}

pub data Event : Type 0 where
  step : Step → Event
  -- the opens of a client, in one request
  batch : ℕ → List Opening → Event
  -- the server reads an image
  reading : List ℕ → Event
  -- "Between sessions the share moves to the standby machine": another server, whatever it holds, reads the image
  move : Server → List ℕ → Event

-- the clients with another server
abbrev pub served_by : Server → Service → Service
served_by v s =
    record {
      sizes = s.sizes;
      server = v;
      clients = s.clients;
      copies = s.copies;
      held = s.held;
      dirty = s.dirty;
    }

-- whether bytes are refused as an image
abbrev pub refuses_image : Service → List ℕ → Bool
refuses_image s bytes = is_refused (reading_of s bytes).reply

-- the service after it; a standby that refuses the image does not take the share
abbrev pub next : Service → Event → Service
next s (step x) = after s x
next s (batch i l) = (batch_of s i l).service
next s (reading bytes) = (reading_of s bytes).service
next s (move v bytes) = cond (refuses_image (served_by v s) bytes) s (reading_of (served_by v s) bytes).service

-- The steps that it counts as, in what is told of the past: "that of single opens in list order"; an image is read
-- "with the reading as a crash".
abbrev pub steps_of : Service → Event → List Step
steps_of s (step x) = x ∷ []
steps_of s (batch i l) = cond (list_too_long l).0 [] (opens_of i l)
steps_of s (reading bytes) = cond (refuses_image s bytes) [] (Crash ∷ [])
steps_of s (move v bytes) = cond (refuses_image (served_by v s) bytes) [] (Crash ∷ [])

-- "On the premise that the server's blocks and versions hadn't changed since the image": the bytes are the image of a
-- service, and the versions, as they are read, and blocks that the server has now are those of that service. So are
-- the embargoes: "Wish 2's premise covers them" (document 02, Wish 9), and which blocks are used: "Past the reading of an
-- image the sum holds on Wish 2's premise, used blocks unchanged too" (Wish 13). That it fits its fields is known of every
-- service that a program writes: `write_image` ensures it.
pub record Unchanged (s : Service) (bytes : List ℕ) : Type 0 where
  pub written : Service
  pub fits : Fits written
  pub sizes : sizes_of written ≡ sizes_of s
  pub image : image_of written ≡ bytes
  pub versions : (f : ℕ) → f < (sizes_of s).files → as_read (entry_at s f).version ≡ as_read (entry_at written f).version
  pub blocks : (f b : ℕ) → f < (sizes_of s).files → b < (sizes_of s).blocks → block_at s f b ≡ block_at written f b
  pub used : (f b : ℕ) → f < (sizes_of s).files → b < (sizes_of s).blocks → used_at s f b ≡ used_at written f b
  pub embargoes : (i : ℕ) → i < (sizes_of s).clients → embargoed_at s i ≡ embargoed_at written i

-- the arrays of a server have their lengths, as in every server that a program holds
pub record Whole (v : Server) : Type 0 where
  pub entries : length v.table.files ≡ max_files
  pub reports : length v.table.reported ≡ max_clients
  pub embargoes : length v.table.embargoed ≡ max_clients
  pub places : length v.blocks ≡ max_places
  pub flags : length v.used ≡ max_places
  pub records : (f : ℕ) → f < max_files → length (entry_of v.table.files f).records ≡ max_clients
  pub calls : (f : ℕ) → f < max_files → length (entry_of v.table.files f).calls ≡ max_clients

-- what is presumed of it: without it "neither reads nor table are promised"
abbrev pub Premise : Service → Event → Type 0
Premise s (step x) = Unit {0}
Premise s (batch i l) = Unit {0}
Premise s (reading bytes) = refuses_image s bytes ≡ false → Unchanged s bytes
Premise s (move v bytes) = Whole v × (refuses_image (served_by v s) bytes ≡ false → Unchanged s bytes)

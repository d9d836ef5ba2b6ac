-- What is promised of reading: it accepts exactly the bytes that writing gives for some service, and what was written
-- reads back. Proved by `exact` and `starts` (proofs/Exact.antt) and by `reads_back` (proofs/ReadsBack.antt).
use Rattle.std.specs.Prelude.{ℕ, ◌<◌, ◌≡◌, Bool, false, cond, List, [], ◌∷◌, ◌↔◌, length, get_or}
use Rattle.sizes.specs.declared.sizes.Sizes.{Sizes}
use Rattle.decision.specs.Lists.{first_of}
use Rattle.protocol.specs.Reply.{is_refused}
use Rattle.service.specs.declared.service.Service.{Service}
use Rattle.service.specs.declared.outcome.Outcome.{Outcome}
use Rattle.service.specs.Contents.{sizes_of, table_in}
use Rattle.service.specs.Fresh.{fresh}
use Rattle.image.specs.Image.{image_of}
use Rattle.image.specs.Fits.{Fits}
use Rattle.image.specs.Writing.{image_tests}
use Rattle.restore.specs.Reading.{reading_of, restored, sizes_in}

-- every number of the list is a byte
abbrev pub AreBytes : List ℕ → Type 0
AreBytes l = (k : ℕ) → get_or l k 0 < 256

-- "the bytes that writing gives for some service, hand-made ones included": a service of these sizes that a program can
-- hold, whose writing is accepted and gives the bytes
pub record Written (z : Sizes) (bytes : List ℕ) : Type 0 where
  pub service : Service
  pub fits : Fits service
  pub sizes : sizes_of service ≡ z
  pub accepted : first_of (image_tests service (length bytes)) ≡ 0
  pub image : image_of service ≡ bytes

-- "Reading accepts exactly the bytes that writing gives": `read_image` ensures it of whatever slice it is lent
abbrev pub AcceptsExactly : Service → List ℕ → Outcome → Type 0
AcceptsExactly s bytes o = (is_refused o.reply ≡ false) ↔ Written (sizes_of s) bytes

abbrev pub Exact : Type 0
Exact = (s : Service) (bytes : List ℕ) → AreBytes bytes → AcceptsExactly s bytes (reading_of s bytes)

-- Below, `Fits t` is met by every service that a program writes: `write_image` ensures it (crates/image/specs/Fits.antt).
-- An image is accepted by the fresh service of the sizes with which it begins: so a program can start.
abbrev pub Starts : Type 0
Starts = (t : Service) → Fits t → is_refused (reading_of (fresh (sizes_in (image_of t))) (image_of t)).reply ≡ false

-- the blocks as an image gives them back: those that are not used are 0
unfoldable pub used_values : List Bool → List ℕ → List ℕ
used_values [] blocks = []
used_values (t ∷ used) [] = []
used_values (t ∷ used) (v ∷ blocks) = cond t v 0 ∷ used_values used blocks

-- The image of t, read by any service s of the same sizes: the crash of s, with the versions, used blocks, blocks and
-- embargoes of t.
abbrev pub ReadsBack : Type 0
ReadsBack =
    (s t : Service)
    → Fits t
    → sizes_of t ≡ sizes_of s
    → reading_of s (image_of t)
    ≡ restored s (table_in t).files t.server.used (used_values t.server.used t.server.blocks)
    (table_in t).embargoed

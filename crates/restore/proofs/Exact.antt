-- Reading accepts exactly the bytes that writing gives for some service, and a program can start from them. Assumes
-- nothing.
use Prim.Native.Nat.{ℕ, zero, suc, ◌+◌, ◌*◌, ◌/◌, ◌%◌, ◌≤◌, ◌<◌}
use mathlib.Core.Path.{◌≡◌, refl, sym, ap, ◌∙◌, subst⁻¹}
use mathlib.Core.Bool.{Bool, true, false, cond}
use mathlib.Core.List.{List}
use native.Mathlib.Omega.{arith}
use lib.Dec.{ltb}
use lib.ListN.{length, get_or, replicate}
use borrow.Author.Tests.{le-ltb, le-leb}
use Rattle.records.specs.Version.{version_of, number_of}
use lib.Pointwise.{bytes_decides}
use Rattle.sizes.proofs.Choosing.{split, conflict, when, unless}
use Rattle.sizes.specs.declared.sizes.Sizes.{Sizes}
use Rattle.sizes.specs.Sizes.{max_clients, max_files, max_blocks, max_places, nobody, is_permitted, in_force, Permitted}
use Rattle.sizes.specs.Sizes.{place}
use Rattle.decision.specs.Lists.{count}
use Rattle.sizes.proofs.InForce.{in_force_permitted, file_fits, block_fits}
use Rattle.protocol.specs.declared.reply.Reply.TheVariants.{Refused, Done}
use Rattle.protocol.specs.Entry.{waits}
use Rattle.protocol.specs.Reply.{is_refused}
use Rattle.table.specs.TableStep.{entry_of, is_embargoed}
use Rattle.service.specs.declared.service.Service.{Service}
use Rattle.service.specs.declared.outcome.Outcome.{Outcome}
use Rattle.service.specs.Contents.{sizes_of, table_in, entry_at, block_at, used_at, embargoed_at}
use Rattle.service.specs.Fresh.{fresh}
use Rattle.image.specs.Bytes.{low}
use Rattle.image.specs.Image.{version_read, image_bytes, image_of}
use Rattle.image.specs.Fits.{Fits}
use Rattle.image.specs.Writing.{open_waiting}
use Rattle.restore.specs.Decoded.{number_at, decoded_files, decoded_used, decoded_blocks, decoded_embargoes}
use Rattle.restore.specs.Reading.{same_bytes, is_image, restored, reading_of, sizes_in}
use Rattle.restore.specs.Exact.{AreBytes, Written, AcceptsExactly, Exact, Starts, used_values}
use Rattle.restore.proofs.GivenBack.{version_given, used_given, block_given, embargo_given, same_again}
use Rattle.restore.proofs.Bounds.{GoodFiles, GoodBlocks, decoded_files_good, decoded_blocks_good}
use Rattle.restore.proofs.Bounds.{decoded_used_long, decoded_embargoes_long}

-- ---- what is written is accepted

module _ (t : Service) (fits : Fits t) where
  abbrev z : Sizes
  z = sizes_of t

  most : Permitted z
  most = in_force_permitted t.sizes

  versions : (f : ℕ) → f < z.files → number_of (entry_at t f).version < 4294967296
  versions f hf = fits.version f (file_fits most hf)

  values : (f b : ℕ) → f < z.files → b < z.blocks → block_at t f b < 18446744073709551616
  values f b hf hb = fits.block f b (file_fits most hf) (block_fits most hb)

  pub image_accepted : is_image z (image_of t) ≡ true
  unfolding is_image
  image_accepted =
      ap (same_bytes (image_of t))
      (same_again most (table_in t).files t.server.used t.server.blocks (table_in t).embargoed versions values)
      ∙ (bytes_decides (image_of t) (image_of t)).1 refl

  -- what the image gives back
  pub version_back :
      (f : ℕ) → f < z.files → (entry_of (decoded_files (image_of t)) f).version ≡ version_of (version_read (entry_at t f))
  version_back f hf =
      version_given most (table_in t).files t.server.used t.server.blocks (table_in t).embargoed versions values f hf

  pub used_back :
      (f b : ℕ) → f < z.files → b < z.blocks → get_or (decoded_used (image_of t)) (place f b) false ≡ used_at t f b
  used_back f b hf hb =
      used_given most (table_in t).files t.server.used t.server.blocks (table_in t).embargoed versions values f b hf hb

  pub block_back :
      (f b : ℕ)
      → f < z.files
      → b < z.blocks
      → get_or (decoded_blocks (image_of t)) (place f b) 0
      ≡ get_or (used_values t.server.used t.server.blocks) (place f b) 0
  block_back f b hf hb =
      block_given most (table_in t).files t.server.used t.server.blocks (table_in t).embargoed versions values f b hf hb

  pub embargo_back : (i : ℕ) → i < z.clients → is_embargoed (decoded_embargoes (image_of t)) i ≡ embargoed_at t i
  embargo_back i hi =
      embargo_given most (table_in t).files t.server.used t.server.blocks (table_in t).embargoed versions values i hi

-- ---- what is accepted was written for some service

-- the service that the bytes hold, of the sizes of s
abbrev decoded_service : Service → List ℕ → Service
decoded_service s bytes =
    record {
      sizes = s.sizes;
      server =
          record {
            table =
                record {
                  files = decoded_files bytes;
                  recovering = false;
                  reported = replicate max_clients false;
                  embargoed = decoded_embargoes bytes;
                };
            blocks = decoded_blocks bytes;
            used = decoded_used bytes;
            free = 0;
          };
      clients = (fresh s.sizes).clients;
      copies = (fresh s.sizes).copies;
      held = (fresh s.sizes).held;
      dirty = (fresh s.sizes).dirty;
    }

count_none : (n : ℕ) (p : ℕ → Bool) → ((k : ℕ) → k < n → p k ≡ false) → count n p ≡ 0
unfolding count
count_none zero p none = refl
count_none (suc n) p none = rw (count_none n p (λ k h. none k (omega arith)), none n (omega arith))

module _ (s : Service) (bytes : List ℕ) (are-bytes : AreBytes bytes) where
  abbrev t : Service
  t = decoded_service s bytes

  files_good : GoodFiles (decoded_files bytes)
  files_good = decoded_files_good bytes are-bytes

  blocks_good : GoodBlocks (decoded_blocks bytes)
  blocks_good = decoded_blocks_good bytes are-bytes

  decoded_fits : Fits t
  decoded_fits =
      record {
        entries = files_good.entries;
        places = blocks_good.places;
        used = decoded_used_long bytes;
        embargoes = decoded_embargoes_long bytes;
        records = λ f hf. (files_good.each f hf).records;
        version = λ f hf. (files_good.each f hf).version;
        last = λ f hf. (files_good.each f hf).last;
        readers = λ f i hf hi. (files_good.each f hf).readers i;
        writers = λ f i hf hi. (files_good.each f hf).writers i;
        block = λ f b hf hb. blocks_good.each (place f b);
      }

  none_waits_lem : open_waiting t ≡ 0
  none_waits_lem =
      let most = in_force_permitted s.sizes in
      count_none (sizes_of s).files (λ f. waits (sizes_of s).clients (entry_of (decoded_files bytes) f))
      (λ f hf.
      let few = most.clients in
      ap (λ w. ltb w (sizes_of s).clients) (files_good.each f (file_fits most hf)).waiter
      ∙ le-ltb nobody (sizes_of s).clients (omega arith))

  written_for : is_image (sizes_of s) bytes ≡ true → Written (sizes_of s) bytes
  unfolding is_image
  written_for accepted =
      let image : image_of t ≡ bytes = sym ((bytes_decides bytes (image_of t)).0 accepted) in
      let room : ltb (length bytes) (length (image_of t)) ≡ false =
      le-ltb (length bytes) (length (image_of t)) (rw image (omega arith)) in
      record {
        service = t;
        fits = decoded_fits;
        sizes = refl;
        accepted = rw (none_waits_lem, room);
        image = image;
      }

-- ---- both together

-- a reading is refused exactly where the bytes are no image
module _ (s : Service) (bytes : List ℕ) where
  reply_is : (reading_of s bytes).reply ≡ cond (is_image (sizes_of s) bytes) Done (Refused 17)
  unfolding reading_of
  reply_is = split (is_image (sizes_of s) bytes) (λ e. rw e) (λ e. rw e)

  pub not_refused : is_image (sizes_of s) bytes ≡ true → is_refused (reading_of s bytes).reply ≡ false
  not_refused e = ap is_refused (reply_is ∙ when _ _ e)

  pub is_image_lem : is_refused (reading_of s bytes).reply ≡ false → is_image (sizes_of s) bytes ≡ true
  is_image_lem e =
      split (is_image (sizes_of s) bytes) (λ t. t)
      (λ t. conflict (ap is_refused (reply_is ∙ unless _ _ t)) e)

  -- what is handed back
  pub taken :
      is_image (sizes_of s) bytes ≡ true
      → reading_of s bytes ≡ restored s (decoded_files bytes) (decoded_used bytes) (decoded_blocks bytes) (decoded_embargoes bytes)
  unfolding reading_of
  taken e = when _ _ e

  pub untouched : is_image (sizes_of s) bytes ≡ false → (reading_of s bytes).service ≡ s
  unfolding reading_of
  untouched e = ap (λ (o : Outcome). o.service) (unless _ _ e)

-- the bytes of a service of the same sizes
pub accepts :
    (s t : Service) (bytes : List ℕ)
    → Fits t
    → sizes_of t ≡ sizes_of s
    → image_of t ≡ bytes
    → is_image (sizes_of s) bytes ≡ true
accepts s t bytes fits sizes image = (λ k. is_image (sym sizes k) (sym image k)) ∙ image_accepted t fits

pub exact : Exact
exact s bytes are-bytes = (
  λ e. written_for s bytes are-bytes (is_image_lem s bytes e),
  λ w. not_refused s bytes (accepts s w.service bytes w.fits w.sizes w.image),
)

-- of an outcome that is the reading
pub exactly :
    (s : Service) (bytes : List ℕ) {o : Outcome} → AreBytes bytes → o ≡ reading_of s bytes → AcceptsExactly s bytes o
exactly s bytes are-bytes is = subst⁻¹ (AcceptsExactly s bytes) is (exact s bytes are-bytes)

-- sizes in force are permitted, and so in force themselves
permitted_is : (most size : ℕ) → 0 < size → size ≤ most → is_permitted most size ≡ true
permitted_is most size some fits = rw (le-leb 1 size some, le-leb size most fits)

in_force_again : (z : Sizes) → in_force (in_force z) ≡ in_force z
in_force_again z =
    let w = in_force z in
    let most = in_force_permitted z in
    let clients = when w.clients 8 (permitted_is max_clients w.clients most.some_client most.clients) in
    let files = when w.files 32 (permitted_is max_files w.files most.some_file most.files) in
    let blocks = when w.blocks 4 (permitted_is max_blocks w.blocks most.some_block most.blocks) in
    let store = when w.store max_places (le-leb w.store max_places most.store) in
    λ k. record { clients = clients k; files = files k; blocks = blocks k; store = store k }

-- an image begins with the sizes in force of the service that was written
sizes_told : (t : Service) → sizes_in (image_of t) ≡ sizes_of t
unfolding image_bytes low number_at
sizes_told t =
    let z = sizes_of t in
    let store : z.store % 256 + 256 * (z.store / 256 % 256 + 256 * 0) ≡ z.store =
    omega (arith, (in_force_permitted t.sizes).store) in
    λ k. record { clients = z.clients; files = z.files; blocks = z.blocks; store = store k }

pub starts : Starts
unfolding fresh
starts t fits =
    not_refused (fresh (sizes_in (image_of t))) (image_of t)
    (accepts (fresh (sizes_in (image_of t))) t (image_of t) fits
    (sym (ap in_force (sizes_told t) ∙ in_force_again t.sizes)) refl)

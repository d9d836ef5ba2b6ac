-- What was written reads back: reading the image of a service is a crash, with the versions, used blocks, blocks and
-- embargoes of that service. Assumes nothing.
use Prim.Native.Nat.{ℕ, zero, suc, ◌-◌, ◌<◌}
use mathlib.Core.Path.{◌≡◌, refl, sym, ap, ◌∙◌, subst⁻¹}
use mathlib.Core.Bool.{Bool, false}
use mathlib.Core.List.{List}
use native.Mathlib.Omega.{arith}
use lib.Dec.{eqb}
use lib.ListN.{get_or}
use Rattle.records.specs.declared.version.Version.{Version}
use Rattle.records.specs.Version.{number_of, as_read}
use Rattle.sizes.proofs.Choosing.{split}
use Rattle.sizes.specs.declared.sizes.Sizes.{Sizes}
use Rattle.sizes.specs.Sizes.{in_force, place}
use Rattle.decision.specs.Lists.{stored}
use Rattle.decision.proofs.Storing.{stored_agree}
use Rattle.protocol.specs.declared.entry.Entry.{Entry}
use Rattle.protocol.specs.declared.reply.Reply.TheVariants.{Done}
use Rattle.protocol.specs.declared.step.Step.TheVariants.{Crash}
use Rattle.protocol.specs.Reply.{no_calls, no_grants}
use Rattle.table.specs.TableStep.{entry_of, is_embargoed}
use Rattle.service.specs.declared.service.Service.{Service}
use Rattle.service.specs.Contents.{sizes_of, table_in}
use Rattle.service.specs.Space.{used_in, spaced}
use Rattle.service.specs.Step.{step_of, moved}
use Rattle.service.specs.Demand3.{after}
use Rattle.image.specs.Image.{image_of}
use Rattle.image.specs.Fits.{Fits}
use Rattle.restore.specs.Decoded.{decoded_files, decoded_used, decoded_blocks, decoded_embargoes}
use Rattle.restore.specs.Reading.{with_version, with_versions, with_places, with_blocks, with_used, with_embargoes}
use Rattle.restore.specs.Reading.{with_contents}
use Rattle.restore.specs.Exact.{used_values, ReadsBack}
use Rattle.restore.proofs.Exact.{version_back, used_back, block_back, embargo_back, taken, accepts}

-- a version that is read again
read_twice : (v : Version) → as_read (as_read v) ≡ as_read v
read_twice v = split (eqb (number_of v) 0) (λ t. rw t) (λ t. rw (t, t))

-- contents that are taken alike give the same service
module _
    (s : Service)
    (others entries : List Entry)
    (other_used used : List Bool)
    (other_blocks blocks : List ℕ)
    (other_embargoes embargoed : List Bool) where
  abbrev z : Sizes
  z = sizes_of s

  contents_alike :
      with_versions z.files others (table_in s).files ≡ with_versions z.files entries (table_in s).files
      → with_used z.files z.blocks other_used s.server.used
      ≡ with_used z.files z.blocks used s.server.used
      → with_blocks z.files z.blocks other_blocks s.server.blocks
      ≡ with_blocks z.files z.blocks blocks s.server.blocks
      → with_embargoes z.clients other_embargoes (table_in s).embargoed
      ≡ with_embargoes z.clients embargoed (table_in s).embargoed
      → with_contents s others other_used other_blocks other_embargoes ≡ with_contents s entries used blocks embargoed
  contents_alike versions marks values embargoes =
      λ k.
      record {
        sizes = s.sizes;
        server =
            record {
              table =
                  record {
                    files = versions k;
                    recovering = (table_in s).recovering;
                    reported = (table_in s).reported;
                    embargoed = embargoes k;
                  };
              blocks = values k;
              used = marks k;
              free = z.store - used_in z (marks k);
            };
        clients = s.clients;
        copies = s.copies;
        held = s.held;
        dirty = s.dirty;
      }

-- what agrees in its places is taken alike
places_alike {ℓ} :
    {A : Type ℓ} (d : A) (k n : ℕ) (others these l : List A)
    → ((f b : ℕ) → f < k → b < n → get_or others (place f b) d ≡ get_or these (place f b) d)
    → with_places d k n others l ≡ with_places d k n these l
unfolding with_places
places_alike d zero n others these l same = refl
places_alike d (suc k) n others these l same =
    stored_agree n (place k) (λ b. get_or others (place k b) d) (λ b. get_or these (place k b) d)
    (with_places d k n others l) (λ b hb. same k b (omega arith) hb)
    ∙ ap (stored n (place k) (λ b. get_or these (place k b) d))
    (places_alike d k n others these l (λ f b hf hb. same f b (omega arith) hb))

-- a crash keeps the sizes
pub crash_sizes : (s : Service) → (after s Crash).sizes ≡ s.sizes
unfolding step_of moved spaced
crash_sizes s = refl

-- the image of t, taken by a service s of the same sizes
module _ (s t : Service) (fits : Fits t) (sizes : sizes_of t ≡ sizes_of s) where
  abbrev bytes : List ℕ
  bytes = image_of t

  abbrev files : List Entry
  files = (table_in s).files

  abbrev held : List Bool
  held = (table_in s).embargoed

  file_below : (f : ℕ) → f < (sizes_of s).files → f < (sizes_of t).files
  file_below f hf = subst⁻¹ (λ (z : Sizes). f < z.files) sizes hf

  block_below : (b : ℕ) → b < (sizes_of s).blocks → b < (sizes_of t).blocks
  block_below b hb = subst⁻¹ (λ (z : Sizes). b < z.blocks) sizes hb

  client_below : (i : ℕ) → i < (sizes_of s).clients → i < (sizes_of t).clients
  client_below i hi = subst⁻¹ (λ (z : Sizes). i < z.clients) sizes hi

  image_taken :
      with_contents s (decoded_files bytes) (decoded_used bytes) (decoded_blocks bytes) (decoded_embargoes bytes)
      ≡ with_contents s (table_in t).files t.server.used (used_values t.server.used t.server.blocks)
      (table_in t).embargoed
  image_taken =
      let n = (sizes_of s).files in
      let m = (sizes_of s).blocks in
      let entries = (table_in t).files in
      let values = used_values t.server.used t.server.blocks in
      contents_alike s (decoded_files bytes) entries (decoded_used bytes) t.server.used (decoded_blocks bytes) values
      (decoded_embargoes bytes) (table_in t).embargoed
      (stored_agree n (λ f. f) (λ f. with_version (entry_of files f) (as_read (entry_of (decoded_files bytes) f).version))
      (λ f. with_version (entry_of files f) (as_read (entry_of entries f).version)) files
      (λ f hf.
      ap (λ v. with_version (entry_of files f) v)
      (ap as_read (version_back t fits f (file_below f hf)) ∙ read_twice (entry_of entries f).version)))
      (places_alike false n m (decoded_used bytes) t.server.used s.server.used
      (λ f b hf hb. used_back t fits f b (file_below f hf) (block_below b hb)))
      (places_alike 0 n m (decoded_blocks bytes) values s.server.blocks
      (λ f b hf hb. block_back t fits f b (file_below f hf) (block_below b hb)))
      (stored_agree (sizes_of s).clients (λ i. i) (is_embargoed (decoded_embargoes bytes))
      (is_embargoed (table_in t).embargoed) held (λ i hi. embargo_back t fits i (client_below i hi)))

pub reads_back : ReadsBack
reads_back s t fits sizes =
    taken s (image_of t) (accepts s t (image_of t) fits sizes refl)
    ∙ ap (λ x. record { service = x; reply = Done; calls = no_calls; grants = no_grants })
    (image_taken (after s Crash) t fits (sizes ∙ ap in_force (sym (crash_sizes s))))

-- Reading an image: "It takes versions and blocks and is otherwise a crash". It "tests 17 only". It takes the embargoes
-- too: "The image gains a last section of embargoed stations, ascending; reading takes them" (document 02, Wish 9); and
-- which blocks are used: "The image lists used blocks in place of non-zero ones" (Wish 13).
use Rattle.std.specs.Prelude.{ℕ, zero, suc, ◌-◌, Bool, false, cond, List, eqb, get_or}
use Rattle.std.specs.Cmp.Lexicographic.{pointwise}
use Rattle.sizes.specs.declared.sizes.Sizes.{Sizes}
use Rattle.sizes.specs.Sizes.{place}
use Rattle.decision.specs.Lists.{stored}
use Rattle.records.specs.declared.version.Version.{Version}
use Rattle.records.specs.Version.{as_read}
use Rattle.protocol.specs.declared.entry.Entry.{Entry}
use Rattle.protocol.specs.declared.reply.Reply.TheVariants.{Refused, Done}
use Rattle.protocol.specs.declared.step.Step.TheVariants.{Crash}
use Rattle.protocol.specs.Reply.{no_calls, no_grants}
use Rattle.table.specs.TableStep.{entry_of, is_embargoed}
use Rattle.service.specs.declared.service.Service.{Service}
use Rattle.service.specs.declared.outcome.Outcome.{Outcome}
use Rattle.service.specs.Contents.{sizes_of, table_in}
use Rattle.service.specs.Space.{used_in}
use Rattle.service.specs.Demand3.{after}
use Rattle.image.specs.Image.{image_bytes}
use Rattle.restore.specs.Decoded.{byte_at, number_at, decoded_files, decoded_used, decoded_blocks, decoded_embargoes}

-- the lists are as long, and the same byte by byte
abbrev pub same_bytes : List ℕ → List ℕ → Bool
same_bytes bytes others = pointwise eqb bytes others

-- The bytes are an image of a service of these sizes: they are the image of what they hold. So they are accepted
-- exactly if they are "the bytes that writing gives for some service" (Exact.antt).
unfoldable pub is_image : Sizes → List ℕ → Bool
is_image z bytes =
    same_bytes bytes
    (image_bytes z (decoded_files bytes) (decoded_used bytes) (decoded_blocks bytes) (decoded_embargoes bytes))

-- the entry at another version
abbrev pub with_version : Entry → Version → Entry
with_version e v =
    record {
      records = e.records;
      version = v;
      last = e.last;
      waiter = e.waiter;
      mode = e.mode;
      calls = e.calls;
    }

-- the entries, with the versions of others, as they are read, for k files
abbrev pub with_versions : ℕ → List Entry → List Entry → List Entry
with_versions k others entries =
    stored k (λ f. f) (λ f. with_version (entry_of entries f) (as_read (entry_of others f).version)) entries

-- what stands in the places of blocks, with that of others in the places of n blocks for each of k files; d stands
-- where there is none
unfoldable pub with_places {ℓ} : {A : Type ℓ} → A → ℕ → ℕ → List A → List A → List A
with_places d zero n others l = l
with_places d (suc k) n others l = stored n (place k) (λ b. get_or others (place k b) d) (with_places d k n others l)

-- the blocks, and which are used
abbrev pub with_blocks : ℕ → ℕ → List ℕ → List ℕ → List ℕ
with_blocks k n others blocks = with_places 0 k n others blocks

abbrev pub with_used : ℕ → ℕ → List Bool → List Bool → List Bool
with_used k n others used = with_places false k n others used

-- the embargoes, with those of others for k clients
abbrev pub with_embargoes : ℕ → List Bool → List Bool → List Bool
with_embargoes k others embargoed = stored k (λ i. i) (λ i. is_embargoed others i) embargoed

-- The service with the versions, used blocks, blocks and embargoes of others, as far as the sizes in force go. What is
-- not used is free: "Past the reading of an image the sum holds on Wish 2's premise, used blocks unchanged too"
-- (document 02, Wish 13).
abbrev pub with_contents : Service → List Entry → List Bool → List ℕ → List Bool → Service
with_contents s entries used blocks embargoed =
    let z = sizes_of s in
    let used_then = with_used z.files z.blocks used s.server.used in
    record {
      sizes = s.sizes;
      server =
          record {
            table =
                record {
                  files = with_versions z.files entries (table_in s).files;
                  recovering = (table_in s).recovering;
                  reported = (table_in s).reported;
                  embargoed = with_embargoes z.clients embargoed (table_in s).embargoed;
                };
            blocks = with_blocks z.files z.blocks blocks s.server.blocks;
            used = used_then;
            free = z.store - used_in z used_then;
          };
      clients = s.clients;
      copies = s.copies;
      held = s.held;
      dirty = s.dirty;
    }

-- what an accepted reading hands back: the service after a crash, with these versions, used blocks, blocks and
-- embargoes
abbrev pub restored : Service → List Entry → List Bool → List ℕ → List Bool → Outcome
restored s entries used blocks embargoed =
    record {
      service = with_contents (after s Crash) entries used blocks embargoed;
      reply = Done;
      calls = no_calls;
      grants = no_grants;
    }

-- "17 when the bytes are no image"
unfoldable pub reading_of : Service → List ℕ → Outcome
reading_of s bytes =
    cond (is_image (sizes_of s) bytes)
    (restored s (decoded_files bytes) (decoded_used bytes) (decoded_blocks bytes) (decoded_embargoes bytes))
    (record { service = s; reply = Refused 17; calls = no_calls; grants = no_grants })

-- the sizes with which the bytes begin, 0 for those that are missing
abbrev pub sizes_in : List ℕ → Sizes
sizes_in bytes =
    record {
      clients = byte_at bytes 0;
      files = byte_at bytes 1;
      blocks = byte_at bytes 2;
      store = number_at 2 bytes 3;
    }

-- The image of the server (document 02, Wish 2): "The server shall be written into a lent buffer as sections in a fixed
-- order". z are the sizes in force; what lies past them is not there.
use Rattle.std.specs.Prelude.{ℕ, Bool, false, cond, not, ◌&&◌, List, [], ◌∷◌, ◌++◌, ltb, leb, get_or}
use Rattle.records.specs.declared.record.ClientRecord.{ClientRecord}
use Rattle.records.specs.Version.{number_of, as_read, is_first_version}
use Rattle.records.specs.Record.{is_open}
use Rattle.sizes.specs.declared.sizes.Sizes.{Sizes}
use Rattle.sizes.specs.Sizes.{place, nobody}
use Rattle.protocol.specs.declared.entry.Entry.{Entry}
use Rattle.protocol.specs.Entry.{record_at}
use Rattle.table.specs.TableStep.{entry_of, is_embargoed}
use Rattle.service.specs.declared.service.Service.{Service}
use Rattle.service.specs.Contents.{sizes_of, table_in}
use Rattle.image.specs.Bytes.{low, below, entry_if, section}

-- "the image begins with the three numbers, one byte each and no count" (Wish 7); the size of the store: "the image
-- gives it after the other three, in two bytes low first" (Wish 13)
abbrev pub size_bytes : Sizes → List ℕ
size_bytes z = z.clients ∷ z.files ∷ z.blocks ∷ low 2 z.store

-- "Files: number, version in four bytes low first, last writer or 255, for each file not at version 1 without last
-- writer." "a version of 0 [reads] as 1", "a station field of 8 or more reads as none" (document 01)
abbrev pub version_read : Entry → ℕ
version_read e = number_of (as_read e.version)

abbrev pub last_read : ℕ → Entry → ℕ
last_read n e = cond (ltb e.last n) e.last nobody

abbrev pub is_listed : ℕ → Entry → Bool
is_listed n e = not (is_first_version (as_read e.version) && leb n e.last)

abbrev pub file_bytes : ℕ → ℕ → Entry → List ℕ
file_bytes n f e = f ∷ (low 4 (version_read e) ++ (last_read n e ∷ []))

abbrev pub file_entry : ℕ → ℕ → Entry → List (List ℕ)
file_entry n f e = entry_if (is_listed n e) (file_bytes n f e)

abbrev pub file_entries : Sizes → List Entry → List (List ℕ)
file_entries z entries = below z.files (λ f. file_entry z.clients f (entry_of entries f))

-- "Opens, for each open station: station, file, readers, writers, permission, by file and then station."
abbrev pub open_bytes : ℕ → ℕ → ClientRecord → List ℕ
open_bytes i f r = i ∷ f ∷ r.readers ∷ r.writers ∷ cond r.caching 1 0 ∷ []

abbrev pub open_entry : ℕ → ℕ → ClientRecord → List (List ℕ)
open_entry i f r = entry_if (is_open r) (open_bytes i f r)

abbrev pub file_opens : ℕ → ℕ → Entry → List (List ℕ)
file_opens n f e = below n (λ i. open_entry i f (record_at e i))

abbrev pub open_entries : Sizes → List Entry → List (List ℕ)
open_entries z entries = below z.files (λ f. file_opens z.clients f (entry_of entries f))

-- "Non-zero blocks: file, block, value in eight bytes low first."; "The image lists used blocks in place of non-zero
-- ones" (Wish 13)
abbrev pub block_bytes : ℕ → ℕ → ℕ → List ℕ
block_bytes f b v = f ∷ b ∷ low 8 v

abbrev pub block_entry : ℕ → ℕ → Bool → ℕ → List (List ℕ)
block_entry f b t v = entry_if t (block_bytes f b v)

abbrev pub file_blocks : ℕ → ℕ → List Bool → List ℕ → List (List ℕ)
file_blocks n f used blocks = below n (λ b. block_entry f b (get_or used (place f b) false) (get_or blocks (place f b) 0))

abbrev pub block_entries : Sizes → List Bool → List ℕ → List (List ℕ)
block_entries z used blocks = below z.files (λ f. file_blocks z.blocks f used blocks)

-- "a last section of embargoed stations, ascending" (Wish 9)
abbrev pub embargo_bytes : ℕ → List ℕ
embargo_bytes i = i ∷ []

abbrev pub embargo_entry : ℕ → Bool → List (List ℕ)
embargo_entry i t = entry_if t (embargo_bytes i)

abbrev pub embargo_entries : Sizes → List Bool → List (List ℕ)
embargo_entries z embargoed = below z.clients (λ i. embargo_entry i (is_embargoed embargoed i))

-- the image of a table's entries, of the blocks with whether each is used, and of the embargoes
unfoldable pub image_bytes : Sizes → List Entry → List Bool → List ℕ → List Bool → List ℕ
image_bytes z entries used blocks embargoed =
    size_bytes z
    ++ (section (file_entries z entries)
    ++ (section (open_entries z entries)
    ++ (section (block_entries z used blocks) ++ section (embargo_entries z embargoed))))

-- of any service, hand-made ones included
abbrev pub image_of : Service → List ℕ
image_of s = image_bytes (sizes_of s) (table_in s).files s.server.used s.server.blocks (table_in s).embargoed

-- the longest image: 64 files, 512 opens, 512 blocks and 8 embargoes
abbrev pub image_room : ℕ
image_room = 8085

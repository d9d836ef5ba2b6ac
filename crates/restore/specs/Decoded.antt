-- What bytes hold, if they are an image: a server's entries, its blocks and which are used, and its embargoes, read
-- from left to right. Numbers past the arrays are wrapped, and nothing is tested here: bytes that are not the image of
-- what they hold are no image (Reading.antt). What is promised of reading does not mention these definitions (Exact.antt).
use Rattle.std.specs.Prelude.{ℕ, zero, suc, ◌+◌, ◌*◌, ◌%◌, Bool, true, false, List, [], ◌∷◌, ltb, get_or, set, take, drop, replicate}
use Rattle.records.specs.declared.record.ClientRecord.{ClientRecord}
use Rattle.records.specs.Version.{version_of}
use Rattle.sizes.specs.Sizes.{max_clients, max_files, max_blocks, max_places, place}
use Rattle.protocol.specs.declared.entry.Entry.{Entry}
use Rattle.protocol.specs.Entry.{fresh_entry}
use Rattle.table.specs.TableStep.{entry_of}

abbrev pub byte_at : List ℕ → ℕ → ℕ
byte_at l k = get_or l k 0

-- the number in the k bytes from offset at on, the low byte first
unfoldable pub number_at : ℕ → List ℕ → ℕ → ℕ
number_at zero l at = 0
number_at (suc k) l at = byte_at l at + 256 * number_at k l (suc at)

-- n entries of w bytes each
unfoldable pub entries_in : ℕ → ℕ → List ℕ → List (List ℕ)
entries_in w zero l = []
entries_in w (suc n) l = take w l ∷ entries_in w n (drop w l)

-- the section with which the bytes begin, and the bytes past it
abbrev pub section_in : ℕ → List ℕ → List (List ℕ)
section_in w l = entries_in w (number_at 2 l 0) (drop 2 l)

abbrev pub past_section : ℕ → List ℕ → List ℕ
past_section w l = drop (2 + w * number_at 2 l 0) l

-- one entry after the other is put in its place
unfoldable pub placed {ℓ} : {A : Type ℓ} → (List ℕ → A → A) → List (List ℕ) → A → A
placed put [] a = a
placed put (e ∷ es) a = placed put es (put e a)

-- an entry of the section of files: version and last writer
abbrev pub file_of : List ℕ → ℕ
file_of e = byte_at e 0 % max_files

abbrev pub with_file : List ℕ → Entry → Entry
with_file e x =
    record {
      records = x.records;
      version = version_of (number_at 4 e 1);
      last = byte_at e 5;
      waiter = x.waiter;
      mode = x.mode;
      calls = x.calls;
    }

abbrev pub put_file : List ℕ → List Entry → List Entry
put_file e entries = set entries (file_of e) (with_file e (entry_of entries (file_of e)))

-- an entry of the section of opens: a client's record
abbrev pub opener_of : List ℕ → ℕ
opener_of e = byte_at e 0 % max_clients

abbrev pub opened_of : List ℕ → ℕ
opened_of e = byte_at e 1 % max_files

abbrev pub record_of : List ℕ → ClientRecord
record_of e = record { readers = byte_at e 2; writers = byte_at e 3; caching = ltb 0 (byte_at e 4) }

abbrev pub with_open : List ℕ → Entry → Entry
with_open e x =
    record {
      records = set x.records (opener_of e) (record_of e);
      version = x.version;
      last = x.last;
      waiter = x.waiter;
      mode = x.mode;
      calls = x.calls;
    }

abbrev pub put_open : List ℕ → List Entry → List Entry
put_open e entries = set entries (opened_of e) (with_open e (entry_of entries (opened_of e)))

-- an entry of the section of blocks
abbrev pub place_of : List ℕ → ℕ
place_of e = place (byte_at e 0 % max_files) (byte_at e 1 % max_blocks)

abbrev pub put_block : List ℕ → List ℕ → List ℕ
put_block e blocks = set blocks (place_of e) (number_at 8 e 2)

-- "The image lists used blocks in place of non-zero ones" (document 02, Wish 13): a block that is listed is used
abbrev pub put_used : List ℕ → List Bool → List Bool
put_used e used = set used (place_of e) true

-- an entry of the section of embargoes
abbrev pub embargoed_of : List ℕ → ℕ
embargoed_of e = byte_at e 0 % max_clients

abbrev pub put_embargo : List ℕ → List Bool → List Bool
put_embargo e embargoed = set embargoed (embargoed_of e) true

-- where the four sections begin: after the four sizes, which take five bytes, and each past the one before
abbrev pub files_part : List ℕ → List ℕ
files_part bytes = drop 5 bytes

abbrev pub opens_part : List ℕ → List ℕ
opens_part bytes = past_section 6 (files_part bytes)

abbrev pub blocks_part : List ℕ → List ℕ
blocks_part bytes = past_section 5 (opens_part bytes)

abbrev pub embargoes_part : List ℕ → List ℕ
embargoes_part bytes = past_section 10 (blocks_part bytes)

-- "files not listed" are as at the start, blocks not listed 0 and not used, and clients not listed without embargo
abbrev pub listed_files : List ℕ → List Entry
listed_files bytes = placed put_file (section_in 6 (files_part bytes)) (replicate max_files (fresh_entry max_clients))

unfoldable pub decoded_files : List ℕ → List Entry
decoded_files bytes = placed put_open (section_in 5 (opens_part bytes)) (listed_files bytes)

unfoldable pub decoded_blocks : List ℕ → List ℕ
decoded_blocks bytes = placed put_block (section_in 10 (blocks_part bytes)) (replicate max_places 0)

unfoldable pub decoded_used : List ℕ → List Bool
decoded_used bytes = placed put_used (section_in 10 (blocks_part bytes)) (replicate max_places false)

unfoldable pub decoded_embargoes : List ℕ → List Bool
decoded_embargoes bytes = placed put_embargo (section_in 1 (embargoes_part bytes)) (replicate max_clients false)

-- What the image of a server holds, once it is read, and that its own image is the same again. Assumes nothing.
use Prim.Native.Nat.{ℕ, ◌<◌}
use mathlib.Core.Path.{◌≡◌, sym, ap, ◌∙◌}
use mathlib.Core.Bool.{Bool, false}
use mathlib.Core.List.{List, [], ◌++◌, append-nil}
use native.Mathlib.Omega.{arith}
use lib.ListN.{length, get_or, replicate, length-replicate}
use borrow.Author.Tests.{lt-ltb}
use Rattle.records.specs.Version.{version_of, number_of, as_read}
use Rattle.records.specs.Record.{not_open}
use Rattle.sizes.proofs.Choosing.{when}
use Rattle.sizes.specs.declared.sizes.Sizes.{Sizes}
use Rattle.sizes.specs.Sizes.{max_clients, max_files, max_places, place, Permitted}
use Rattle.decision.specs.Lists.{stored}
use Rattle.decision.proofs.Beyond.{get_d_alike}
use Rattle.decision.proofs.Storing.{length_stored, get_d_stored}
use Rattle.protocol.specs.declared.entry.Entry.{Entry}
use Rattle.protocol.specs.Entry.{record_at, fresh_entry}
use Rattle.table.specs.TableStep.{no_entry, entry_of, is_embargoed}
use Rattle.image.specs.Bytes.{low, section}
use Rattle.image.specs.Image.{version_read, last_read, file_entries}
use Rattle.image.specs.Image.{open_entries, block_entries, embargo_entries, image_bytes}
use Rattle.image.proofs.SectionLaws.{wide_files, wide_opens, wide_blocks, wide_embargoes}
use Rattle.restore.specs.Decoded.{section_in, past_section, placed, put_file, put_open, put_block, files_part}
use Rattle.restore.specs.Decoded.{put_used, put_embargo, opens_part, blocks_part, embargoes_part, decoded_files}
use Rattle.restore.specs.Decoded.{decoded_used, decoded_blocks, decoded_embargoes}
use Rattle.restore.specs.Reading.{with_blocks, with_used, with_embargoes}
use Rattle.restore.specs.Exact.{used_values}
use Rattle.restore.proofs.Parsing.{few_files, few_opens, few_blocks, few_embargoes, section_read, past_read}
use Rattle.restore.proofs.GivenBlocks.{taken_place, used_value, given_blocks, given_used}
use Rattle.restore.proofs.GivenFiles.{listed_entry, fresh_files, given_files}
use Rattle.restore.proofs.GivenOpens.{open_read, with_opens, given_opens}
use Rattle.restore.proofs.GivenEmbargoes.{given_embargoes}
use Rattle.restore.proofs.SameAgain.{read_again, image_again}

module _
    {z : Sizes}
    (most : Permitted z)
    (entries : List Entry)
    (used : List Bool)
    (blocks : List ℕ)
    (embargoed : List Bool)
    (versions : (f : ℕ) → f < z.files → number_of (entry_of entries f).version < 4294967296)
    (values : (f b : ℕ) → f < z.files → b < z.blocks → get_or blocks (place f b) 0 < 18446744073709551616) where
  abbrev image : List ℕ
  image = image_bytes z entries used blocks embargoed

  -- ---- the four sections, and what stands from each of them on

  abbrev last_sections : List ℕ
  last_sections = section (block_entries z used blocks) ++ section (embargo_entries z embargoed)

  opens_part_lem : opens_part image ≡ section (open_entries z entries) ++ last_sections
  unfolding image_bytes low
  opens_part_lem =
      past_read 6 (file_entries z entries) (section (open_entries z entries) ++ last_sections) (wide_files z entries)
      (few_files most entries)

  blocks_part_lem : blocks_part image ≡ last_sections
  blocks_part_lem =
      ap (past_section 5) opens_part_lem
      ∙ past_read 5 (open_entries z entries) last_sections (wide_opens z entries) (few_opens most entries)

  embargoes_part_lem : embargoes_part image ≡ section (embargo_entries z embargoed)
  embargoes_part_lem =
      ap (past_section 10) blocks_part_lem
      ∙ past_read 10 (block_entries z used blocks) (section (embargo_entries z embargoed)) (wide_blocks z used blocks)
      (few_blocks most used blocks)

  files_told : section_in 6 (files_part image) ≡ file_entries z entries
  unfolding image_bytes low
  files_told =
      section_read 6 (file_entries z entries) (section (open_entries z entries) ++ last_sections) (wide_files z entries)
      (few_files most entries)

  opens_told : section_in 5 (opens_part image) ≡ open_entries z entries
  opens_told =
      ap (section_in 5) opens_part_lem
      ∙ section_read 5 (open_entries z entries) last_sections (wide_opens z entries) (few_opens most entries)

  blocks_told : section_in 10 (blocks_part image) ≡ block_entries z used blocks
  blocks_told =
      ap (section_in 10) blocks_part_lem
      ∙ section_read 10 (block_entries z used blocks) (section (embargo_entries z embargoed)) (wide_blocks z used blocks)
      (few_blocks most used blocks)

  embargoes_told : section_in 1 (embargoes_part image) ≡ embargo_entries z embargoed
  embargoes_told =
      ap (section_in 1) (embargoes_part_lem ∙ sym (append-nil (section (embargo_entries z embargoed))))
      ∙ section_read 1 (embargo_entries z embargoed) [] (wide_embargoes z embargoed) (few_embargoes most embargoed)

  -- ---- what they give

  abbrev listed_files : List Entry
  listed_files = stored z.files (λ f. f) (λ f. listed_entry z.clients (entry_of entries f)) fresh_files

  abbrev given : ℕ → Entry
  given f = with_opens z.clients (entry_of entries f) (entry_of listed_files f)

  listed_long : length listed_files ≡ max_files
  listed_long =
      length_stored z.files (λ f. f) (λ f. listed_entry z.clients (entry_of entries f)) fresh_files
      ∙ length-replicate max_files (fresh_entry max_clients)

  listed_at : (f : ℕ) → f < z.files → entry_of listed_files f ≡ listed_entry z.clients (entry_of entries f)
  listed_at f hf =
      get_d_stored z.files (λ f. f) (λ f. listed_entry z.clients (entry_of entries f)) fresh_files no_entry f hf
      (rw (length-replicate max_files (fresh_entry max_clients)) (let few = most.files in omega arith))
      (λ k less below. omega arith)

  files_given : decoded_files image ≡ stored z.files (λ f. f) given listed_files
  unfolding decoded_files
  files_given =
      ap (λ es. placed put_open es (placed put_file (section_in 6 (files_part image)) fresh_files)) opens_told
      ∙ ap (λ es. placed put_open (open_entries z entries) (placed put_file es fresh_files)) files_told
      ∙ ap (placed put_open (open_entries z entries)) (given_files most entries versions)
      ∙ given_opens most entries listed_files listed_long
      (λ f i hf hi.
      ap (λ x. record_at x i) (listed_at f hf) ∙ get_d_alike max_clients not_open i)

  entry_given : (f : ℕ) → f < z.files → entry_of (decoded_files image) f ≡ given f
  entry_given f hf =
      ap (λ l. entry_of l f) files_given
      ∙ get_d_stored z.files (λ f. f) given listed_files no_entry f hf
      (rw listed_long (let few = most.files in omega arith)) (λ k less below. omega arith)

  entry_told :
      (f : ℕ)
      → f < z.files
      → entry_of (decoded_files image) f
      ≡ with_opens z.clients (entry_of entries f) (listed_entry z.clients (entry_of entries f))
  entry_told f hf = entry_given f hf ∙ ap (with_opens z.clients (entry_of entries f)) (listed_at f hf)

  pub version_given :
      (f : ℕ) → f < z.files → (entry_of (decoded_files image) f).version ≡ version_of (version_read (entry_of entries f))
  version_given f hf = ap (λ (x : Entry). x.version) (entry_told f hf)

  last_given :
      (f : ℕ) → f < z.files → (entry_of (decoded_files image) f).last ≡ last_read z.clients (entry_of entries f)
  last_given f hf = ap (λ (x : Entry). x.last) (entry_told f hf)

  record_given :
      (f i : ℕ)
      → f < z.files
      → i < z.clients
      → record_at (entry_of (decoded_files image) f) i ≡ open_read (record_at (entry_of entries f) i)
  record_given f i hf hi =
      let e = entry_of entries f in
      ap (λ x. record_at x i) (entry_told f hf)
      ∙ get_d_stored z.clients (λ i. i) (λ i. open_read (record_at e i)) (replicate max_clients not_open) not_open i hi
      (rw (length-replicate max_clients not_open) (let few = most.clients in omega arith)) (λ k less below. omega arith)

  blocks_given :
      decoded_blocks image ≡ with_blocks z.files z.blocks (used_values used blocks) (replicate max_places 0)
  unfolding decoded_blocks
  blocks_given =
      ap (λ es. placed put_block es (replicate max_places 0)) blocks_told ∙ given_blocks most used blocks values

  pub block_given :
      (f b : ℕ)
      → f < z.files
      → b < z.blocks
      → get_or (decoded_blocks image) (place f b) 0 ≡ get_or (used_values used blocks) (place f b) 0
  block_given f b hf hb =
      ap (λ l. get_or l (place f b) 0) blocks_given
      ∙ taken_place {A = ℕ} 0 z.blocks most.blocks (used_values used blocks) (replicate max_places 0)
      (length-replicate {A = ℕ} max_places 0) z.files most.files f b hb
      ∙ when _ _ (lt-ltb f z.files hf)

  used_are : decoded_used image ≡ with_used z.files z.blocks used (replicate max_places false)
  unfolding decoded_used
  used_are =
      ap (λ es. placed put_used es (replicate max_places false)) blocks_told ∙ given_used most used blocks

  pub used_given :
      (f b : ℕ)
      → f < z.files
      → b < z.blocks
      → get_or (decoded_used image) (place f b) false ≡ get_or used (place f b) false
  used_given f b hf hb =
      ap (λ l. get_or l (place f b) false) used_are
      ∙ taken_place false z.blocks most.blocks used (replicate max_places false)
      (length-replicate max_places false) z.files most.files f b hb
      ∙ when _ _ (lt-ltb f z.files hf)

  embargoes_given : decoded_embargoes image ≡ with_embargoes z.clients embargoed (replicate max_clients false)
  unfolding decoded_embargoes
  embargoes_given =
      ap (λ es. placed put_embargo es (replicate max_clients false)) embargoes_told ∙ given_embargoes most embargoed

  pub embargo_given :
      (i : ℕ) → i < z.clients → is_embargoed (decoded_embargoes image) i ≡ is_embargoed embargoed i
  embargo_given i hi =
      ap (λ l. is_embargoed l i) embargoes_given
      ∙ get_d_stored z.clients (λ i. i) (λ i. is_embargoed embargoed i) (replicate max_clients false) false i hi
      (rw (length-replicate max_clients false) (let few = most.clients in omega arith)) (λ k less below. omega arith)

  -- ---- the image of what they give is the same again

  pub same_again :
      image_bytes z (decoded_files image) (decoded_used image) (decoded_blocks image) (decoded_embargoes image) ≡ image
  same_again =
      image_again most (decoded_files image) entries (decoded_used image) used (decoded_blocks image) blocks
      (decoded_embargoes image) embargoed
      (λ f hf. ap (λ v. number_of (as_read v)) (version_given f hf) ∙ read_again (entry_of entries f))
      last_given
      record_given
      used_given
      (λ f b hf hb. block_given f b hf hb ∙ used_value used blocks (place f b))
      embargo_given

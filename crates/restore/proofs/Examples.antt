-- The reading of images and of bytes that are none, one for each reason, from the definitions by evaluation. Assumes
-- nothing.
use Prim.Native.Nat.{ℕ}
use mathlib.Core.Path.{◌≡◌, refl}
use mathlib.Core.Bool.{Bool, true, false}
use mathlib.Core.List.{List, [], ◌∷◌, ◌++◌}
use lib.ListN.{replicate, set}
use Rattle.records.specs.Record.{not_open}
use Rattle.records.specs.Version.{version_of}
use Rattle.decision.specs.Lists.{count, stored, first_below}
use Rattle.decision.specs.Permission.{permission_at_grant}
use Rattle.sizes.specs.declared.sizes.Sizes.{Sizes}
use Rattle.sizes.specs.Sizes.{default_sizes, max_clients}
use Rattle.decision.specs.State.{state_of}
use Rattle.protocol.specs.declared.reply.Reply.TheVariants.{Refused, Done}
use Rattle.protocol.specs.Entry.{record_at}
use Rattle.file.specs.FileStep.{file_step}
use Rattle.access.specs.BlockStep.{block_step}
use Rattle.table.specs.TableStep.{table_step}
use Rattle.service.specs.declared.service.Service.{Service}
use Rattle.service.specs.declared.outcome.Outcome.{Outcome}
use Rattle.service.specs.Contents.{table_in, entry_at, block_at, used_at}
use Rattle.service.specs.Fresh.{fresh}
use Rattle.service.specs.Space.{any_below, sum_below, spaced}
use Rattle.service.specs.Step.{step_of, moved}
use Rattle.service.proofs.Run.{fresh_default, OW, WR, FL, after}
use Rattle.image.specs.Bytes.{low, below, flat}
use Rattle.image.specs.Image.{size_bytes, image_bytes}
use Rattle.image.proofs.Examples.{whole_image, under_embargo, none_embargoed, fresh_image_with, small_sizes}
use Rattle.restore.specs.Decoded.{number_at, entries_in, placed, decoded_files, decoded_used, decoded_blocks}
use Rattle.restore.specs.Decoded.{decoded_embargoes}
use Rattle.restore.proofs.Exact.{untouched}
use Rattle.restore.specs.Reading.{is_image, with_places, reading_of}

-- a section of no entries
abbrev none : List ℕ
none = 0 ∷ 0 ∷ []

-- bytes of sizes 8, 32, 4 and 512, with these three sections and no embargo; and with a section of embargoes alone
abbrev image : List ℕ → List ℕ → List ℕ → Bool
image files opens blocks = is_image default_sizes (size_bytes default_sizes ++ (files ++ (opens ++ (blocks ++ none))))

abbrev embargoes : List ℕ → Bool
embargoes clients = is_image default_sizes (fresh_image_with default_sizes clients)

-- an entry of the section of files, of opens and of blocks
abbrev file : ℕ → ℕ → ℕ → List ℕ
file f version last = f ∷ version ∷ 0 ∷ 0 ∷ 0 ∷ last ∷ []

abbrev open' : ℕ → ℕ → ℕ → ℕ → ℕ → List ℕ
open' i f readers writers permission = i ∷ f ∷ readers ∷ writers ∷ permission ∷ []

abbrev block : ℕ → ℕ → ℕ → List ℕ
block f b v = f ∷ b ∷ v ∷ 0 ∷ 0 ∷ 0 ∷ 0 ∷ 0 ∷ 0 ∷ 0 ∷ []

-- sections of one entry and of two
abbrev one : List ℕ → List ℕ
one e = 1 ∷ 0 ∷ e

abbrev two : List ℕ → List ℕ → List ℕ
two e d = 2 ∷ 0 ∷ (e ++ d)

pub record NoImage : Type 0 where
  pub version0 : image (one (file 3 0 5)) none none ≡ false
  pub version1_without_last : image (one (file 3 1 255)) none none ≡ false
  pub no_last_writer : image (one (file 3 2 8)) none none ≡ false
  pub file_twice : image (two (file 3 2 255) (file 3 2 255)) none none ≡ false
  pub file_descends : image (two (file 4 2 255) (file 3 2 255)) none none ≡ false
  pub no_file : image (one (file 32 2 255)) none none ≡ false
  pub counts_zero : image none (one (open' 1 3 0 0 1)) none ≡ false
  pub permission2 : image none (one (open' 1 3 1 0 2)) none ≡ false
  pub no_client : image none (one (open' 8 3 1 0 1)) none ≡ false
  pub no_open_file : image none (one (open' 1 32 1 0 1)) none ≡ false
  pub open_twice : image none (two (open' 1 3 1 0 1) (open' 1 3 1 0 1)) none ≡ false
  pub open_descends : image none (two (open' 2 3 1 0 1) (open' 1 3 1 0 1)) none ≡ false
  pub by_file_first : image none (two (open' 0 4 1 0 1) (open' 1 3 1 0 1)) none ≡ false
  pub no_block : image none none (one (block 3 4 77)) ≡ false
  pub no_block_file : image none none (one (block 32 0 77)) ≡ false
  pub block_twice : image none none (two (block 3 1 77) (block 3 1 77)) ≡ false
  pub block_descends : image none none (two (block 3 1 77) (block 3 0 77)) ≡ false
  pub embargo_twice : embargoes (2 ∷ 0 ∷ 3 ∷ 3 ∷ []) ≡ false
  pub embargo_descends : embargoes (2 ∷ 0 ∷ 6 ∷ 2 ∷ []) ≡ false
  pub no_embargo_client : embargoes (1 ∷ 0 ∷ 8 ∷ []) ≡ false
  pub embargo_past_sizes : is_image small_sizes (fresh_image_with small_sizes (1 ∷ 0 ∷ 3 ∷ [])) ≡ false
  pub embargoes_missing : is_image default_sizes (fresh_image_with default_sizes []) ≡ false
  pub embargo_left_over : embargoes (1 ∷ 0 ∷ 3 ∷ 4 ∷ []) ≡ false
  pub embargo_count_too_high : embargoes (2 ∷ 0 ∷ 3 ∷ []) ≡ false
  pub count_too_high : image (2 ∷ 0 ∷ file 3 2 255) none none ≡ false
  pub count_too_low : image (0 ∷ 0 ∷ file 3 2 255) none none ≡ false
  pub left_over : image none none (none ++ (0 ∷ [])) ≡ false
  pub missing : image none none (0 ∷ []) ≡ false
  pub empty : is_image default_sizes [] ≡ false
  pub other_sizes : is_image default_sizes (8 ∷ 32 ∷ 5 ∷ 0 ∷ 2 ∷ replicate 8 0) ≡ false
  pub other_store : is_image default_sizes (8 ∷ 32 ∷ 4 ∷ 0 ∷ 1 ∷ replicate 8 0) ≡ false
  pub other_store_low : is_image default_sizes (8 ∷ 32 ∷ 4 ∷ 1 ∷ 2 ∷ replicate 8 0) ≡ false
  pub store_missing : is_image default_sizes (8 ∷ 32 ∷ 4 ∷ replicate 8 0) ≡ false

-- Images: at version 1 with a last writer, as stands in hand-made servers alone; opens and last writers that do not
-- agree; a used block that is zero; more used blocks than the store has places; one client under embargo, and all; the
-- image of the whole case.
pub record IsImage : Type 0 where
  pub empty : image none none none ≡ true
  pub version1 : image (one (file 3 1 5)) none none ≡ true
  pub disagree : image (one (file 3 2 5)) (two (open' 0 3 0 9 1) (open' 1 3 0 9 1)) (one (block 31 3 255)) ≡ true
  pub zero_block : image none none (one (block 3 0 0)) ≡ true
  pub used_past_store :
      is_image small_sizes (size_bytes small_sizes ++ (none ++ (none ++ (two (block 0 0 5) (block 1 0 6) ++ none)))) ≡ true
  pub embargo : embargoes (1 ∷ 0 ∷ 5 ∷ []) ≡ true
  pub all_embargoed : embargoes (8 ∷ 0 ∷ 0 ∷ 1 ∷ 2 ∷ 3 ∷ 4 ∷ 5 ∷ 6 ∷ 7 ∷ []) ≡ true
  pub whole : is_image default_sizes whole_image ≡ true

-- The image of the whole case, read by a server that client 2 has file 3 open at, and that has a used block of file 4:
-- version, block and what is used are taken, what is not used is free, and all else is a crash. Bytes that are no image
-- leave the service as it came.
abbrev before : Service
before = after fresh_default (OW 2 3 ∷ OW 2 4 ∷ WR 2 4 1 5 ∷ FL 2 4 1 ∷ [])

abbrev read : Outcome
read = reading_of before whole_image

-- An image with client 5 under embargo, read where client 2 is; and one with none, read where all eight are, of whom
-- three are in force.
abbrev read_aside : Outcome
read_aside =
    reading_of (under_embargo (set none_embargoed 2 true) before) (fresh_image_with default_sizes (1 ∷ 0 ∷ 5 ∷ []))

abbrev read_small : Outcome
read_small = reading_of (under_embargo (replicate max_clients true) (fresh small_sizes)) (fresh_image_with small_sizes none)

-- an image with two used blocks, read where the store has one place
abbrev one_size : Sizes
one_size = record { clients = 3; files = 2; blocks = 1; store = 1 }

abbrev read_full : Outcome
read_full =
    reading_of (fresh one_size)
    (size_bytes one_size ++ (none ++ (none ++ (two (block 0 0 5) (block 1 0 6) ++ none))))

pub record Reads : Type 0 where
  pub reply : read.reply ≡ Done
  pub version : (entry_at read.service 3).version ≡ version_of 2
  pub other_version : (entry_at read.service 4).version ≡ version_of 1
  pub block : block_at read.service 3 0 ≡ 77
  pub used : used_at read.service 3 0 ≡ true
  pub used_before : used_at before 4 1 ≡ true
  pub not_used : used_at read.service 4 1 ≡ false
  pub not_there : block_at read.service 4 1 ≡ 0
  pub free : read.service.server.free ≡ 511
  pub none_free : read_full.service.server.free ≡ 0
  pub opens : record_at (entry_at read.service 3) 1 ≡ not_open
  pub open_before : record_at (entry_at read.service 3) 2 ≡ not_open
  pub recovering : (table_in read.service).recovering ≡ true
  pub clients : read.service.clients ≡ before.clients
  pub aside : (table_in read_aside.service).embargoed ≡ set none_embargoed 5 true
  pub past_sizes : (table_in read_small.service).embargoed ≡ false ∷ false ∷ false ∷ replicate 5 true
  pub refused : (reading_of before []).reply ≡ Refused 17
  pub stays : (reading_of before []).service ≡ before

pub no_images : NoImage
unfolding is_image image_bytes low below flat decoded_files decoded_used decoded_blocks decoded_embargoes number_at entries_in placed count stored
no_images =
    record {
      version0 = refl;
      version1_without_last = refl;
      no_last_writer = refl;
      file_twice = refl;
      file_descends = refl;
      no_file = refl;
      counts_zero = refl;
      permission2 = refl;
      no_client = refl;
      no_open_file = refl;
      open_twice = refl;
      open_descends = refl;
      by_file_first = refl;
      no_block = refl;
      no_block_file = refl;
      block_twice = refl;
      block_descends = refl;
      embargo_twice = refl;
      embargo_descends = refl;
      no_embargo_client = refl;
      embargo_past_sizes = refl;
      embargoes_missing = refl;
      embargo_left_over = refl;
      embargo_count_too_high = refl;
      count_too_high = refl;
      count_too_low = refl;
      left_over = refl;
      missing = refl;
      empty = refl;
      other_sizes = refl;
      other_store = refl;
      other_store_low = refl;
      store_missing = refl;
    }

pub images : IsImage
unfolding is_image image_bytes low below flat decoded_files decoded_used decoded_blocks decoded_embargoes number_at entries_in placed count stored
images =
    record {
      empty = refl;
      version1 = refl;
      disagree = refl;
      zero_block = refl;
      used_past_store = refl;
      embargo = refl;
      all_embargoed = refl;
      whole = refl;
    }

pub reads : Reads
unfolding fresh step_of moved spaced any_below sum_below file_step block_step table_step first_below state_of permission_at_grant count stored is_image image_bytes low below flat decoded_files decoded_used decoded_blocks decoded_embargoes number_at entries_in placed with_places reading_of
reads =
    record {
      reply = refl;
      version = refl;
      other_version = refl;
      block = refl;
      used = refl;
      used_before = refl;
      not_used = refl;
      not_there = refl;
      free = refl;
      none_free = refl;
      opens = refl;
      open_before = refl;
      recovering = refl;
      clients = refl;
      aside = refl;
      past_sizes = refl;
      refused = refl;
      stays = untouched before [] refl;
    }

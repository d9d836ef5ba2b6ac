-- Images and their writing, from the definitions by evaluation: the whole case of document 01, a hand-made server, used
-- blocks, stores of any size, embargoes, and each refusal. Assumes nothing.
use Prim.Native.Nat.{ℕ}
use mathlib.Core.Path.{◌≡◌, refl}
use mathlib.Core.Bool.{Bool, true, false}
use mathlib.Core.List.{List, [], ◌∷◌, ◌++◌}
use lib.ListN.{replicate, set}
use Rattle.std.specs.Prelude.{Ok, Err}
use Rattle.records.specs.declared.record.Mode.TheVariants.{Read}
use Rattle.records.specs.Record.{not_open}
use Rattle.decision.specs.Lists.{count, stored, first_below}
use Rattle.decision.specs.Permission.{permission_at_grant}
use Rattle.sizes.specs.Sizes.{nobody, place, max_clients, default_sizes}
use Rattle.decision.specs.State.{state_of}
use Rattle.sizes.specs.declared.sizes.Sizes.{Sizes}
use Rattle.file.specs.FileStep.{file_step, after_forgetting, after_dropping}
use Rattle.access.specs.BlockStep.{block_step}
use Rattle.table.specs.TableStep.{table_step}
use Rattle.service.specs.declared.service.Service.{Service}
use Rattle.service.specs.Contents.{table_in, with_space, with_stores, with_table}
use Rattle.service.specs.Embargo.{forgotten_below, grants_below, dropped_below, all_step}
use Rattle.service.specs.Fresh.{fresh}
use Rattle.service.specs.Space.{any_below, sum_below, spaced}
use Rattle.service.specs.Step.{step_of, moved}
use Rattle.service.proofs.Run.{fresh_default, OR, OW, CW, RD, WR, FL, AN, XX, EM, LF, after}
use Rattle.service.proofs.Making.{opens, writing, entry, kinds, waiting, with_entry}
use Rattle.protocol.specs.declared.refusal.Refusal.TheVariants.{InRecovery, OpenWaitsAtWriting, BufferTooShort}
use Rattle.image.specs.Bytes.{low, below, flat}
use Rattle.image.specs.Image.{size_bytes, image_bytes, image_of}
use Rattle.image.specs.Writing.{image_written, buffer_after}

-- the whole case of document 01 up to its line 6, and up to its line 4, where an open waits
abbrev pub whole_case : Service
whole_case = after fresh_default (OW 0 3 ∷ WR 0 3 0 77 ∷ CW 0 3 ∷ OR 1 3 ∷ RD 1 3 0 ∷ AN 0 3 ∷ [])

abbrev pub while_waiting : Service
while_waiting = after fresh_default (OW 0 3 ∷ WR 0 3 0 77 ∷ CW 0 3 ∷ OR 1 3 ∷ [])

abbrev pub whole_image : List ℕ
whole_image =
    size_bytes default_sizes
    ++ (1 ∷ 0 ∷ 3 ∷ 2 ∷ 0 ∷ 0 ∷ 0 ∷ 255 ∷ [])
    ++ (1 ∷ 0 ∷ 1 ∷ 3 ∷ 1 ∷ 0 ∷ 1 ∷ [])
    ++ (1 ∷ 0 ∷ 3 ∷ 0 ∷ 77 ∷ 0 ∷ 0 ∷ 0 ∷ 0 ∷ 0 ∷ 0 ∷ 0 ∷ [])
    ++ (0 ∷ 0 ∷ [])

-- A hand-made server. File 0 is at version 0 with last writer 8, and so as at version 1 without one; client 0 may cache
-- it and has not opened it. File 1 is at version 1 with last writer 5, and client 1 has it open. File 31 is at the last
-- version. Block 3 of file 31 is used, and so is block 0, which is zero; block 1 is 9 and not used. File 32, and block
-- 4 of file 0, are past the sizes.
abbrev hand_made : Service
hand_made =
    let s =
    with_entry 0 (entry 0 (opens 0 0 true) not_open 8)
    (with_entry 1 (entry 1 not_open (opens 255 2 false) 5)
    (with_entry 31 (entry 4294967295 not_open not_open nobody) (with_entry 32 (entry 7 writing not_open 0) fresh_default))) in
    let blocks =
    set (set (set s.server.blocks (place 0 4) 9) (place 31 1) 9) (place 31 3) 18446744073709551615 in
    with_space
    (with_stores s (record { blocks = blocks; copies = s.copies; held = s.held; dirty = s.dirty }))
    (set (set (set s.server.used (place 0 4) true) (place 31 0) true) (place 31 3) true)
    5

-- the service with these embargoes
abbrev pub under_embargo : List Bool → Service → Service
under_embargo embargoed s =
    with_table s
    (record {
      files = (table_in s).files;
      recovering = (table_in s).recovering;
      reported = (table_in s).reported;
      embargoed = embargoed;
    })

abbrev pub none_embargoed : List Bool
none_embargoed = replicate max_clients false

-- the image of a fresh service of these sizes, but for its last section
abbrev pub fresh_image_with : Sizes → List ℕ → List ℕ
fresh_image_with z last = size_bytes z ++ (replicate 6 0 ++ last)

abbrev pub small_sizes : Sizes
small_sizes = record { clients = 3; files = 2; blocks = 1; store = 2 }

-- client 0 has written 0 to block 1 of file 3 and flushed it: a used block that is zero
abbrev zero_written : Service
zero_written = after fresh_default (OW 0 3 ∷ WR 0 3 1 0 ∷ FL 0 3 1 ∷ CW 0 3 ∷ [])

abbrev with_sizes : Sizes → List ℕ
with_sizes z = image_of (fresh z)

pub record Examples : Type 0 where
  pub fresh_image : image_of fresh_default ≡ 8 ∷ 32 ∷ 4 ∷ 0 ∷ 2 ∷ replicate 8 0
  -- the store's size stands after the others, its low byte first; one above 512 is as not given
  pub store :
      with_sizes (record { clients = 3; files = 2; blocks = 1; store = 300 }) ≡ 3 ∷ 2 ∷ 1 ∷ 44 ∷ 1 ∷ replicate 8 0
  pub no_store :
      with_sizes (record { clients = 3; files = 2; blocks = 1; store = 0 }) ≡ 3 ∷ 2 ∷ 1 ∷ 0 ∷ 0 ∷ replicate 8 0
  pub store_not_given :
      with_sizes (record { clients = 3; files = 2; blocks = 1; store = 513 }) ≡ 3 ∷ 2 ∷ 1 ∷ 0 ∷ 2 ∷ replicate 8 0
  -- a used block is listed, though it is zero
  pub zero :
      image_of zero_written
      ≡ size_bytes default_sizes
      ++ (1 ∷ 0 ∷ 3 ∷ 2 ∷ 0 ∷ 0 ∷ 0 ∷ 255 ∷ [])
      ++ (0 ∷ 0 ∷ [])
      ++ (1 ∷ 0 ∷ 3 ∷ 1 ∷ 0 ∷ 0 ∷ 0 ∷ 0 ∷ 0 ∷ 0 ∷ 0 ∷ 0 ∷ [])
      ++ (0 ∷ 0 ∷ [])
  pub whole : image_of whole_case ≡ whole_image
  pub hand :
      image_of hand_made
      ≡ size_bytes default_sizes
      ++ (2 ∷ 0 ∷ 1 ∷ 1 ∷ 0 ∷ 0 ∷ 0 ∷ 5 ∷ 31 ∷ 255 ∷ 255 ∷ 255 ∷ 255 ∷ 255 ∷ [])
      ++ (1 ∷ 0 ∷ 1 ∷ 1 ∷ 255 ∷ 2 ∷ 0 ∷ [])
      ++ (2 ∷ 0 ∷ 31 ∷ 0 ∷ 0 ∷ 0 ∷ 0 ∷ 0 ∷ 0 ∷ 0 ∷ 0 ∷ 0 ∷ [])
      ++ (31 ∷ 3 ∷ 255 ∷ 255 ∷ 255 ∷ 255 ∷ 255 ∷ 255 ∷ 255 ∷ 255 ∷ [])
      ++ (0 ∷ 0 ∷ [])
  -- the client that had the file is put under embargo: its write is lost, it is not last writer any more, and the open
  -- that waited for it is granted; and then it is told
  pub aside :
      image_of (after while_waiting (EM 0 3 ∷ []))
      ≡ size_bytes default_sizes
      ++ (1 ∷ 0 ∷ 3 ∷ 2 ∷ 0 ∷ 0 ∷ 0 ∷ 255 ∷ [])
      ++ (1 ∷ 0 ∷ 1 ∷ 3 ∷ 1 ∷ 0 ∷ 1 ∷ [])
      ++ (0 ∷ 0 ∷ [])
      ++ (1 ∷ 0 ∷ 0 ∷ [])
  pub lifted :
      image_of (after while_waiting (EM 0 3 ∷ LF 0 ∷ []))
      ≡ size_bytes default_sizes
      ++ (1 ∷ 0 ∷ 3 ∷ 2 ∷ 0 ∷ 0 ∷ 0 ∷ 255 ∷ [])
      ++ (1 ∷ 0 ∷ 1 ∷ 3 ∷ 1 ∷ 0 ∷ 1 ∷ [])
      ++ (0 ∷ 0 ∷ [])
      ++ (0 ∷ 0 ∷ [])
  -- one client under embargo, two, and all eight, ascending; one that is past the sizes is not listed
  pub one :
      image_of (under_embargo (set none_embargoed 5 true) fresh_default) ≡ fresh_image_with default_sizes (1 ∷ 0 ∷ 5 ∷ [])
  pub ascending :
      image_of (under_embargo (set (set none_embargoed 6 true) 2 true) fresh_default)
      ≡ fresh_image_with default_sizes (2 ∷ 0 ∷ 2 ∷ 6 ∷ [])
  pub all :
      image_of (under_embargo (replicate max_clients true) fresh_default)
      ≡ fresh_image_with default_sizes (8 ∷ 0 ∷ 0 ∷ 1 ∷ 2 ∷ 3 ∷ 4 ∷ 5 ∷ 6 ∷ 7 ∷ [])
  pub embargo_past_sizes :
      image_of (under_embargo (replicate max_clients true) (fresh small_sizes))
      ≡ fresh_image_with small_sizes (3 ∷ 0 ∷ 0 ∷ 1 ∷ 2 ∷ [])
  -- the length is told, and the byte past the image stays
  pub told : image_written whole_case 35 ≡ Ok 34
  pub past : buffer_after whole_case (replicate 35 9) ≡ whole_image ++ (9 ∷ [])
  -- a buffer that is one byte too short stays as it came; so does one at 15 and at 5, which come first
  pub short : image_written whole_case 33 ≡ Err BufferTooShort
  pub short_stays : buffer_after whole_case (replicate 33 9) ≡ replicate 33 9
  pub waits : image_written while_waiting 0 ≡ Err OpenWaitsAtWriting
  pub waits_stays : buffer_after while_waiting (replicate 64 9) ≡ replicate 64 9
  pub recovering : image_written (after while_waiting (XX ∷ [])) 0 ≡ Err InRecovery
  -- an open of a file that is past the sizes does not wait
  pub past_sizes :
      image_written (with_entry 32 (waiting (entry 1 writing not_open nobody) 1 Read (kinds 3 0)) fresh_default) 13
      ≡ Ok 13

pub examples : Examples
unfolding fresh step_of moved spaced any_below sum_below file_step block_step table_step first_below all_step forgotten_below grants_below dropped_below after_forgetting after_dropping state_of permission_at_grant count stored low below flat image_bytes image_written buffer_after
examples =
    record {
      fresh_image = refl;
      store = refl;
      no_store = refl;
      store_not_given = refl;
      zero = refl;
      whole = refl;
      hand = refl;
      aside = refl;
      lifted = refl;
      one = refl;
      ascending = refl;
      all = refl;
      embargo_past_sizes = refl;
      told = refl;
      past = refl;
      short = refl;
      short_stays = refl;
      waits = refl;
      waits_stays = refl;
      recovering = refl;
      past_sizes = refl;
    }

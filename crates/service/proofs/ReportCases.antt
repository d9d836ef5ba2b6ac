-- Reports that cannot both be true, by evaluation on hand-made services, since no list of steps shows one: each of the four
-- conditions, in both orders, on the first and on the last file in force, and what comes near one and passes. Assumes
-- nothing.
use Prim.Native.Nat.{ℕ}
use mathlib.Core.Path.{◌≡◌, refl}
use mathlib.Core.Bool.{true, false}
use mathlib.Core.List.{List, [], ◌∷◌, ◌++◌}
use Rattle.records.specs.declared.record.ClientRecord.{ClientRecord}
use Rattle.records.specs.Record.{not_open}
use Rattle.decision.specs.Lists.{count, stored, first_below}
use Rattle.decision.specs.State.{state_of}
use Rattle.decision.specs.Permission.{permission_at_grant}
use Rattle.protocol.specs.declared.client.ClientFile.{ClientFile}
use Rattle.protocol.specs.declared.reply.Reply.{Reply}
use Rattle.protocol.specs.declared.reply.Reply.TheVariants.{Refused, Done}
use Rattle.protocol.specs.declared.step.Step.{Step}
use Rattle.protocol.specs.Client.{no_client, with_side as with_side_of}
use Rattle.protocol.specs.Entry.{record_at}
use Rattle.file.specs.FileStep.{file_step, after_forgetting, after_dropping}
use Rattle.access.specs.BlockStep.{block_step}
use Rattle.table.specs.TableStep.{table_step}
use Rattle.service.specs.declared.service.Service.{Service}
use Rattle.service.specs.Contents.{entry_at, sides_at, stores_of, with_file as with_file_at}
use Rattle.service.specs.Embargo.{all_step, forgotten_below, grants_below, dropped_below}
use Rattle.service.specs.Step.{moved, step_of}
use Rattle.service.specs.Space.{spaced, any_below, sum_below}
use Rattle.service.specs.Fresh.{fresh}
use Rattle.service.proofs.Run.{fresh_default, RP, EN, BT, after}
use Rattle.service.proofs.Making.{opens, reading, reading_uncached, writing, writing_uncached, side, in_recovery, reply}

-- what a client says of a file, without the flag and with it
abbrev plain : ClientRecord → ClientFile
plain r = side r false 1

abbrev marked : ClientRecord → ClientFile
marked r = side r true 1

-- a recovery in which clients 0 and 1 say this of file f
abbrev side_at : ℕ → ℕ → ClientFile → Service → Service
side_at f i c s =
    with_file_at s f (record { entry = entry_at s f; sides = with_side_of (sides_at s f) i c }) (stores_of s)

abbrev two : ℕ → ClientFile → ClientFile → Service
two f c d = side_at f 0 c (side_at f 1 d (in_recovery true false fresh_default))

-- the reply to the report of a client alone, and of the second of two
abbrev alone : ℕ → ClientFile → Reply
alone f c = reply (two f c no_client) (RP 0)

abbrev second : ℕ → ClientFile → ClientFile → Reply
second f c d = reply (after (two f c d) (RP 0 ∷ [])) (RP 1)

pub record Clashes (f : ℕ) : Type 0 where
  -- "permission at a station that isn't open"
  pub unopened : alone f (plain (opens 0 0 true)) ≡ Refused 22
  -- "a mark at a station with writers, or open without permission"
  pub marked_writer : alone f (marked writing) ≡ Refused 22
  pub marked_uncached : alone f (marked reading_uncached) ≡ Refused 22
  -- "a marked station and another open or marked"
  pub marked_first : second f (marked not_open) (plain reading) ≡ Refused 22
  pub marked_second : second f (plain reading_uncached) (marked not_open) ≡ Refused 22
  pub both_marked : second f (marked not_open) (marked reading) ≡ Refused 22
  -- "a station with writers and another that may cache"
  pub writes_first : second f (plain writing_uncached) (plain reading) ≡ Refused 22
  pub writes_second : second f (plain reading) (plain writing_uncached) ≡ Refused 22

pub record Passed (f : ℕ) : Type 0 where
  -- the flag at a client that is not open, or reads with permission, and nobody else there
  pub marks_alone : alone f (marked not_open) ≡ Done
  pub marks_reading : alone f (marked reading) ≡ Done
  -- two that read with permission, and two that write without
  pub both_read : second f (plain reading) (plain reading) ≡ Done
  pub both_write : second f (plain writing_uncached) (plain writing_uncached) ≡ Done
  -- a writer with permission, and one that says nothing
  pub writes_alone : second f (plain writing) no_client ≡ Done
  -- what one says that has not reported does not count
  pub unheard : reply (two f (marked not_open) (plain reading)) (RP 1) ≡ Done

pub first_file : Clashes 0 × Passed 0
unfolding fresh step_of moved spaced any_below sum_below file_step block_step table_step first_below state_of permission_at_grant count stored
first_file = (
  record {
    unopened = refl;
    marked_writer = refl;
    marked_uncached = refl;
    marked_first = refl;
    marked_second = refl;
    both_marked = refl;
    writes_first = refl;
    writes_second = refl;
  },
  record {
    marks_alone = refl;
    marks_reading = refl;
    both_read = refl;
    both_write = refl;
    writes_alone = refl;
    unheard = refl;
  },
)

pub last_file : Clashes 31 × Passed 31
unfolding fresh step_of moved spaced any_below sum_below file_step block_step table_step first_below state_of permission_at_grant count stored
last_file = (
  record {
    unopened = refl;
    marked_writer = refl;
    marked_uncached = refl;
    marked_first = refl;
    marked_second = refl;
    both_marked = refl;
    writes_first = refl;
    writes_second = refl;
  },
  record {
    marks_alone = refl;
    marks_reading = refl;
    both_read = refl;
    both_write = refl;
    writes_alone = refl;
    unheard = refl;
  },
)

-- clients 0 and 1 clash on the last file, and on the first they do not
abbrev apart : Service
apart = side_at 0 1 (plain reading) (two 31 (plain writing_uncached) (plain reading))

abbrev refused_there : List Step
refused_there = RP 0 ∷ RP 1 ∷ []

pub record Refusal : Type 0 where
  -- what comes before the clash is not taken, and the client has not reported
  pub not_taken : record_at (entry_at (after apart refused_there) 0) 1 ≡ not_open
  pub still_missing : reply (after apart refused_there) EN ≡ Refused 8
  pub again : reply (after apart refused_there) (RP 1) ≡ Refused 22
  -- what lies past the files in force is not looked at
  pub past : second 32 (plain writing_uncached) (plain reading) ≡ Done
  -- "A restart of the other one lets it report"
  pub after_restart : reply (after apart (refused_there ++ BT 0 ∷ [])) (RP 1) ≡ Done

pub refusal : Refusal
unfolding fresh step_of moved spaced any_below sum_below file_step block_step table_step first_below all_step after_forgetting after_dropping forgotten_below grants_below dropped_below state_of permission_at_grant count stored
refusal = record { not_taken = refl; still_missing = refl; again = refl; past = refl; after_restart = refl }

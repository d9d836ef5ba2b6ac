-- What the promise leaves out, it leaves out for a reason: a step of each kind, and a step on a file whose reply it changes,
-- by evaluation from a fresh service. So do a batch and the reading of an image, which are no steps. Assumes nothing.
use Prim.Native.Nat.{ℕ}
use mathlib.Core.Path.{◌≡◌, refl, sym, ap, ◌∙◌}
use mathlib.Core.Bool.{false}
use mathlib.Core.List.{List, [], ◌∷◌}
use lib.Dec.{eqb}
use borrow.Author.Tests.{eqb-false}
use Rattle.decision.specs.Lists.{count, stored, first_below}
use Rattle.decision.specs.State.{state_of}
use Rattle.decision.specs.Permission.{permission_at_grant}
use Rattle.protocol.specs.declared.reply.Reply.{Reply}
use Rattle.protocol.specs.declared.reply.Reply.TheVariants.{Granted, Waiting, Value, Refused, Done}
use Rattle.protocol.specs.declared.step.Step.{Step}
use Rattle.records.specs.declared.record.Mode.TheVariants.{Write}
use Rattle.protocol.specs.Reply.{letter_of}
use Rattle.file.specs.FileStep.{file_step, after_forgetting, after_dropping}
use Rattle.access.specs.BlockStep.{block_step}
use Rattle.table.specs.TableStep.{table_step}
use Rattle.service.specs.declared.service.Service.{Service}
use Rattle.service.specs.Embargo.{all_step, forgotten_below, grants_below, dropped_below}
use Rattle.service.specs.Step.{moved, step_of}
use Rattle.service.specs.Space.{spaced, any_below, sum_below}
use Rattle.service.specs.Fresh.{fresh}
use Rattle.service.proofs.Run.{OR, OW, CR, RD, XX, RP, EN, BT, EM, LF, grant, after}
use Rattle.batch.specs.Batch.{Opening, batch_of}
use Rattle.image.specs.Bytes.{low, below, flat}
use Rattle.image.specs.Image.{image_of, image_bytes}
use Rattle.restore.specs.Decoded.{number_at, entries_in, placed, decoded_files, decoded_blocks, decoded_used, decoded_embargoes}
use Rattle.restore.specs.Reading.{same_bytes, is_image, with_places, reading_of}
use Rattle.apart.specs.Apart.{Got, gets, then, EitherOrder}

-- step y gets p at service s, and q at service t; the letters of the two differ
pub record Changes (s t : Service) (y : Step) (p q : Reply) : Type 0 where
  pub first : (gets s y).reply ≡ p
  pub second : (gets t y).reply ≡ q
  pub differ : eqb (letter_of p) (letter_of q) ≡ false

-- y gets p where it comes first, and q after x
abbrev pub Meets : Service → Step → Step → Reply → Reply → Type 0
Meets s x y p q = Changes s (then s x) y p q

-- so their order matters
pub order_matters : {s : Service} {x y : Step} {p q : Reply} → Meets s x y p q → EitherOrder s x y → ⊥
order_matters {p = p} {q} h o =
    eqb-false (letter_of p) (letter_of q) h.differ
    (ap letter_of (sym h.first ∙ sym (ap (λ (g : Got). g.reply) o.second) ∙ h.second))

-- an opening of a batch, for write
abbrev write : ℕ → Opening
write f = record { file = f; mode = Write }

-- a fresh service of two clients, two files and one block, after some steps
abbrev small : List Step → Service
small steps = after (fresh (record { clients = 2; files = 2; blocks = 1; store = 512 })) steps

-- client 1 waits for client 0, which is then put under embargo
abbrev called : List Step
called = OW 0 0 ∷ OR 1 0 ∷ []

abbrev aside : List Step
aside = OW 0 0 ∷ OR 1 0 ∷ EM 0 0 ∷ []

pub record Meeting : Type 0 where
  -- in a recovery no file is opened
  pub crash : Meets (small []) XX (OR 0 0) (Granted (grant 1 0)) (Refused 5)
  pub end : Meets (small (XX ∷ RP 0 ∷ RP 1 ∷ [])) EN (OR 0 0) (Refused 5) (Granted (grant 1 0))
  -- in a recovery a client reads what it holds, until it has reported
  pub report : Meets (small (OR 0 0 ∷ RD 0 0 0 ∷ XX ∷ [])) (RP 0) (RD 0 0 0) (Value 0) (Refused 5)
  -- a restart takes all opens
  pub restart : Meets (small (OR 0 0 ∷ [])) (BT 0) (CR 0 0) Done (Refused 11)
  -- an embargo for its call on file 0 holds for file 1 too, until it is lifted
  pub embargo : Meets (small called) (EM 0 0) (OR 0 1) (Granted (grant 1 0)) (Refused 20)
  pub lift : Meets (small aside) (LF 0) (OR 0 1) (Refused 20) (Granted (grant 1 0))
  -- a batch opens more than one file
  pub batch : Changes (small []) (batch_of (small []) 0 (write 0 ∷ write 1 ∷ [])).service (OR 1 1) (Granted (grant 1 0)) Waiting
  -- the reading of an image, here of the service itself, is a crash
  pub image : Changes (small []) (reading_of (small []) (image_of (small []))).service (OR 0 0) (Granted (grant 1 0)) (Refused 5)
  -- two opens of one file
  pub one_file : Meets (small []) (OW 0 0) (OR 1 0) (Granted (grant 1 0)) Waiting

pub meeting : Meeting
unfolding fresh step_of moved spaced any_below sum_below file_step block_step table_step first_below all_step after_forgetting after_dropping forgotten_below grants_below dropped_below state_of permission_at_grant count stored batch_of is_image image_bytes low below flat decoded_files decoded_blocks decoded_used decoded_embargoes number_at entries_in placed with_places reading_of
meeting =
    record {
      crash = record { first = refl; second = refl; differ = refl };
      end = record { first = refl; second = refl; differ = refl };
      report = record { first = refl; second = refl; differ = refl };
      restart = record { first = refl; second = refl; differ = refl };
      embargo = record { first = refl; second = refl; differ = refl };
      lift = record { first = refl; second = refl; differ = refl };
      batch = record { first = refl; second = refl; differ = refl };
      image = record { first = refl; second = refl; differ = refl };
      one_file = record { first = refl; second = refl; differ = refl };
    }

-- What is promised of an accepted read of a client without embargo, wherever it comes: the line that is named is that of
-- the latest accepted write to the file and block that is not lost, with its client, and its value is the value read. Of
-- any accepted read: the copy is told where the read takes it. Of a restart and of an embargo: the writes that are told
-- as lost are those of its dirty blocks. And of an embargo, since which line it is. Crate history promises it in every
-- history.
use Rattle.std.specs.Prelude.{ℕ, ◌<◌, ◌≡◌, Bool, true, false, cond, not, ◌&&◌, ◌||◌, List, [], ◌∷◌, ◌⊎◌, eqb}
use Rattle.protocol.specs.declared.reply.Reply.{Reply}
use Rattle.protocol.specs.declared.reply.Reply.TheVariants.{Value}
use Rattle.protocol.specs.declared.step.Step.{Step}
use Rattle.protocol.specs.declared.step.Step.TheVariants.{Open, Close, Read, Write, Flush, Answer, Crash, Report, End}
use Rattle.protocol.specs.declared.step.Step.TheVariants.{Restart, Embargo, Lift}
use Rattle.protocol.specs.Book.{HistoryOf, wrote, came, lost, risked_by, Named, none, by, first_of}
use Rattle.service.specs.declared.service.Service.{Service}
use Rattle.service.specs.Contents.{sizes_of, block_at, embargoed_at, client_at, copy_at, held_at, dirty_at}
use Rattle.service.specs.Step.{step_of}
use Rattle.service.specs.Demand3.{refused, delays, promises_nothing}
use Rattle.ledger.specs.declared.told.Told.{Told}
use Rattle.ledger.specs.declared.ledger.Ledger.{Ledger}
use Rattle.ledger.specs.Ledger.{waiting_since, embargoed_since, is_waiting, fetches, writes_copy, lines_at, risks_in}
use Rattle.ledger.specs.Ledger.{read_told}

-- ---- the past

-- a line that gave a step: its number, the step, and the service just before it
pub record Event : Type 0 where
  pub line : ℕ
  pub step : Step
  pub before : Service

-- what a line wrote
pub record Noted : Type 0 where
  pub line : ℕ
  pub value : ℕ

-- The accepted writes to block b of file f that are not lost, the newest first, after line n has given the step to the
-- service s; `earlier` were they before. They are those of the reference memory, with their lines: a write under embargo
-- is none of them.
abbrev pub history_after : ℕ → ℕ → ℕ → Service → Step → Bool → HistoryOf Noted → HistoryOf Noted
history_after f b n s (Open m i f') refusal earlier = earlier
history_after f b n s (Close m i f') refusal earlier = earlier
history_after f b n s (Read i f' b') refusal earlier = earlier
history_after f b n s (Write i f' b' v) refusal earlier =
    cond (eqb f f' && eqb b b' && not (refusal || embargoed_at s i))
    (wrote i (record { line = n; value = v }) (delays s i f') earlier)
    earlier
history_after f b n s (Flush i f' b') refusal earlier =
    cond (eqb f f' && eqb b b' && not refusal) (came i earlier) earlier
history_after f b n s (Answer i f') refusal earlier = cond (eqb f f' && not refusal) (came i earlier) earlier
history_after f b n s Crash refusal earlier = earlier
history_after f b n s (Report i) refusal earlier = earlier
history_after f b n s End refusal earlier = earlier
history_after f b n s (Restart i) refusal earlier = cond refusal earlier (lost i earlier)
history_after f b n s (Embargo i f') refusal earlier = cond refusal earlier (lost i earlier)
history_after f b n s (Lift i) refusal earlier = earlier

-- in the past, whose latest event comes first
unfoldable pub history_in : ℕ → ℕ → List Event → HistoryOf Noted
history_in f b [] = []
history_in f b (e ∷ past) =
    history_after f b e.line e.before e.step (refused e.before e.step) (history_in f b past)

-- the write that a write under embargo is, and the write that was lost before, else the one that is lost now
abbrev pub lost_write : Bool → ℕ → Noted → Named Noted
lost_write aside i w = cond aside (by i w) none

abbrev pub earlier_loss : Named Noted → Named Noted → Named Noted
earlier_loss none now = now
earlier_loss (by i w) now = by i w

-- The latest accepted write to the block, where it is lost: its client made it under embargo, or a restart or an embargo
-- of its client took it while it was at risk; and none was accepted since of a client without embargo. k are the writes
-- that are not lost, before the step: one that is lost before it is later than they.
abbrev pub loss_after : ℕ → ℕ → ℕ → Service → Step → Bool → HistoryOf Noted → Named Noted → Named Noted
loss_after f b n s (Open m i f') refusal k earlier = earlier
loss_after f b n s (Close m i f') refusal k earlier = earlier
loss_after f b n s (Read i f' b') refusal k earlier = earlier
loss_after f b n s (Write i f' b' v) refusal k earlier =
    cond (eqb f f' && eqb b b' && not refusal) (lost_write (embargoed_at s i) i (record { line = n; value = v })) earlier
loss_after f b n s (Flush i f' b') refusal k earlier = earlier
loss_after f b n s (Answer i f') refusal k earlier = earlier
loss_after f b n s Crash refusal k earlier = earlier
loss_after f b n s (Report i) refusal k earlier = earlier
loss_after f b n s End refusal k earlier = earlier
loss_after f b n s (Restart i) refusal k earlier =
    cond (not refusal && risked_by i k) (earlier_loss earlier (first_of k)) earlier
loss_after f b n s (Embargo i f') refusal k earlier =
    cond (not refusal && risked_by i k) (earlier_loss earlier (first_of k)) earlier
loss_after f b n s (Lift i) refusal k earlier = earlier

unfoldable pub loss_in : ℕ → ℕ → List Event → Named Noted
loss_in f b [] = none
loss_in f b (e ∷ past) =
    loss_after f b e.line e.before e.step (refused e.before e.step) (history_in f b past) (loss_in f b past)

-- the line of the latest event that the test finds, 0 if it finds none
unfoldable pub latest_line : (Service → Step → Bool) → List Event → ℕ
latest_line found [] = 0
latest_line found (e ∷ past) = cond (found e.before e.step) e.line (latest_line found past)

-- the step fetches block b of file f to client i, or writes client i's copy of it
abbrev pub copies : ℕ → ℕ → ℕ → Service → Step → Bool
copies i f b s (Open m i' f') = false
copies i f b s (Close m i' f') = false
copies i f b s (Read i' f' b') =
    (eqb f f' && eqb b b' && eqb i i')
    && fetches (client_at s i' f').opens.caching (held_at s i' f' b') (step_of s (Read i' f' b')).reply
copies i f b s (Write i' f' b' v) =
    (eqb f f' && eqb b b' && eqb i i')
    && writes_copy (client_at s i' f').opens.caching (step_of s (Write i' f' b' v)).reply
copies i f b s (Flush i' f' b') = false
copies i f b s (Answer i' f') = false
copies i f b s Crash = false
copies i f b s (Report i') = false
copies i f b s End = false
copies i f b s (Restart i') = false
copies i f b s (Embargo i' f') = false
copies i f b s (Lift i') = false

-- the step is an open of file f that has to wait
abbrev pub begins_wait : ℕ → Service → Step → Bool
begins_wait f s (Open m i f') = eqb f f' && is_waiting (step_of s (Open m i f')).reply
begins_wait f s (Close m i f') = false
begins_wait f s (Read i f' b) = false
begins_wait f s (Write i f' b v) = false
begins_wait f s (Flush i f' b) = false
begins_wait f s (Answer i f') = false
begins_wait f s Crash = false
begins_wait f s (Report i) = false
begins_wait f s End = false
begins_wait f s (Restart i) = false
begins_wait f s (Embargo i f') = false
begins_wait f s (Lift i) = false

-- the step is an accepted embargo of client i
abbrev pub embargoes : ℕ → Service → Step → Bool
embargoes i s (Open m i' f) = false
embargoes i s (Close m i' f) = false
embargoes i s (Read i' f b) = false
embargoes i s (Write i' f b v) = false
embargoes i s (Flush i' f b) = false
embargoes i s (Answer i' f) = false
embargoes i s Crash = false
embargoes i s (Report i') = false
embargoes i s End = false
embargoes i s (Restart i') = false
embargoes i s (Embargo i' f) = eqb i i' && not (refused s (Embargo i' f))
embargoes i s (Lift i') = false

-- ---- what is promised of each line

-- the named line, its client and its value are those of the latest write not lost; where there is none no line is
-- named, and the value is 0
abbrev pub NamesWrite : Told → Reply → HistoryOf Noted → Type 0
NamesWrite t reply [] = (t.line ≡ 0) × (reply ≡ Value 0)
NamesWrite t reply (w ∷ ws) =
    (0 < w.value.line) × (t.line ≡ w.value.line) × (t.client ≡ w.client) × (reply ≡ Value w.value.value)

-- a loss is told where the latest accepted write is lost, with the line and the client of that write
abbrev pub NamesLoss : Told → Named Noted → Type 0
NamesLoss t none = t.lost ≡ 0
NamesLoss t (by i w) = (0 < w.line) × (t.lost ≡ w.line) × (t.loser ≡ i)

pub record ReadIsTold (s : Service) (l : Ledger) (past : List Event) (i f b : ℕ) : Type 0 where
  pub origin : NamesWrite (read_told s l i f b) (step_of s (Read i f b)).reply (history_in f b past)
  pub loss : NamesLoss (read_told s l i f b) (loss_in f b past)

pub record CopyIsTold (s : Service) (l : Ledger) (past : List Event) (i f b : ℕ) : Type 0 where
  -- "own copy" is said exactly when the read takes the copy
  pub copy : (read_told s l i f b).own ≡ ((client_at s i f).opens.caching && held_at s i f b)
  pub source :
      (step_of s (Read i f b)).reply ≡ Value (cond (read_told s l i f b).own (copy_at s i f b) (block_at s f b))
  -- the copy's line is the latest at which this client fetched the block, or wrote it in its copy, and there is one
  pub since : (read_told s l i f b).since ≡ latest_line (copies i f b) past
  pub some : (read_told s l i f b).own ≡ true → 0 < (read_told s l i f b).since

-- What is told of the writes that a restart or an embargo of client i loses: those of its dirty blocks, each with its
-- latest line. Of a client under embargo they were lost before.
pub record LossIsTold (s : Service) (l : Ledger) (past : List Event) (i f b : ℕ) : Type 0 where
  pub dirty : risks_in i (lines_at l f b) ≡ (dirty_at s i f b && not (embargoed_at s i))
  pub line :
      (dirty_at s i f b && not (embargoed_at s i)) ≡ true
      → (w : Noted) × (first_of (history_in f b past) ≡ by i w) × ((lines_at l f b).risk ≡ w.line)

-- where a step is to be explained: reads, restarts and embargoes, since when an open of a file waits, and since when a
-- client is under embargo
pub record LineIsTold (s : Service) (l : Ledger) (past : List Event) (x : Step) : Type 0 where
  pub reads :
      (i f b : ℕ) → x ≡ Read i f b → promises_nothing s i ≡ false → refused s x ≡ false → ReadIsTold s l past i f b
  pub copied : (i f b : ℕ) → x ≡ Read i f b → refused s x ≡ false → CopyIsTold s l past i f b
  pub losses :
      (i g f b : ℕ)
      → (x ≡ Restart i) ⊎ (x ≡ Embargo i g)
      → refused s x ≡ false
      → f < (sizes_of s).files
      → b < (sizes_of s).blocks
      → LossIsTold s l past i f b
  pub waits : (f : ℕ) → f < (sizes_of s).files → waiting_since l f ≡ latest_line (begins_wait f) past
  -- the latest accepted embargo of the client, and there is one
  pub aside :
      (i : ℕ)
      → i < (sizes_of s).clients
      → embargoed_at s i ≡ true
      → (0 < embargoed_since l i) × (embargoed_since l i ≡ latest_line (embargoes i) past)

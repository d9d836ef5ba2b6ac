-- Demand 3, over whole lists of steps: every accepted read of a client without embargo gives the latest accepted write that
-- is not lost, and every accepted end of recovery gives back the table that was held just before the crash that began the
-- recovery, without the clients that have restarted since.
use Rattle.std.specs.Prelude.{ℕ, ◌<◌, ◌≡◌, Bool, false, cond, ◌&&◌, ◌||◌, List, [], ◌∷◌, map, eqb, take}
use Rattle.protocol.specs.declared.reply.Reply.TheVariants.{Value}
use Rattle.protocol.specs.declared.step.Step.{Step}
use Rattle.protocol.specs.declared.step.Step.TheVariants.{Open, Close, Read, Write, Flush, Answer, Crash, Report, End}
use Rattle.protocol.specs.declared.step.Step.TheVariants.{Restart, Embargo, Lift}
use Rattle.sizes.specs.declared.sizes.Sizes.{Sizes}
use Rattle.protocol.specs.Reply.{is_refused}
use Rattle.protocol.specs.Entry.{waits}
use Rattle.protocol.specs.Book.{History, latest, wrote, came, lost}
use Rattle.protocol.specs.Table.{Row, row_of, seen, without}
use Rattle.service.specs.declared.service.Service.{Service}
use Rattle.service.specs.Contents.{sizes_of, table_in, entry_at, embargoed_at, client_at}
use Rattle.service.specs.Step.{step_of}
use Rattle.service.specs.Fresh.{fresh}

-- whether the step is refused, and the service that it hands back
abbrev pub refused : Service → Step → Bool
refused s x = is_refused (step_of s x).reply

abbrev pub after : Service → Step → Service
after s x = (step_of s x).service

-- The reference memory (document 01: the plain book): for each file and block the accepted writes that are not lost.
abbrev pub Memory : Type 0
Memory = ℕ → ℕ → History

abbrev pub blank : Memory
blank f b = []

-- the memory with another history of block b of file f, or of every block of file f
abbrev pub at_block : Memory → ℕ → ℕ → (History → History) → Memory
at_block m f b change f' b' = cond (eqb f' f && eqb b' b) (change (m f' b')) (m f' b')

abbrev pub at_file : Memory → ℕ → (History → History) → Memory
at_file m f change f' b' = cond (eqb f' f) (change (m f' b')) (m f' b')

-- whether a write of client i to file f is delayed: the client may cache, so that the write stays in its copy
abbrev pub delays : Service → ℕ → ℕ → Bool
delays s i f = (client_at s i f).opens.caching

-- An accepted write stands first in the history of its block, whichever client writes; it is at risk where it is
-- delayed. An accepted flush makes the client's writes to the block safe, an accepted answer those to the file. At a
-- restart "Its writes to a block since it was last clean there are lost" (document 02, Wish 8): those at risk. Under embargo
-- "its dirty blocks and the cached writes it still makes are lost for good" (Wish 9): the former go at the embargo, and
-- the latter never stand here; `aside` says whose they are. "Every other step, and every refused one, leaves the book as
-- it is."
abbrev pub fed : Memory → Step → Bool → (ℕ → ℕ → Bool) → (ℕ → Bool) → Memory
fed m (Open mode i f) refusal delayed aside = m
fed m (Close mode i f) refusal delayed aside = m
fed m (Read i f b) refusal delayed aside = m
fed m (Write i f b v) refusal delayed aside =
    cond (refusal || aside i) m (at_block m f b (wrote i v (delayed i f)))
fed m (Flush i f b) refusal delayed aside = cond refusal m (at_block m f b (came i))
fed m (Answer i f) refusal delayed aside = cond refusal m (at_file m f (came i))
fed m Crash refusal delayed aside = m
fed m (Report i) refusal delayed aside = m
fed m End refusal delayed aside = m
fed m (Restart i) refusal delayed aside = cond refusal m (λ f b. lost i (m f b))
fed m (Embargo i f) refusal delayed aside = cond refusal m (λ f b. lost i (m f b))
fed m (Lift i) refusal delayed aside = m

-- the memory after the step x of the service s
abbrev pub remembered : Service → Memory → Step → Memory
remembered s m x = fed m x (refused s x) (delays s) (embargoed_at s)

-- the state table of the service: a row for each file, with a record for each client
abbrev pub table_of : Service → List Row
table_of s = map (λ e. row_of (seen (sizes_of s).clients e)) (take (sizes_of s).files (table_in s).files)

abbrev pub NoOpenWaits : Service → Type 0
NoOpenWaits s = (f : ℕ) → f < (sizes_of s).files → waits (sizes_of s).clients (entry_at s f) ≡ false

-- "A recovery begins with a crash that comes while none is under way, and lasts, through any further crashes, to the
-- next accepted end": none is under way, or one with the table just before the crash that began it.
pub data Recovery : Type 0 where
  none : Recovery
  since : List Row → Recovery

abbrev pub begun : Service → Recovery → Recovery
begun s none = since (table_of s)
begun s (since t) = since t

-- "The recovered table is the one at the crash without that station" (the same)
abbrev pub without_client : ℕ → Recovery → Recovery
without_client i none = none
without_client i (since t) = since (map (without i) t)

abbrev pub recovery_after : Service → Recovery → Step → Bool → Recovery
recovery_after s r (Open mode i f) refusal = r
recovery_after s r (Close mode i f) refusal = r
recovery_after s r (Read i f b) refusal = r
recovery_after s r (Write i f b v) refusal = r
recovery_after s r (Flush i f b) refusal = r
recovery_after s r (Answer i f) refusal = r
recovery_after s r Crash refusal = begun s r
recovery_after s r (Report i) refusal = r
recovery_after s r End refusal = cond refusal r none
recovery_after s r (Restart i) refusal = cond refusal r (without_client i r)
recovery_after s r (Embargo i f) refusal = r
recovery_after s r (Lift i) refusal = r

-- "Until it is told (LF station) its own reads promise nothing" (document 02, Wish 9)
abbrev pub promises_nothing : Service → ℕ → Bool
promises_nothing s i = embargoed_at s i

-- "Every accepted read gives the number that the book has for its file and block just before that read"; "everybody else
-- reads the latest write not lost"
abbrev pub ReadIsLatest : Service → Memory → Step → Type 0
ReadIsLatest s m x =
    (i f b : ℕ)
    → x ≡ Read i f b
    → promises_nothing s i ≡ false
    → refused s x ≡ false
    → (step_of s x).reply ≡ Value (latest (m f b))

-- "After that end the table equals the one just before the crash that began the recovery, and no open waits."
abbrev pub EndRestores : Service → Recovery → Step → Type 0
EndRestores s r x =
    x ≡ End → refused s x ≡ false → (t : List Row) × (r ≡ since t) × (table_of (after s x) ≡ t) × NoOpenWaits (after s x)

-- Both hold at each step of the list, "each step takes the service that the one before handed back".
abbrev pub Holds : Service → Memory → Recovery → List Step → Type 0
Holds s m r [] = Unit {0}
Holds s m r (x ∷ xs) =
    ReadIsLatest s m x
    × EndRestores s r x
    × Holds (after s x) (remembered s m x) (recovery_after s r x (refused s x)) xs

-- For every list of steps, from the service s on: no reference memory written yet, no recovery under way.
pub record Consistent (s : Service) : Type 0 where
  pub always : (steps : List Step) → Holds s blank none steps

-- Demand 3, for any sizes: those out of range count as not given
abbrev pub Demand3 : Type 0
Demand3 = (z : Sizes) → Consistent (fresh z)

-- The ledger: which lines wrote each block, at which line each copy came to its client, and since which line an open
-- waits and a client is under embargo. Lines have numbers from 1; 0 stands for none. The places are those of the blocks
-- and of the copies.
use Rattle.std.specs.Prelude.{ℕ, zero, suc, ◌+◌, ◌*◌, Bool, true, false, cond, not, ◌&&◌, List, eqb, get_or, set, replicate}
use Rattle.sizes.specs.Sizes.{max_clients, max_files, max_blocks, max_places, max_cells, place, cell}
use Rattle.protocol.specs.declared.reply.Reply.{Reply}
use Rattle.protocol.specs.declared.reply.Reply.TheVariants.{Granted, Waiting, Value, Refused, Answered}
use Rattle.protocol.specs.declared.reply.Reply.TheVariants.{AnsweredGrant, Done}
use Rattle.protocol.specs.declared.step.Step.{Step}
use Rattle.protocol.specs.declared.step.Step.TheVariants.{Open, Close, Read, Write, Flush, Answer, Crash, Report, End}
use Rattle.protocol.specs.declared.step.Step.TheVariants.{Restart, Embargo, Lift}
use Rattle.protocol.specs.Reply.{is_refused}
use Rattle.protocol.specs.Step.{client_of, file_of, block_of}
use Rattle.blocks.specs.declared.stores.Stores.{Stores}
use Rattle.blocks.specs.Stores.{held_in, dirty_in}
use Rattle.service.specs.declared.service.Service.{Service}
use Rattle.service.specs.Contents.{embargoed_at, client_at, stores_of}
use Rattle.service.specs.Step.{step_of}
use Rattle.ledger.specs.declared.ledger.Ledger.{Ledger}
use Rattle.ledger.specs.declared.lines.Lines.{Lines}
use Rattle.ledger.specs.declared.told.Told.{Told}

-- the lent arrays, together
abbrev pub entered : List ℕ → List ℕ → List ℕ → List ℕ → Ledger
entered written writers copied since =
    record { written = written; writers = writers; copied = copied; since = since }

-- three writes are noted of each block: the latest that is safe, the latest that is at risk, and the latest if it was
-- lost
abbrev pub notes : ℕ
notes = 3 * max_places

-- one line is noted of each file, since which an open of it waits, and after them one of each client, since which it is
-- under embargo
abbrev pub beginnings : ℕ
beginnings = max_files + max_clients

-- nothing is noted yet
unfoldable pub empty_ledger : Ledger
empty_ledger = entered (replicate notes 0) (replicate notes 0) (replicate max_cells 0) (replicate beginnings 0)

-- what stands in it: the lines and the clients of the writes to the block at place p, and to block b of file f
abbrev pub lines_in : Ledger → ℕ → Lines
lines_in l p =
    record {
      safe = get_or l.written p 0;
      saver = get_or l.writers p 0;
      risk = get_or l.written (max_places + p) 0;
      risker = get_or l.writers (max_places + p) 0;
      lost = get_or l.written (2 * max_places + p) 0;
      loser = get_or l.writers (2 * max_places + p) 0;
    }

abbrev pub lines_at : Ledger → ℕ → ℕ → Lines
lines_at l f b = lines_in l (place f b)

abbrev pub copied_at : Ledger → ℕ → ℕ → ℕ → ℕ
copied_at l i f b = get_or l.copied (cell i f b) 0

abbrev pub waiting_since : Ledger → ℕ → ℕ
waiting_since l f = get_or l.since f 0

abbrev pub embargoed_since : Ledger → ℕ → ℕ
embargoed_since l i = get_or l.since (max_files + i) 0

-- ---- what a line makes of it

-- line n is noted, if the test holds: at a file, or at a copy
abbrev pub wait_noted : Bool → ℕ → ℕ → Ledger → Ledger
wait_noted test n f l =
    entered l.written l.writers l.copied (cond test (set l.since f n) l.since)

abbrev pub copy_noted : Bool → ℕ → ℕ → ℕ → ℕ → Ledger → Ledger
copy_noted test n i f b l =
    entered l.written l.writers (cond test (set l.copied (cell i f b) n) l.copied) l.since

-- client i is under embargo since line n, or with 0 not any more
abbrev pub embargo_noted : ℕ → ℕ → Ledger → Ledger
embargo_noted n i l = entered l.written l.writers l.copied (set l.since (max_files + i) n)

-- the ledger with other lines of the block at place p
abbrev pub with_lines : ℕ → Lines → Ledger → Ledger
with_lines p x l =
    entered
    (set (set (set l.written p x.safe) (max_places + p) x.risk) (2 * max_places + p) x.lost)
    (set (set (set l.writers p x.saver) (max_places + p) x.risker) (2 * max_places + p) x.loser)
    l.copied
    l.since

-- Line n of client i writes the block: a delayed write is at risk, one that is sent at once is safe. Under embargo "the
-- cached writes it still makes are lost for good" (document 02, Wish 9), and the others stay as they are; `aside` says
-- whether the client is under embargo.
abbrev pub wrote_lines : ℕ → ℕ → Bool → Bool → Lines → Lines
wrote_lines n i true delayed x =
    record { safe = x.safe; saver = x.saver; risk = x.risk; risker = x.risker; lost = n; loser = i }
wrote_lines n i false true x =
    record { safe = x.safe; saver = x.saver; risk = n; risker = i; lost = 0; loser = 0 }
wrote_lines n i false false x = record { safe = n; saver = i; risk = 0; risker = 0; lost = 0; loser = 0 }

abbrev pub write_noted : ℕ → ℕ → ℕ → Bool → Bool → Ledger → Ledger
write_noted n i p aside delayed l = with_lines p (wrote_lines n i aside delayed (lines_in l p)) l

-- whether a write of client i is at risk
abbrev pub risks_in : ℕ → Lines → Bool
risks_in i x = not (eqb x.risk 0) && eqb x.risker i

-- What client i had at risk has come to the server, or is lost. A write that is lost already is the later one: it was
-- made under embargo, since any other clears the loss.
abbrev pub came_lines : ℕ → Lines → Lines
came_lines i x =
    cond (risks_in i x)
    (record { safe = x.risk; saver = x.risker; risk = 0; risker = 0; lost = x.lost; loser = x.loser })
    x

abbrev pub lost_lines : ℕ → Lines → Lines
lost_lines i x =
    cond (risks_in i x)
    (record {
      safe = x.safe;
      saver = x.saver;
      risk = 0;
      risker = 0;
      lost = cond (eqb x.lost 0) x.risk x.lost;
      loser = cond (eqb x.lost 0) x.risker x.loser;
    })
    x

-- at place p
abbrev pub came_at : ℕ → ℕ → Ledger → Ledger
came_at i p l = with_lines p (came_lines i (lines_in l p)) l

abbrev pub lost_at : ℕ → ℕ → Ledger → Ledger
lost_at i p l = with_lines p (lost_lines i (lines_in l p)) l

-- at k places from p on, and at all below k
unfoldable pub came_from : ℕ → ℕ → ℕ → Ledger → Ledger
came_from i p zero l = l
came_from i p (suc k) l = came_at i (p + k) (came_from i p k l)

unfoldable pub lost_below : ℕ → ℕ → Ledger → Ledger
lost_below i zero l = l
lost_below i (suc k) l = lost_at i k (lost_below i k l)

abbrev pub is_waiting : Reply → Bool
is_waiting (Granted g) = false
is_waiting Waiting = true
is_waiting (Value v) = false
is_waiting (Refused k) = false
is_waiting (Answered n) = false
is_waiting (AnsweredGrant n i g) = false
is_waiting Done = false

-- "a station that may cache gives the held block, or fetches and holds it": such a read copies the block to the client
abbrev pub fetches : Bool → Bool → Reply → Bool
fetches caching held reply = not (is_refused reply) && (caching && not held)

-- "with permission the copy is written, held and dirty; without, the server's block": such a write is in the copy
abbrev pub writes_copy : Bool → Reply → Bool
writes_copy caching reply = not (is_refused reply) && caching

-- Line n gave the step, and the step the reply: an open that waits is noted; a read that fetches is noted at the
-- copy; an accepted write at the block, with its client, and at the copy if it is written there. An accepted flush and
-- an accepted answer bring what the client had at risk to the server, at the block and on the file. At a restart and at
-- an embargo that is lost, everywhere. An embargo is noted with its line, until the client restarts or is told.
-- `caching` and `held` say of the client that reads or writes whether it could cache, and held the block, before the
-- step, and `aside` whether it was under embargo.
abbrev pub noted : ℕ → Step → Reply → Bool → Bool → Bool → Ledger → Ledger
noted n (Open m i f) reply caching held aside l = wait_noted (is_waiting reply) n f l
noted n (Close m i f) reply caching held aside l = l
noted n (Read i f b) reply caching held aside l = copy_noted (fetches caching held reply) n i f b l
noted n (Write i f b v) reply caching held aside l =
    copy_noted (writes_copy caching reply) n i f b
    (cond (is_refused reply) l (write_noted n i (place f b) aside caching l))
noted n (Flush i f b) reply caching held aside l = cond (is_refused reply) l (came_from i (place f b) 1 l)
noted n (Answer i f) reply caching held aside l = cond (is_refused reply) l (came_from i (place f 0) max_blocks l)
noted n Crash reply caching held aside l = l
noted n (Report i) reply caching held aside l = l
noted n End reply caching held aside l = l
noted n (Restart i) reply caching held aside l =
    cond (is_refused reply) l (embargo_noted 0 i (lost_below i max_places l))
noted n (Embargo i f) reply caching held aside l =
    cond (is_refused reply) l (embargo_noted n i (lost_below i max_places l))
noted n (Lift i) reply caching held aside l = cond (is_refused reply) l (embargo_noted 0 i l)

-- whether the client that the step names may cache the file that it names, holds the block, and is under embargo
abbrev pub may_cache : Service → Step → Bool
may_cache s x = (client_at s (client_of x) (file_of x)).opens.caching

abbrev pub holds_block : Service → Step → Bool
holds_block s x = held_in (stores_of s) (client_of x) (file_of x) (block_of x)

abbrev pub is_aside : Service → Step → Bool
is_aside s x = embargoed_at s (client_of x)

-- the ledger after line n, which gave the step x to the service s
unfoldable pub ledger_after : ℕ → Service → Step → Ledger → Ledger
ledger_after n s x l = noted n x (step_of s x).reply (may_cache s x) (holds_block s x) (is_aside s x) l

-- ---- what it tells of a read

-- "the latest write not lost": the line and the client of the one at risk, else of the safe one
abbrev pub latest_in : Lines → ℕ × ℕ
latest_in x = cond (eqb x.risk 0) (x.safe, x.saver) (x.risk, x.risker)

-- The copy is taken where `value_read` takes it (crates/blocks/specs/Stores.antt): "a station that may cache gives the
-- held block".
abbrev pub told_of : Bool → Stores → Ledger → ℕ → ℕ → ℕ → Told
told_of caching a l i f b =
    record {
      own = caching && held_in a i f b;
      dirty = dirty_in a i f b;
      since = copied_at l i f b;
      line = (latest_in (lines_at l f b)).0;
      client = (latest_in (lines_at l f b)).1;
      lost = (lines_at l f b).lost;
      loser = (lines_at l f b).loser;
    }

-- what is told of a read by client i of block b of file f, before the read
abbrev pub read_told : Service → Ledger → ℕ → ℕ → ℕ → Told
read_told s l i f b = told_of (client_at s i f).opens.caching (stores_of s) l i f b

-- of the block that a step names
abbrev pub step_told : Service → Ledger → Step → Told
step_told s l x = read_told s l (client_of x) (file_of x) (block_of x)

-- The steps on one file: an open, a close, a flush and an answer, at both sides; and what is done to it where the server
-- forgets a client, and where a client drops what it has. They look at the sizes in force z, at whether the client is
-- under embargo and the server recovers, at the file as both sides have it, and at its blocks and copies among all.
use Rattle.std.specs.Prelude.{ℕ, Bool, false, cond, List, eqb}
use Rattle.records.specs.declared.record.Mode.{Mode}
use Rattle.sizes.specs.declared.sizes.Sizes.{Sizes}
use Rattle.protocol.specs.declared.entry.Entry.{Entry}
use Rattle.protocol.specs.declared.reply.Grant.{Grant}
use Rattle.protocol.specs.declared.reply.Reply.{Reply}
use Rattle.protocol.specs.declared.reply.Reply.TheVariants.{Granted, Waiting, Refused, Answered, AnsweredGrant, Done}
use Rattle.protocol.specs.declared.shared.SharedFile.{SharedFile}
use Rattle.protocol.specs.declared.step.Step.{Step}
use Rattle.decision.specs.Callback.{asks_nothing}
use Rattle.protocol.specs.Step.{FileAct, opens, closes, flushes, answers, nothing, file_act}
use Rattle.protocol.specs.Entry.{call_to, calls_out, calls_for, calls_due, waiting_entry, grant_of, granted_entry}
use Rattle.protocol.specs.Entry.{closed_entry, flushed_entry, answered_entry, forgotten_entry}
use Rattle.protocol.specs.Client.{side_of, with_side, granted_client, keeps_blocks, closed_client, flushed_client}
use Rattle.protocol.specs.Client.{answered_client, no_client}
use Rattle.protocol.specs.Reply.{no_calls}
use Rattle.protocol.specs.Refusal.{Test, tested, open_tests, close_tests, flush_tests, answer_tests}
use Rattle.blocks.specs.declared.stores.Stores.{Stores}
use Rattle.blocks.specs.Stores.{dirty_in, any_dirty, sent_blocks, dropped_unless, answered_stores}
use Rattle.blocks.specs.Stores.{flushed_stores}

-- what a step leaves: the file at both sides, the blocks and copies, the reply, and the callbacks that go out
pub record FileAfter : Type 0 where
  pub file : SharedFile
  pub stores : Stores
  pub reply : Reply
  pub calls : List ℕ

-- what a step leaves that sends no callback
abbrev pub leaving : SharedFile → Stores → Reply → FileAfter
leaving x a reply = record { file = x; stores = a; reply = reply; calls = no_calls }

-- "A refusal gives only its number; server, stations and every lent buffer stay as they came."
abbrev pub unless_tested : List Test → SharedFile → Stores → FileAfter → FileAfter
unless_tested ts x a after = tested ts (λ k. leaving x a (Refused k)) after

-- ---- opening

-- An open is granted: the entry and the opener's side change, and the opener's copy is kept or dropped.
abbrev pub granted : Sizes → ℕ → SharedFile → Stores → ℕ → Mode → Grant → Reply → FileAfter
granted z f x a i mode g reply =
    leaving
    (record {
      entry = granted_entry z.clients x.entry i mode g;
      sides = with_side x.sides i (granted_client mode g (side_of x.sides i));
    })
    (dropped_unless z.blocks (keeps_blocks mode g (side_of x.sides i)) i f a)
    reply

-- the open waits, with its callbacks out
abbrev pub waiting : Sizes → SharedFile → Stores → ℕ → Mode → FileAfter
waiting z x a i mode =
    record {
      file = record { entry = waiting_entry z.clients x.entry i mode; sides = x.sides };
      stores = a;
      reply = Waiting;
      calls = calls_due z.clients x.entry i mode no_calls;
    }

-- "With no call due the open is granted in that step; else it waits"
abbrev pub after_open : Sizes → SharedFile → Stores → Mode → ℕ → ℕ → FileAfter
after_open z x a mode i f =
    let g = grant_of z.clients x.entry i mode in
    cond (eqb (calls_for z.clients x.entry i mode) 0)
    (granted z f x a i mode g (Granted g))
    (waiting z x a i mode)

-- ---- closing and flushing

-- "sets mark and last writer if a block is dirty, else clears both" (document 02, Wish 4): whether a block of the
-- file is dirty there, both sides are told
abbrev pub closed_file : SharedFile → Mode → ℕ → Bool → SharedFile
closed_file x mode i dirty =
    record {
      entry = closed_entry x.entry i mode dirty;
      sides = with_side x.sides i (closed_client mode dirty (side_of x.sides i));
    }

abbrev pub after_close : Sizes → SharedFile → Stores → Mode → ℕ → ℕ → FileAfter
after_close z x a mode i f = leaving (closed_file x mode i (any_dirty z.blocks i f a)) a Done

-- "one dirty block goes to the server and is clean"; "the flush of the last dirty block clears the mark and, if the
-- station is last writer, that" (document 02, Wish 4): whether another of the file is left, both sides are told
abbrev pub flushed_file : SharedFile → ℕ → Bool → SharedFile
flushed_file x i left =
    record {
      entry = flushed_entry x.entry i left;
      sides = with_side x.sides i (flushed_client left (side_of x.sides i));
    }

abbrev pub after_flush : Sizes → SharedFile → Stores → ℕ → ℕ → ℕ → FileAfter
after_flush z x a i f b =
    let sent = flushed_stores i f b a in
    leaving (flushed_file x i (any_dirty z.blocks i f sent)) sent Done

-- ---- answering

-- client i has answered its callback of the kind, and tells how many blocks it sent
abbrev pub answered : Sizes → ℕ → SharedFile → Stores → ℕ → ℕ → FileAfter
answered z f x a i kind =
    leaving
    (record {
      entry = answered_entry x.entry i kind;
      sides = with_side x.sides i (answered_client kind (side_of x.sides i));
    })
    (answered_stores z.blocks kind i f a)
    (Answered (sent_blocks z.blocks kind i f a))

-- the open that waits is granted, by an answer that sent so many blocks
abbrev pub waiter_granted : Sizes → ℕ → ℕ → SharedFile → Stores → FileAfter
waiter_granted z f sent x a =
    let g = grant_of z.clients x.entry x.entry.waiter x.entry.mode in
    granted z f x a x.entry.waiter x.entry.mode g (AnsweredGrant sent x.entry.waiter g)

-- "granted in the step in which the last called station replies"
abbrev pub granted_if_last : Sizes → ℕ → ℕ → FileAfter → FileAfter
granted_if_last z f sent o =
    cond (eqb (calls_out z.clients o.file.entry) 0) (waiter_granted z f sent o.file o.stores) o

abbrev pub after_answer : Sizes → SharedFile → Stores → ℕ → ℕ → FileAfter
after_answer z x a i f =
    let kind = call_to z.clients x.entry i in
    granted_if_last z f (sent_blocks z.blocks kind i f a) (answered z f x a i kind)

-- ---- a step

abbrev pub acted : Sizes → Bool → Bool → SharedFile → Stores → FileAct → FileAfter
acted z embargoed recovering x a (opens m i f) =
    unless_tested (open_tests z embargoed recovering x.entry (side_of x.sides i) m i f) x a (after_open z x a m i f)
acted z embargoed recovering x a (closes m i f) =
    unless_tested (close_tests z embargoed recovering x.entry (side_of x.sides i) m i f) x a (after_close z x a m i f)
acted z embargoed recovering x a (flushes i f b) =
    unless_tested (flush_tests z embargoed recovering (dirty_in a i f b) i f b) x a (after_flush z x a i f b)
acted z embargoed recovering x a (answers i f) =
    unless_tested (answer_tests z embargoed recovering x.entry i f) x a (after_answer z x a i f)
acted z embargoed recovering x a nothing = leaving x a Done

-- a step that is on no one file leaves all as it came
unfoldable pub file_step : Sizes → Bool → Bool → SharedFile → Stores → Step → FileAfter
file_step z embargoed recovering x a y = acted z embargoed recovering x a (file_act y)

-- ---- the server forgets a client, and the client drops what it has

-- the file with another entry, at a client that notices nothing
abbrev pub with_entry : SharedFile → Entry → SharedFile
with_entry x e = record { entry = e; sides = x.sides }

-- "Its counts, permissions, marks .. and any waiting open of its own go .., with the calls of that open. Then a call on
-- it counts as replied to with no blocks, which may grant opens of others" (document 02, Wish 8), at the server's end
unfoldable pub after_forgetting : Sizes → ℕ → SharedFile → Stores → ℕ → FileAfter
after_forgetting z f x a i =
    let e = forgotten_entry z.clients x.entry i in
    let kind = call_to z.clients e i in
    cond (asks_nothing kind) (leaving (with_entry x e) a Done)
    (granted_if_last z f 0 (leaving (with_entry x (answered_entry e i kind)) a (Answered 0)))

-- "Its counts, permissions, marks, copies .. go" at the client's end
unfoldable pub after_dropping : Sizes → ℕ → SharedFile → Stores → ℕ → FileAfter
after_dropping z f x a i =
    leaving
    (record { entry = x.entry; sides = with_side x.sides i no_client })
    (dropped_unless z.blocks false i f a)
    Done

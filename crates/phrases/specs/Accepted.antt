-- What is said of an accepted step.
use Rattle.std.specs.Prelude.{ℕ, zero, suc, Bool, cond, not, List, [], ◌∷◌, ◌++◌, eqb}
use Rattle.records.specs.declared.record.Mode.{Mode}
use Rattle.records.specs.declared.version.Version.{Version}
use Rattle.records.specs.Version.{number_of, is_no_version}
use Rattle.sizes.specs.Sizes.{max_clients}
use Rattle.decision.specs.Callback.{ordered_calls, asks_nothing, writes_back, invalidates}
use Rattle.decision.specs.State.{state_of}
use Rattle.protocol.specs.declared.client.ClientFile.{ClientFile}
use Rattle.protocol.specs.declared.entry.Entry.{Entry}
use Rattle.protocol.specs.declared.reply.Grant.{Grant}
use Rattle.protocol.specs.declared.step.Step.{Step}
use Rattle.protocol.specs.declared.step.Step.TheVariants.{Open, Close, Read, Write, Flush, Answer, Crash, Report, End}
use Rattle.protocol.specs.declared.step.Step.TheVariants.{Restart, Embargo, Lift}
use Rattle.protocol.specs.Client.{keeps_blocks}
use Rattle.protocol.specs.Entry.{record_at, call_to}
use Rattle.stepfile.specs.Text.{bytes, argument_text}
use Rattle.ledger.specs.declared.lines.Lines.{Lines}
use Rattle.ledger.specs.declared.told.Told.{Told}
use Rattle.ledger.specs.Ledger.{risks_in}
use Rattle.phrases.specs.Phrase.{client_text, file_text, block_text, for_text, open_text, embargo_text, state_text}
use Rattle.phrases.specs.Phrase.{list_text}

-- ---- reads

-- which copy: the client's own, with the line at which it was fetched or written there, or the server's
abbrev pub own_text : Bool → ℕ → List ℕ
own_text dirty since =
    bytes ": from its own copy" ++ (cond dirty (bytes ", dirty") [] ++ (bytes ", since line" ++ argument_text since))

abbrev pub source_text : Told → List ℕ
source_text t = cond t.own (own_text t.dirty t.since) (bytes ": from the server")

-- no line wrote it, or each that did was lost: it is 0, or the session began with an image
abbrev pub unwritten_text : Bool → ℕ → List ℕ
unwritten_text fresh lost =
    cond fresh (cond (eqb lost 0) (bytes "; never written") (bytes "; as at the start")) (bytes "; as the image has it")

-- whose write, which line; `fresh` says whether the session began with the fresh service
abbrev pub written_text : Bool → Told → List ℕ
written_text fresh t =
    cond (eqb t.line 0)
    (unwritten_text fresh t.lost)
    (bytes "; written by " ++ (client_text t.client ++ (bytes " at line" ++ argument_text t.line)))

-- "Its writes to a block since it was last clean there are lost" (document 02, Wish 8): a later write to the block,
-- where a restart or an embargo has lost it
abbrev pub lost_text : Told → List ℕ
lost_text t =
    cond (eqb t.lost 0)
    []
    (bytes "; the write of "
    ++ (client_text t.loser ++ (bytes " at line" ++ (argument_text t.lost ++ bytes " was lost"))))

abbrev pub origin_text : Bool → Told → List ℕ
origin_text fresh t = written_text fresh t ++ lost_text t

-- "its own reads promise nothing" (document 02, Wish 9)
abbrev pub unpromised_text : ℕ → List ℕ
unpromised_text embargo = bytes "; nothing is promised: it" ++ embargo_text embargo

-- `aside` says whether the client is under embargo, and `embargo` since which line
abbrev pub worth_text : Bool → Told → Bool → ℕ → List ℕ
worth_text fresh t aside embargo = cond aside (unpromised_text embargo) (origin_text fresh t)

abbrev pub read_text : Bool → Told → Bool → ℕ → ℕ → ℕ → ℕ → List ℕ
read_text fresh t aside embargo i f b =
    client_text i ++ (bytes "," ++ (block_text f b ++ (source_text t ++ worth_text fresh t aside embargo)))

-- ---- opens

-- "with permission, the copy is kept when its label equals the latest version, or for a write open the previous one";
-- label 0 is no copy
abbrev pub kept_text : Bool → Version → List ℕ
kept_text keep label =
    cond (is_no_version label)
    (bytes "; it had no copy")
    (bytes "; its copy of version"
    ++ (argument_text (number_of label) ++ cond keep (bytes " is kept") (bytes " is dropped")))

abbrev pub permission_text : Bool → List ℕ
permission_text caching = cond caching (bytes " and may cache") (bytes " and may not cache")

-- client i is granted; `own` is its side of the file before
abbrev pub terms_text : Mode → Grant → ClientFile → List ℕ
terms_text mode g own =
    bytes " at version"
    ++ (argument_text (number_of g.latest)
    ++ (permission_text g.caching ++ kept_text (keeps_blocks mode g own) own.label))

abbrev pub grant_text : Mode → Grant → ClientFile → ℕ → ℕ → List ℕ
grant_text mode g own i f = open_text mode i f ++ terms_text mode g own

-- "1 write-back, 2 invalidate, 3 both"
abbrev pub kind_text : ℕ → List ℕ
kind_text kind =
    cond (writes_back kind)
    (cond (invalidates kind) (bytes "write back and drop its copy") (bytes "write back"))
    (bytes "drop its copy")

-- who is called, and for what
abbrev pub call_text : ℕ × ℕ → List ℕ
call_text call = bytes "; " ++ (client_text call.0 ++ (bytes " is called to " ++ kind_text call.1))

unfoldable pub calls_text : List (ℕ × ℕ) → List ℕ
calls_text [] = []
calls_text (call ∷ calls) = call_text call ++ calls_text calls

-- the open waits: the state of the file is why they are called (document 01, "Opening")
abbrev pub waiter_text : Mode → ℕ → ℕ → List ℕ
waiter_text mode i f = client_text i ++ (bytes " waits to open" ++ (file_text f ++ for_text mode))

abbrev pub state_in_text : ℕ → Entry → List ℕ
state_in_text n e = bytes ", which is " ++ state_text (state_of n (record_at e) e.last)

abbrev pub wait_text : ℕ → Entry → Mode → ℕ → ℕ → List ℕ → List ℕ
wait_text n e mode i f kinds =
    waiter_text mode i f ++ (state_in_text n e ++ calls_text (ordered_calls max_clients kinds))

-- ---- answers

-- how many blocks came back
abbrev pub answer_text : ℕ → ℕ → ℕ → List ℕ
answer_text sent i f =
    client_text i ++ (bytes " answers for" ++ (file_text f ++ (bytes ", blocks sent:" ++ argument_text sent)))

-- who has still to answer, where e is the entry after the step
abbrev pub still_text : ℕ → Entry → List ℕ
still_text n e = bytes "; stations still to answer:" ++ list_text n (λ j. not (asks_nothing (call_to n e j)))

-- ---- all other steps

-- where a write goes: "with permission the copy is written, held and dirty; without, the server's block"
abbrev pub goal_text : Bool → List ℕ
goal_text caching = cond caching (bytes " in its copy") (bytes " at the server")

-- "the cached writes it still makes are lost for good" (document 02, Wish 9)
abbrev pub wasted_text : Bool → ℕ → List ℕ
wasted_text aside embargo = cond aside (bytes "; lost: it" ++ embargo_text embargo) []

-- `caching` says of a write whether its client may cache, `aside` whether it is under embargo, and `embargo` since
-- which line
abbrev pub done_text : Bool → Bool → ℕ → Step → List ℕ
done_text caching aside embargo (Open m i f) = []
done_text caching aside embargo (Close m i f) = client_text i ++ (bytes " closes" ++ (file_text f ++ for_text m))
done_text caching aside embargo (Read i f b) = []
done_text caching aside embargo (Write i f b v) =
    client_text i ++ (bytes " writes" ++ (block_text f b ++ (goal_text caching ++ wasted_text aside embargo)))
done_text caching aside embargo (Flush i f b) =
    client_text i ++ (bytes " sends" ++ (block_text f b ++ bytes " to the server"))
done_text caching aside embargo (Answer i f) = []
done_text caching aside embargo Crash = bytes "the server crashes; every station has to report"
done_text caching aside embargo (Report i) = client_text i ++ bytes " reports what it has open"
done_text caching aside embargo End = bytes "the recovery ends"
done_text caching aside embargo (Restart i) = client_text i ++ bytes " restarts"
done_text caching aside embargo (Embargo i f) = []
done_text caching aside embargo (Lift i) = client_text i ++ bytes " is told of its embargo"

-- ---- restarts and embargoes

-- a write that is lost
abbrev pub loss_text : ℕ → ℕ → ℕ → List ℕ
loss_text f b line = block_text f b ++ (bytes " at line" ++ argument_text line)

-- the next of a list, after those that are told: a comma stands between two
abbrev pub next_text : List ℕ → List ℕ → List ℕ
next_text [] next = next
next_text (c ∷ told) next = (c ∷ told) ++ (bytes "," ++ next)

-- what is lost in the first b blocks of file f, after those that are told; `lost` says of each block of each file
-- whether a write to it is lost, and `line` the line of that write
unfoldable pub losses_on : (ℕ → ℕ → Bool) → (ℕ → ℕ → ℕ) → ℕ → ℕ → List ℕ → List ℕ
losses_on lost line f zero told = told
losses_on lost line f (suc b) told =
    let before = losses_on lost line f b told in
    cond (lost f b) (next_text before (loss_text f b (line f b))) before

-- in the first files, by file and block
unfoldable pub losses_below : (ℕ → ℕ → Bool) → (ℕ → ℕ → ℕ) → ℕ → ℕ → List ℕ
losses_below lost line blocks zero = []
losses_below lost line blocks (suc f) = losses_on lost line f blocks (losses_below lost line blocks f)

abbrev pub or_none : List ℕ → List ℕ
or_none [] = bytes " none"
or_none (c ∷ told) = c ∷ told

-- all of them
abbrev pub losses_text : (ℕ → ℕ → Bool) → (ℕ → ℕ → ℕ) → ℕ → ℕ → List ℕ
losses_text lost line files blocks = or_none (losses_below lost line blocks files)

-- what client i had at risk; `lines` has the lines of each block of each file
abbrev pub risks_text : (ℕ → ℕ → Lines) → ℕ → ℕ → ℕ → List ℕ
risks_text lines i files blocks =
    losses_text (λ f b. risks_in i (lines f b)) (λ f b. (lines f b).risk) files blocks

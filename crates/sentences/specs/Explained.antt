-- The line that `explain` prints: what `play` prints for it, and after four spaces what happened. The Bool `fresh` says
-- whether the session began with the fresh service: a first line may choose its sizes then (`settable` in
-- crates/stepfile/specs/Played.antt), and no block comes from an image.
use Rattle.std.specs.Prelude.{ℕ, zero, suc, Bool, cond, not, ◌&&◌, List, [], ◌++◌, eqb, ltb, Option, Some, None, Ok, Err}
use Rattle.records.specs.Record.{is_open}
use Rattle.records.specs.Version.{as_read, previous_version}
use Rattle.sizes.specs.declared.sizes.Sizes.{Sizes}
use Rattle.protocol.specs.declared.client.ClientFile.{ClientFile}
use Rattle.protocol.specs.declared.entry.Entry.{Entry}
use Rattle.protocol.specs.declared.reply.Grant.{Grant}
use Rattle.protocol.specs.declared.reply.Granting.{Granting}
use Rattle.protocol.specs.declared.reply.Reply.{Reply}
use Rattle.protocol.specs.declared.reply.Reply.TheVariants.{Granted, Waiting, Value, Refused, Answered}
use Rattle.protocol.specs.declared.reply.Reply.TheVariants.{AnsweredGrant, Done}
use Rattle.protocol.specs.declared.step.Step.{Step}
use Rattle.protocol.specs.declared.step.Step.TheVariants.{Open, Close, Read, Write, Flush, Answer, Crash, Report, End}
use Rattle.protocol.specs.declared.step.Step.TheVariants.{Restart, Embargo, Lift}
use Rattle.protocol.specs.Clash.{clash, accepted_of, clashes_with}
use Rattle.protocol.specs.Client.{no_client, side_of}
use Rattle.protocol.specs.Entry.{record_at, waits}
use Rattle.protocol.specs.Step.{numbers_of, client_of, file_of, block_of, mode_of}
use Rattle.table.specs.Clash.{clash_file}
use Rattle.table.specs.TableStep.{is_reported}
use Rattle.service.specs.declared.service.Service.{Service}
use Rattle.service.specs.Step.{step_of}
use Rattle.stepfile.specs.declared.setting.NoSizes.TheVariants.{OutOfRange, Missing}
use Rattle.stepfile.specs.Text.{bytes, argument_text}
use Rattle.stepfile.specs.Grammar.{parse_line}
use Rattle.stepfile.specs.Setting.{setting_of, Setting}
use Rattle.stepfile.specs.Line.{reply_text}
use Rattle.stepfile.specs.Played.{outcome_of}
use Rattle.ledger.specs.declared.annotated.Annotated.{Annotated}
use Rattle.ledger.specs.declared.ledger.Ledger.{Ledger}
use Rattle.phrases.specs.Phrase.{client_text, list_text}
use Rattle.phrases.specs.Accepted.{read_text, grant_text, wait_text, answer_text, still_text, done_text, risks_text}
use Rattle.phrases.specs.Places.{no_place_text}
use Rattle.phrases.specs.Refusal.{refusal_text}
use Rattle.phrases.specs.Clash.{untrue_text, not_both_text}
use Rattle.sentences.specs.Scene.{Scene, scene_of, Whole, whole_of}

-- ---- restarts, embargoes and lifts

-- whether a restart or an embargo of client i has granted an open: it was another's and waited before, and none waits
-- after
abbrev pub grants : ℕ → ℕ → Entry → Entry → Bool
grants n i e e' = waits n e && (not (eqb e.waiter i) && not (waits n e'))

-- what the grant told, by the entry after it
abbrev pub grant_in : Entry → ℕ → Grant
grant_in e i =
    record {
      latest = as_read e.version;
      previous = previous_version (as_read e.version);
      caching = (record_at e i).caching;
    }

-- "a call on it counts as replied to with no blocks, which may grant opens of others" (document 02, Wish 8): the open
-- that waited on file f, if it is granted. e and e' are the entry before and after, `own` the opener's side before.
abbrev pub granted_text : ℕ → ℕ → Entry → Entry → ClientFile → ℕ → List ℕ
granted_text n i e e' own f =
    cond (grants n i e e')
    (bytes "; " ++ grant_text e.mode (grant_in e' e.waiter) own e.waiter f)
    []

-- on the first files, ascending
unfoldable pub grants_text : ℕ → Whole → ℕ → ℕ → List ℕ
grants_text n w i zero = []
grants_text n w i (suc f) =
    grants_text n w i f ++ granted_text n i (w.entry f) (w.after f) (w.side (w.entry f).waiter f) f

-- what client i had open, by its own record
abbrev pub opened_text : Sizes → Whole → ℕ → List ℕ
opened_text z w i = bytes "; files it had open:" ++ list_text z.files (λ f. is_open (w.side i f).opens)

-- what is said of a client i that the server forgets: what it had open, which writes are lost, and which opens of
-- others are granted
abbrev pub forgotten_text : Sizes → Whole → ℕ → List ℕ
forgotten_text z w i =
    opened_text z w i
    ++ (bytes "; writes lost:"
    ++ (risks_text w.lines i z.files z.blocks ++ grants_text z.clients w i z.files))

-- what is said of an accepted restart or lift besides that it comes; of any other step nothing more
abbrev pub besides_text : Sizes → Whole → Step → List ℕ
besides_text z w (Open m i f) = []
besides_text z w (Close m i f) = []
besides_text z w (Read i f b) = []
besides_text z w (Write i f b v) = []
besides_text z w (Flush i f b) = []
besides_text z w (Answer i f) = []
besides_text z w Crash = []
besides_text z w (Report i) = []
besides_text z w End = []
besides_text z w (Restart i) = forgotten_text z w i
besides_text z w (Embargo i f) = []
besides_text z w (Lift i) = opened_text z w i

-- an accepted embargo of client i
abbrev pub embargoed_text : Sizes → Whole → ℕ → List ℕ
embargoed_text z w i = client_text i ++ (bytes " is put under embargo" ++ forgotten_text z w i)

-- an embargo is answered as an answer is, and is told by its kind
abbrev pub is_embargo : Step → Bool
is_embargo x = eqb (numbers_of x).kind 12

-- ---- reports that clash

-- what is said of client i and a file f on which its report clashes (document 02, Wish 10): `own` is its side of it, e the
-- server's entry, and `accepted` says who of the n clients has reported
abbrev pub clash_on_text : ℕ → (ℕ → Bool) → Entry → ClientFile → ℕ → ℕ → List ℕ
clash_on_text n accepted e own i f =
    let j = clashes_with n accepted e own in
    cond (clash own no_client) (untrue_text f i own) (not_both_text f i own j (accepted_of e j))

-- the first such file is told
abbrev pub clash_text : Sizes → (ℕ → Bool) → (ℕ → Entry) → (ℕ → ClientFile) → ℕ → List ℕ
clash_text z accepted entry own i =
    let f = clash_file z accepted entry own in
    cond (ltb f z.files) (clash_on_text z.clients accepted (entry f) (own f) i f) []

-- ---- steps

-- what is said of any other refusal; 23 looks at the store
abbrev pub refused_text :
    Sizes → List Bool → List Bool → List Bool → List Bool → Entry → ℕ → ℕ → Step → ℕ → List ℕ
refused_text z used dirty reported embargoed e since embargo x k =
    cond (eqb k 23)
    (no_place_text z used embargoed dirty (file_of x) (block_of x))
    (refusal_text z reported embargoed e since embargo x k)

-- What is said of the step x, by its reply. An answer that grants gives the open that waited: the waiter's, in the mode
-- in which it waits. A refused step changes nothing, so what a report clashes with, and the dirty copies, are looked at
-- after it.
abbrev pub said_of : Bool → Scene → Whole → Step → List ℕ → Reply → List ℕ
said_of fresh c w x kinds (Granted g) =
    grant_text (mode_of x) g (side_of c.sides (client_of x)) (client_of x) (file_of x)
said_of fresh c w x kinds Waiting =
    wait_text c.sizes.clients c.entry (mode_of x) (client_of x) (file_of x) kinds
said_of fresh c w x kinds (Value v) =
    read_text fresh c.told c.aside c.embargo (client_of x) (file_of x) (block_of x)
said_of fresh c w x kinds (Refused k) =
    cond (eqb k 22)
    (clash_text c.sizes (is_reported c.reported) w.after (w.side_after (client_of x)) (client_of x))
    (refused_text c.sizes c.used c.dirty c.reported c.embargoed c.entry c.since c.embargo x k)
said_of fresh c w x kinds (Answered n) =
    cond (is_embargo x)
    (embargoed_text c.sizes w (client_of x))
    (answer_text n (client_of x) (file_of x) ++ still_text c.sizes.clients c.after)
said_of fresh c w x kinds (AnsweredGrant n i g) =
    cond (is_embargo x)
    (embargoed_text c.sizes w (client_of x))
    (answer_text n (client_of x) (file_of x)
    ++ (bytes "; " ++ grant_text c.entry.mode g (side_of c.sides i) i (file_of x)))
said_of fresh c w x kinds Done = done_text c.caching c.aside c.embargo x ++ besides_text c.sizes w x

unfoldable pub sentence_of : Bool → Service → Ledger → Step → List ℕ
sentence_of fresh s l x =
    let o = step_of s x in
    said_of fresh (scene_of s l x) (whole_of s l x) x o.calls o.reply

-- ---- lines that are no steps

abbrev pub no_step_text : List ℕ
no_step_text = bytes "this line is no step"

-- "19 when a setting lies outside its range"
abbrev pub setting_text : Setting → List ℕ
setting_text (Ok z) =
    bytes "the service has"
    ++ (argument_text z.clients
    ++ (bytes " stations,"
    ++ (argument_text z.files
    ++ (bytes " files of"
    ++ (argument_text z.blocks ++ (bytes " blocks; places:" ++ argument_text z.store))))))
setting_text (Err OutOfRange) =
    bytes "a setting lies outside its range: 1 to 8 stations, 1 to 64 files, 1 to 8 blocks, 0 to 512 places"
setting_text (Err Missing) = no_step_text

-- ---- a line

-- what is said of line l', numbered n: its step's sentence, or of a first line that may choose the sizes what it sets
abbrev pub said_of_line : Bool → Service → Ledger → ℕ → List ℕ → Option Step → List ℕ
said_of_line fresh s l n l' (Some x) = sentence_of fresh s l x
said_of_line fresh s l n l' None = cond (fresh && eqb n 1) (setting_text (setting_of l')) no_step_text

-- it begins as `play` prints it: `line_text` is `reply_text` and LF
unfoldable pub explained_text : ℕ → Reply → List ℕ → List Granting → List ℕ → List ℕ
explained_text n r kinds granted said = reply_text n r kinds granted ++ (bytes "    " ++ (said ++ bytes "\n"))

-- the text of line l, numbered n, which gives p; `annotated_by` (crates/ledger/specs/Annotated.antt) is the state after it
abbrev pub explained_by : Bool → Annotated → ℕ → List ℕ → Option Step → List ℕ
explained_by fresh t n l p =
    let o = outcome_of fresh t.service n l p in
    explained_text n o.reply o.calls o.grants (said_of_line fresh t.service t.ledger n l p)

-- for `transcript` (crates/stepfile/specs/Transcript.antt)
unfoldable pub explained_line : Bool → Annotated → ℕ → List ℕ → List ℕ
explained_line fresh t n l = explained_by fresh t n l (parse_line l)

-- the room that an explained line is given: more than it takes
abbrev pub explained_room : ℕ
explained_room = 64000

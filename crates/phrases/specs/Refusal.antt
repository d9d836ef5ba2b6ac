-- What is said of a refusal: its meaning, and what stands behind it.
use Rattle.std.specs.Prelude.{ℕ, Bool, cond, not, List, [], ◌++◌, eqb}
use Rattle.records.specs.declared.record.Mode.{Mode}
use Rattle.records.specs.declared.record.Mode.TheVariants.{Write as ForWrite}
use Rattle.sizes.specs.declared.sizes.Sizes.{Sizes}
use Rattle.protocol.specs.declared.entry.Entry.{Entry}
use Rattle.protocol.specs.declared.step.Step.{Step}
use Rattle.protocol.specs.declared.step.Step.TheVariants.{Open, Close, Read, Write, Flush, Answer, Crash, Report, End}
use Rattle.protocol.specs.declared.step.Step.TheVariants.{Restart, Embargo, Lift}
use Rattle.protocol.specs.Step.{client_of, file_of, block_of, mode_of}
use Rattle.table.specs.TableStep.{is_heard}
use Rattle.stepfile.specs.Text.{bytes, argument_text}
use Rattle.phrases.specs.Phrase.{client_text, file_text, block_text, for_text, open_text, embargo_text, list_text}
use Rattle.phrases.specs.Accepted.{waiter_text, still_text}

-- 2, 3 and 4: "Refusals 2, 3 and 4 .. follow the settings" (document 02, Wish 7)
abbrev pub no_client_text : ℕ → ℕ → List ℕ
no_client_text i n = bytes "there is no station" ++ (argument_text i ++ (bytes "; there are" ++ argument_text n))

abbrev pub no_file_text : ℕ → ℕ → List ℕ
no_file_text f n = bytes "there is no file" ++ (argument_text f ++ (bytes "; there are" ++ argument_text n))

abbrev pub no_block_text : ℕ → ℕ → List ℕ
no_block_text b n = bytes "there is no block" ++ (argument_text b ++ (bytes "; a file has" ++ argument_text n))

-- 5 and 8 name the clients still to report; "recovery doesn't wait for such stations" as are under embargo (Wish 9)
abbrev pub missing_text : ℕ → List Bool → List Bool → List ℕ
missing_text n reported embargoed =
    bytes "; stations still to report:" ++ list_text n (λ i. not (is_heard reported embargoed i))

-- 9 names who waits, since which line, and who must answer
abbrev pub open_waits_text : ℕ → Entry → ℕ → ℕ → List ℕ
open_waits_text n e f since =
    waiter_text e.mode e.waiter f ++ (bytes " since line" ++ (argument_text since ++ still_text n e))

-- 10: there is no call to answer
abbrev pub no_call_text : ℕ → ℕ → List ℕ
no_call_text i f = client_text i ++ (bytes " has no call to answer on" ++ file_text f)

-- 11: the open that is missing; a read needs either
abbrev pub needed_text : Step → List ℕ
needed_text (Open m i f) = []
needed_text (Close m i f) = for_text m
needed_text (Read i f b) = []
needed_text (Write i f b v) = for_text ForWrite
needed_text (Flush i f b) = []
needed_text (Answer i f) = []
needed_text Crash = []
needed_text (Report i) = []
needed_text End = []
needed_text (Restart i) = []
needed_text (Embargo i f) = []
needed_text (Lift i) = []

abbrev pub not_open_text : Step → ℕ → ℕ → List ℕ
not_open_text x i f = client_text i ++ (bytes " does not have" ++ (file_text f ++ (bytes " open" ++ needed_text x)))

-- 12: the count that is full
abbrev pub count_full_text : Mode → ℕ → ℕ → List ℕ
count_full_text m i f = open_text m i f ++ bytes " 255 times, the most there can be"

-- 13: the block that is not dirty
abbrev pub not_dirty_text : ℕ → ℕ → ℕ → List ℕ
not_dirty_text i f b = client_text i ++ (bytes " has no dirty copy of" ++ block_text f b)

-- 14: "the version is 4,294,967,295 and the open is for write"
abbrev pub version_spent_text : ℕ → List ℕ
version_spent_text f =
    bytes "version 4294967295 is the last, and no write open of" ++ (file_text f ++ bytes " can raise it")

-- by document 01's numbers; `e` is the entry of the file, `since` the line since which its open waits, and `embargo`
-- that since which the client is under embargo. 22 and 23 look at more: `clash_text` and `refused_text` in
-- crates/sentences/specs/Explained.antt
abbrev pub refusal_text : Sizes → List Bool → List Bool → Entry → ℕ → ℕ → Step → ℕ → List ℕ
refusal_text z reported embargoed e since embargo x k =
    let i = client_of x in
    let f = file_of x in
    cond (eqb k 2) (no_client_text i z.clients)
    (cond (eqb k 3) (no_file_text f z.files)
    (cond (eqb k 4) (no_block_text (block_of x) z.blocks)
    (cond (eqb k 5) (bytes "the server recovers" ++ missing_text z.clients reported embargoed)
    (cond (eqb k 6) (bytes "no recovery is under way")
    (cond (eqb k 7) (client_text i ++ bytes " has reported before")
    (cond (eqb k 8) (bytes "the recovery cannot end" ++ missing_text z.clients reported embargoed)
    (cond (eqb k 9) (open_waits_text z.clients e f since)
    (cond (eqb k 10) (no_call_text i f)
    (cond (eqb k 11) (not_open_text x i f)
    (cond (eqb k 12) (count_full_text (mode_of x) i f)
    (cond (eqb k 13) (not_dirty_text i f (block_of x))
    (cond (eqb k 14) (version_spent_text f)
    (cond (eqb k 20) (client_text i ++ embargo_text embargo)
    (cond (eqb k 21) (client_text i ++ bytes " is not under embargo") []))))))))))))))

-- The line that a reply is told in: "line number from 1, then G latest previous permission (0 or 1); or W and each
-- call as station:kind; or V value; or N refusal; or A, followed, if an open was granted, by its station and its G
-- fields; else K". "Writing back now tells how many blocks it sent, .. and a reply line prints it directly after A,
-- before any grant" (document 02, Wish 5). A restart "prints K, then each granted open as after A, by ascending file"
-- (Wish 8), and an embargo "A 0, then grants as BT does" (Wish 9).
use Rattle.std.specs.Prelude.{ℕ, cond, List, [], ◌∷◌, ◌++◌, eqb}
use Rattle.protocol.specs.declared.reply.Granting.{Granting}
use Rattle.protocol.specs.declared.reply.Reply.{Reply}
use Rattle.sizes.specs.Sizes.{max_clients}
use Rattle.decision.specs.Callback.{ordered_calls}
use Rattle.protocol.specs.Reply.{letter_of, values_of, grants_values}
use Rattle.stepfile.specs.Text.{bytes, decimal, argument_text, values_text}

-- a callback: "each call as station:kind"
abbrev pub call_text : ℕ × ℕ → List ℕ
call_text call = argument_text call.0 ++ (bytes ":" ++ decimal call.1)

-- callbacks, one after the other
unfoldable pub calls_text : List (ℕ × ℕ) → List ℕ
calls_text [] = []
calls_text (call ∷ calls) = call_text call ++ calls_text calls

-- What follows the letter: after W the callbacks, "printed, in ascending station number" (document 02, Wish 1); after
-- another letter its numbers, and those of the opens that it grants to others.
abbrev pub fields_text : Reply → List ℕ → List Granting → List ℕ
fields_text r kinds grants =
    cond (eqb (letter_of r) 87)
    (calls_text (ordered_calls max_clients kinds))
    (values_text (values_of r ++ grants_values grants))

-- the line without its LF
abbrev pub reply_text : ℕ → Reply → List ℕ → List Granting → List ℕ
reply_text n r kinds grants = decimal n ++ ((32 ∷ letter_of r ∷ []) ++ fields_text r kinds grants)

unfoldable pub line_text : ℕ → Reply → List ℕ → List Granting → List ℕ
line_text n r kinds grants = reply_text n r kinds grants ++ bytes "\n"

-- The texts of what is said: word after word, and the line of the reply that is said. Assumes nothing.
use Prim.Native.Nat.{ℕ, ◌+◌, ◌<◌}
use mathlib.Core.Path.{◌≡◌, refl, sym, ◌∙◌, ap}
use mathlib.Core.List.{List, [], ◌∷◌, ◌++◌, append_assoc, append-nil}
use native.Mathlib.Numerals.{add-one}
use lib.ListN.{length, take, get_or}
use lib.Seq.{take-suc}
use Rattle.sizes.proofs.Choosing.{when, unless, split}
use Rattle.sizes.specs.Sizes.{max_clients}
use Rattle.decision.specs.Callback.{ordered_calls}
use Rattle.protocol.specs.declared.reply.Granting.{Granting}
use Rattle.protocol.specs.declared.reply.Reply.{Reply}
use Rattle.protocol.specs.Reply.{letter_of}
use Rattle.stepfile.specs.Text.{decimal, argument_text, values_text}
use Rattle.stepfile.specs.Line.{calls_text, fields_text, reply_text, line_text}
use Rattle.words.specs.Said.{calls?, letter_said, Says}
use Rattle.writer.specs.Said.{fields_said, said_text}

values_append : (a b : List ℕ) → values_text (a ++ b) ≡ values_text a ++ values_text b
unfolding values_text
values_append [] b = refl
values_append (v ∷ a) b =
    ap (λ t. argument_text v ++ t) (values_append a b) ∙ sym (append_assoc (argument_text v) (values_text a) (values_text b))

-- one word more
pub values_next :
    (ws : List ℕ) (i : ℕ)
    → i < length ws
    → values_text (take i ws) ++ argument_text (get_or ws i 0) ≡ values_text (take (i + 1) ws)
unfolding values_text
values_next ws i h =
    ap (λ t. values_text (take i ws) ++ t) (sym (append-nil (argument_text (get_or ws i 0))))
    ∙ sym (values_append (take i ws) (get_or ws i 0 ∷ []))
    ∙ ap values_text (sym (take-suc ws i 0 h))
    ∙ ap (λ k. values_text (take k ws)) (sym (add-one i))

-- what is said is the reply
module _
    (said : ℕ) (words : List ℕ) (reply : Reply) (calls : List ℕ) (grants : List Granting)
    (says : Says said words reply calls grants) where
  fields_said_lem : fields_said said words ≡ fields_text reply calls grants
  fields_said_lem =
      let same : calls? (letter_said said) ≡ calls? (letter_of reply) = ap calls? says.letter in
      split (calls? (letter_of reply))
      (λ e.
      when _ _ (same ∙ e) ∙ ap (λ l. calls_text (ordered_calls max_clients l)) (says.called e) ∙ sym (when _ _ e))
      (λ e. unless _ _ (same ∙ e) ∙ ap values_text (says.values e) ∙ sym (unless _ _ e))

  pub said_reply : (n : ℕ) → said_text n said words ≡ reply_text n reply calls grants
  said_reply n =
      ap (λ l. decimal n ++ ((32 ∷ l ∷ []) ++ fields_said said words)) says.letter
      ∙ ap (λ t. decimal n ++ ((32 ∷ letter_of reply ∷ []) ++ t)) fields_said_lem

-- a reply and its LF
pub line_text_lem :
    (n : ℕ) (reply : Reply) (calls : List ℕ) (grants : List Granting)
    → reply_text n reply calls grants ++ (10 ∷ []) ≡ line_text n reply calls grants
unfolding line_text
line_text_lem n reply calls grants = refl

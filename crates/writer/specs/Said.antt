-- The text of what a step says: the number of the line, the letter and the words.
use Rattle.std.specs.Prelude.{ℕ, cond, List, [], ◌∷◌, ◌++◌, get_or}
use Rattle.sizes.specs.Sizes.{max_clients}
use Rattle.decision.specs.Callback.{ordered_calls}
use Rattle.stepfile.specs.Text.{decimal, values_text}
use Rattle.stepfile.specs.Line.{calls_text}
use Rattle.words.specs.Words.{calls_held}
use Rattle.words.specs.Said.{calls?, letter_said, words_said}

abbrev pub fields_said : ℕ → List ℕ → List ℕ
fields_said said words =
    cond (calls? (letter_said said)) (calls_text (ordered_calls max_clients (calls_held (get_or words 0 0)))) (values_text (words_said said words))

abbrev pub said_text : ℕ → ℕ → List ℕ → List ℕ
said_text n said words = decimal n ++ ((32 ∷ letter_said said ∷ []) ++ fields_said said words)

-- What a step says: one number, the letter of its reply and how many words follow it, and the words.
use Rattle.std.specs.Prelude.{ℕ, ◌+◌, ◌*◌, ◌/◌, ◌%◌, ◌≤◌, ◌<◌, ◌≡◌, Bool, true, false, cond, List, [], ◌∷◌, ◌++◌, eqb, ltb}
use Rattle.std.specs.Prelude.{length, get_or, take, drop}
use Rattle.records.specs.declared.version.Version.{Version}
use Rattle.records.specs.Version.{version_of}
use Rattle.sizes.specs.Sizes.{max_files, nobody}
use Rattle.protocol.specs.declared.reply.Grant.{Grant}
use Rattle.protocol.specs.declared.reply.Granting.{Granting}
use Rattle.protocol.specs.declared.reply.Reply.{Reply}
use Rattle.protocol.specs.declared.reply.Reply.TheVariants.{Granted, Waiting, Value, Refused, Answered}
use Rattle.protocol.specs.declared.reply.Reply.TheVariants.{AnsweredGrant, Done}
use Rattle.protocol.specs.Reply.{letter_of, grant_values, values_of, no_calls, no_granting, no_grants, grants_values}
use Rattle.words.specs.Words.{calls_held}
use Rattle.words.specs.Rows.{listed}

-- how many words there are for what is said: eight for the step's own reply, and four for a grant on each file
abbrev pub said_room : ℕ
said_room = 8 + 4 * max_files

abbrev pub letter_said : ℕ → ℕ
letter_said said = said % 256

abbrev pub words_said : ℕ → List ℕ → List ℕ
words_said said words = take (said / 256) words

-- whether the letter is W, whose calls are one word
abbrev pub calls? : ℕ → Bool
calls? letter = eqb letter 87

-- ---- what was said, read back

abbrev pub version_said : List ℕ → ℕ → Version
version_said words k = version_of (get_or words k 0 % 4294967296)

abbrev pub grant_said : List ℕ → ℕ → Grant
grant_said words k =
    record {
      latest = version_said words k;
      previous = version_said words (k + 1);
      caching = eqb (get_or words (k + 2) 0) 1;
    }

-- an answer: with one word it granted nothing
abbrev pub answer_said : ℕ → List ℕ → Reply
answer_said count words =
    cond (eqb count 1) (Answered (get_or words 0 0)) (AnsweredGrant (get_or words 0 0) (get_or words 1 0 % 256) (grant_said words 2))

-- by the letter, as ASCII: G, W, V, N, A or K
abbrev pub reply_said : ℕ → List ℕ → Reply
reply_said said words =
    cond (eqb (letter_said said) 71) (Granted (grant_said words 0))
    (cond (eqb (letter_said said) 87) Waiting
    (cond (eqb (letter_said said) 86) (Value (get_or words 0 0))
    (cond (eqb (letter_said said) 78) (Refused (get_or words 0 0 % 256))
    (cond (eqb (letter_said said) 65) (answer_said (said / 256) words) Done))))

abbrev pub calls_said : ℕ → List ℕ → List ℕ
calls_said said words = cond (calls? (letter_said said)) (calls_held (get_or words 0 0)) no_calls

-- the opens of others that were granted, four words each: after the letter K alone, and after an answer that granted one
-- itself
abbrev pub granting_said : List ℕ → ℕ → Granting
granting_said words k = record { client = get_or words k 0 % 256; grant = grant_said words (k + 1) }

abbrev pub grants_from : ℕ → ℕ → List ℕ → List Granting
grants_from from count words =
    listed max_files (λ k. cond (ltb (from + 4 * k) count) (granting_said words (from + 4 * k)) no_granting)

abbrev pub grants_said : ℕ → List ℕ → List Granting
grants_said said words =
    cond (eqb (letter_said said) 75) (grants_from 0 (said / 256) words)
    (cond (eqb (letter_said said) 65) (grants_from 5 (said / 256) words) no_grants)

-- ---- what says a reply

-- the number and the words say this reply, with these calls and these grants beside it
pub record Says (said : ℕ) (words : List ℕ) (reply : Reply) (calls : List ℕ) (grants : List Granting) : Type 0 where
  pub letter : letter_said said ≡ letter_of reply
  pub values : calls? (letter_of reply) ≡ false → words_said said words ≡ values_of reply ++ grants_values grants
  pub called : calls? (letter_of reply) ≡ true → calls_held (get_or words 0 0) ≡ calls
  pub back : reply_said said words ≡ reply
  pub granted : grants_said said words ≡ grants

-- the first n words are these, and every word past them is as it came
pub record Begun (words₀ : List ℕ) (n : ℕ) (vs words : List ℕ) : Type 0 where
  pub first : take n words ≡ vs
  pub long : length words ≡ length words₀
  pub past : drop n words ≡ drop n words₀

-- it is said in these words, and every word past them is as it came
pub record SaysIn
    (words₀ : List ℕ) (said : ℕ) (words : List ℕ) (reply : Reply) (calls : List ℕ) (grants : List Granting) : Type 0 where
  pub says : Says said words reply calls grants
  pub short : said / 256 ≤ said_room
  pub long : length words ≡ length words₀
  pub past : drop (said / 256) words ≡ drop (said / 256) words₀

-- ---- the opens of others that a step grants, as they are said one after the other

-- every one of them is a client's
abbrev pub Named : List Granting → Type 0
Named [] = Unit {0}
Named (g ∷ gs) = (eqb g.client nobody ≡ false) × Named gs

-- their numbers, one after the other
abbrev pub grants_flat : List Granting → List ℕ
grants_flat [] = []
grants_flat (g ∷ gs) = (g.client ∷ grant_values g.grant) ++ grants_flat gs

-- These were said directly after the words `pre`, every word past them is as it came, and each can be read back.
pub record SaidSoFar (words₀ pre : List ℕ) (gs : List Granting) (words : List ℕ) : Type 0 where
  pub named : Named gs
  pub begun : Begun words₀ (length pre + 4 * length gs) (pre ++ grants_flat gs) words
  pub back : (j : ℕ) → j < length gs → granting_said words (length pre + 4 * j) ≡ get_or gs j no_granting

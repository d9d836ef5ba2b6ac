-- `write_setting` meets its contract: what it says of each setting says its reply. Assumes nothing.
use Prim.Native.Nat.{ℕ}
use mathlib.Core.Path.{◌≡◌, refl, sym, ap, subst, ◌∙◌}
use mathlib.Core.Bool.{false}
use mathlib.Core.List.{List, ◌++◌}
use lib.ListN.{replicate}
use Rattle.sizes.proofs.Choosing.{conflict}
use Rattle.protocol.specs.declared.reply.Reply.{Reply}
use Rattle.protocol.specs.declared.reply.Reply.TheVariants.{Refused, Done}
use Rattle.protocol.specs.Reply.{letter_of, values_of, no_calls, no_grants, grants_values}
use Rattle.words.specs.Rows.{listed}
use Rattle.words.specs.Said.{calls?, letter_said, words_said, reply_said, grants_said, Says}
use Rattle.service.specs.declared.service.Service.{Service}
use Rattle.stepfile.specs.Line.{line_text}
use Rattle.stepfile.specs.Played.{set_outcome}
use Rattle.writer.specs.Buffer.{WroteIfRoom, line_room}
use Rattle.playing.proofs.setting.write_setting.Goals as goal
use Rattle.stepfile.specs.Setting.{Setting}
use Rattle.std.proofs.Common.{Err}

-- a reply that is not W, with no grants beside it
says_plain :
    (said : ℕ) (words : List ℕ) (reply : Reply)
    → letter_said said ≡ letter_of reply
    → calls? (letter_of reply) ≡ false
    → words_said said words ≡ values_of reply ++ grants_values no_grants
    → reply_said said words ≡ reply
    → grants_said said words ≡ no_grants
    → Says said words reply no_calls no_grants
says_plain said words reply letter plain values back granted =
    record {
      letter = letter;
      values = λ e. values;
      called = λ e. conflict e plain;
      back = back;
      granted = granted;
    }

says-done : (words : List ℕ) → Says 75 words Done no_calls no_grants
unfolding grants_values listed
says-done words = says_plain 75 words Done refl refl refl refl refl

says-19 : Says 334 (replicate 264 19) (Refused 19) no_calls no_grants
unfolding grants_values
says-19 = says_plain 334 (replicate 264 19) (Refused 19) refl refl refl refl refl

says-1 : Says 334 (replicate 264 1) (Refused 1) no_calls no_grants
unfolding grants_values
says-1 = says_plain 334 (replicate 264 1) (Refused 1) refl refl refl refl refl

-- the line of a setting
abbrev Writes : List ℕ → ℕ → Service → List ℕ → ℕ → Setting → Type 0
Writes out₀ n s out r x =
    WroteIfRoom line_room out₀ 0
    (line_text n (set_outcome s x).reply (set_outcome s x).calls (set_outcome s x).grants)
    out r

pub returns-in_default-clause-wrote_if_room : goal.returns-in_default-clause-wrote_if_room
returns-in_default-clause-wrote_if_room c =
    let wrote = c.write_said in
    λ s.
    subst (Writes c.args.out.now c.args.number s wrote.new.out wrote.result) (sym c.in_default.is)
    (wrote.ensures.wrote_if_room Done no_calls no_grants (says-done _))

pub returns-in-OutOfRange-clause-wrote_if_room : goal.returns-in-OutOfRange-clause-wrote_if_room
returns-in-OutOfRange-clause-wrote_if_room c =
    let wrote = c.write_said-in-OutOfRange in
    λ s.
    subst (Writes c.args.out.now c.args.number s wrote.new.out wrote.result)
    (sym (c.in-Err.is ∙ ap Err c.in-OutOfRange.is))
    (wrote.ensures.wrote_if_room (Refused 19) no_calls no_grants (rw c.number.ensures says-19))

pub returns-in-Missing-clause-wrote_if_room : goal.returns-in-Missing-clause-wrote_if_room
returns-in-Missing-clause-wrote_if_room c =
    let wrote = c.write_said-in-Missing in
    λ s.
    subst (Writes c.args.out.now c.args.number s wrote.new.out wrote.result)
    (sym (c.in-Err.is ∙ ap Err c.in-Missing.is))
    (wrote.ensures.wrote_if_room (Refused 1) no_calls no_grants (rw c.number-in-Missing.ensures says-1))

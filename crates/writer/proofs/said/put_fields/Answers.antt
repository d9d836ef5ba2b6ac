-- `put_fields` meets its contract, by whether it is K alone, and whether the letter is W. Assumes nothing.
use Prim.Native.Nat.{ℕ}
use mathlib.Core.Path.{◌≡◌, sym, ap, ◌∙◌}
use mathlib.Core.List.{List, []}
use native.Mathlib.Omega.{arith}
use borrow.Author.Tests.{eq-eqb, ne_eqb}
use Rattle.sizes.proofs.Choosing.{when, unless}
use Rattle.sizes.specs.Sizes.{max_clients}
use Rattle.decision.specs.Callback.{ordered_calls}
use Rattle.stepfile.specs.Line.{calls_text}
use Rattle.stepfile.specs.Text.{values_text}
use Rattle.writer.specs.Said.{fields_said}
use Rattle.writer.proofs.Buffers.{wrote_none, wrote_as}
use Rattle.writer.proofs.said.put_fields.Goals as goal

-- K, with no words
done_text : (said : ℕ) (words : List ℕ) → said ≡ 75 → [] ≡ fields_said said words
unfolding values_text
done_text said words e = rw e

pub returns-then-said-eq75-clause-wrote : goal.returns-then-said-eq75-clause-wrote
returns-then-said-eq75-clause-wrote c =
    wrote_as (done_text c.args.said c.args.words.now c.if-said-eq75.true) (wrote_none _ _ (omega arith))

pub returns-then-said-eq87-clause-wrote : goal.returns-then-said-eq87-clause-wrote
returns-then-said-eq87-clause-wrote c =
    wrote_as (ap (λ l. calls_text (ordered_calls max_clients l)) c.calls_of.ensures ∙ sym (when _ _ (eq-eqb _ 87 c.if-said-eq87.true)))
    c.put_calls.ensures.wrote

pub returns-clause-wrote : goal.returns-clause-wrote
returns-clause-wrote c =
    wrote_as (sym (unless _ _ (ne_eqb _ 87 c.if-said-eq87.false))) c.put_words.ensures.wrote

-- `put_refusals` meets its contract: nothing was refused, or the numbers that were given. Assumes nothing.
use mathlib.Core.Path.{sym, ◌∙◌}
use borrow.Author.Tests.{eq-eqb, ne_eqb}
use Rattle.sizes.proofs.Choosing.{when, unless}
use Rattle.writer.proofs.Buffers.{wrote_as}
use Rattle.picture.proofs.refused.put_refusals.Goals as goal

pub returns-then-count_given-eq0-clause-wrote : goal.returns-then-count_given-eq0-clause-wrote
returns-then-count_given-eq0-clause-wrote c =
    wrote_as (sym (when _ _ (eq-eqb _ 0 (sym c.count_given.ensures ∙ c.if-count_given-eq0.true)))) c.put_text.ensures.wrote

pub returns-clause-wrote : goal.returns-clause-wrote
returns-clause-wrote c =
    wrote_as (sym (unless _ _ (ne_eqb _ 0 (λ z. c.if-count_given-eq0.false (c.count_given.ensures ∙ z)))))
    c.put_times.ensures.wrote

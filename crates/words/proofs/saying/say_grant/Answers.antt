-- `say_grant` meets its contract: three words more. Assumes nothing.
use mathlib.Core.Path.{◌∙◌}
use native.Mathlib.Omega.{arith}
use Rattle.words.proofs.SaidWords.{begun_three}
use Rattle.words.proofs.Packing.{bit_held}
use Rattle.words.proofs.saying.say_grant.Goals as goal

pub returns-clause-by_index : goal.returns-clause-by_index
returns-clause-by_index c words₀ vs begun =
    rw (
      ← (c.from.ensures ∙ c.number.ensures),
      ← (c.from-2.ensures ∙ c.number-2.ensures),
      ← (c.from-3.ensures ∙ bit_held c.args.grant.caching),
    )
    (begun_three words₀ vs c.args.words.now c.args.at _ _ _ (omega arith) begun)

-- `put_loss_if` meets its contract: nothing more, or one more after those that are told. Assumes nothing.
use mathlib.Core.Path.{sym}
use Rattle.sizes.proofs.Choosing.{when}
use Rattle.writer.proofs.Buffers.{wrote_as}
use Rattle.phrases.proofs.Losses.{wrote_next}
use Rattle.phrases.proofs.restart.put_loss_if.Goals as goal

pub returns-clause-by_index : goal.returns-clause-by_index
returns-clause-by_index c =
    λ d told before.
    wrote_as (sym (when _ _ c.if-not-lost.false))
    (wrote_next d c.args.start told _ c.args.at _ _ _ _ _ before c.put_either-loss.ensures.wrote c.put_loss.ensures.wrote)

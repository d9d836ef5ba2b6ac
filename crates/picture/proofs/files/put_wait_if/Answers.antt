-- `put_wait_if` meets its contract: the open that waits, or nothing. Assumes nothing.
use mathlib.Core.Path.{sym, ◌∙◌}
use Rattle.sizes.proofs.Choosing.{when}
use Rattle.writer.proofs.Buffers.{wrote_as, wrote_then}
use Rattle.picture.proofs.files.put_wait_if.Goals as goal

pub returns-then-waits-clause-wrote : goal.returns-then-waits-clause-wrote
returns-then-waits-clause-wrote c =
    wrote_as (sym (when _ _ (sym c.waits.ensures ∙ c.if-waits.true)))
    (wrote_then c.put_text-open.ensures.wrote
    (wrote_then c.put_open_waits-feed.ensures.wrote c.put_byte.ensures.wrote))

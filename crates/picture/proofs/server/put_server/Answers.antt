-- `put_server` meets its contract: it recovers, or it runs. Assumes nothing.
use mathlib.Core.Path.{sym, ap}
use mathlib.Core.List.{◌++◌}
use Rattle.stepfile.specs.Text.{bytes}
use Rattle.sizes.proofs.Choosing.{when}
use Rattle.writer.proofs.Buffers.{wrote_as, wrote_then}
use Rattle.picture.proofs.server.put_server.Goals as goal

pub returns-then-table-clause-wrote : goal.returns-then-table-clause-wrote
returns-then-table-clause-wrote c =
    wrote_as (ap (λ t. t ++ bytes "\n") (sym (when _ (bytes "the server runs") c.if-table.true)))
    (wrote_then (wrote_then c.put_text-missing.ensures.wrote c.put_missing-feed.ensures.wrote) c.put_byte.ensures.wrote)

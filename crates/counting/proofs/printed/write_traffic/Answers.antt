-- `write_traffic` meets its contract where there is room: the lines of the stations, then that of all. Assumes nothing.
use mathlib.Core.Path.{ap}
use native.Mathlib.Omega.{arith}
use Rattle.sizes.specs.declared.sizes.Sizes.{Sizes}
use Rattle.writer.proofs.Buffers.{wrote_then, wrote_as, wrote_if_room}
use Rattle.trace.specs.Number.{total_at}
use Rattle.counting.specs.Printed.{traffic_text}
use Rattle.counting.proofs.printed.write_traffic.Goals as goal

pub returns-clause-wrote_if_room : goal.returns-clause-wrote_if_room
returns-clause-wrote_if_room c =
    wrote_if_room _ _ _ _ _ _ (omega arith)
    (wrote_as (ap (λ (z : Sizes). traffic_text z.clients (total_at c.args.totals.now)) c.in_force-sizes.ensures.value)
    (wrote_then c.put_stations-all.ensures.wrote c.put_all.ensures.wrote))

-- `put_stations` meets its contract: after so many stations their lines are written. Assumes nothing.
use mathlib.Core.Path.{◌≡◌, ap}
use native.Mathlib.Omega.{arith}
use Rattle.writer.proofs.Buffers.{wrote_none, wrote_then, wrote_as}
use Rattle.trace.specs.Number.{total_at}
use Rattle.counting.specs.Printed.{stations_text}
use Rattle.counting.proofs.Printing.{stations_next}
use Rattle.counting.proofs.printed.put_stations.Goals as goal

pub loop-station-init : goal.loop-station-init
unfolding stations_text
loop-station-init c = (wrote_none _ _ (omega arith), omega arith, omega arith)

pub loop-station-preserved : goal.loop-station-preserved
loop-station-preserved c = (
  wrote_as (stations_next c.loop-station.station (total_at c.args.totals.now))
      (wrote_then c.loop-station.invariant.0 c.put_station-next.ensures.wrote),
  omega arith,
  omega arith,
)

pub returns-clause-wrote : goal.returns-clause-wrote
returns-clause-wrote c =
    let all : c.loop-station.station ≡ c.args.stations = omega arith in
    wrote_as (ap (λ k. stations_text k (total_at c.args.totals.now)) all) c.loop-station.invariant.0

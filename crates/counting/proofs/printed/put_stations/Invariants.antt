-- After so many stations their lines are written.
use Prim.Native.Nat.{◌+◌, ◌*◌, ◌≤◌}
use Rattle.writer.specs.Buffer.{Wrote}
use Rattle.trace.specs.Number.{total_at}
use Rattle.counting.specs.Printed.{stations_text}
use Rattle.counting.proofs.printed.put_stations.Given as goal

abbrev pub invariant-loop-station : goal.invariant-loop-station
invariant-loop-station l =
    Wrote l.fn.out l.at (stations_text l.station (total_at l.totals)) l.out l.next
    × (l.station ≤ l.stations)
    × (l.next ≤ l.at + 170 * l.station)

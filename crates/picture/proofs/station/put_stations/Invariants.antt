-- After so many clients their lines are written.
use Prim.Native.Nat.{◌+◌, ◌-◌, ◌*◌, ◌≤◌}
use mathlib.Core.List.{[]}
use Rattle.blocks.specs.Stores.{lent}
use Rattle.writer.specs.Buffer.{Wrote}
use Rattle.picture.specs.Picture.{stations_text}
use Rattle.picture.proofs.station.put_stations.Given as goal

abbrev pub invariant-loop-client : goal.invariant-loop-client
invariant-loop-client l =
    Wrote l.fn.out l.at (stations_text l.sizes (lent [] [] l.held l.dirty) l.sides l.file l.client) l.out l.next
    × (l.next ≤ l.at + 471 * l.client)

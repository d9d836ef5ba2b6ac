-- `put_stations` meets its contract: after so many clients their lines are written. Assumes nothing.
use mathlib.Core.Path.{refl, sym, ◌∙◌, ap}
use mathlib.Core.List.{[]}
use native.Mathlib.Omega.{arith}
use Rattle.blocks.specs.Stores.{lent}
use Rattle.picture.specs.Picture.{stations_text}
use Rattle.writer.proofs.Buffers.{wrote_none, wrote_then, wrote_as}
use Rattle.picture.proofs.Parts.{stations_next}
use Rattle.picture.proofs.station.put_stations.Goals as goal

pub loop-client-init : goal.loop-client-init
unfolding stations_text
loop-client-init c = (wrote_none _ _ (omega arith), omega arith)

pub loop-client-preserved : goal.loop-client-preserved
loop-client-preserved c =
    let put = c.put_station_if-next in
    let inv = c.loop-client.invariant in (
      wrote_as (sym (stations_next _ _ _ _ _ _)) (wrote_then inv.0 put.ensures.wrote),
      omega arith,
    )

pub returns-clause-wrote : goal.returns-clause-wrote
returns-clause-wrote c =
    let a = c.args in
    wrote_as (ap (stations_text a.sizes (lent [] [] a.held.now a.dirty.now) a.sides a.file) (omega arith))
    c.loop-client.invariant.0

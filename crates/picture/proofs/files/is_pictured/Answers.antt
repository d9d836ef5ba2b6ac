-- `is_pictured` meets its contract: it is listed, or the clients that it concerns are counted. Assumes nothing.
use Rattle.picture.proofs.Parts.{pictured_by}
use Rattle.picture.proofs.files.is_pictured.Goals as goal

pub returns : goal.returns
returns c =
    let a = c.args in
    pictured_by a.sizes a.held.now a.sides a.entry a.file _ _ c.is_listed.ensures c.count_concerned-stations.ensures

-- `put_picture` meets its contract: its parts, one after the other. Assumes nothing.
use mathlib.Core.Path.{ap}
use Rattle.writer.proofs.Buffers.{wrote_then, wrote_as}
use Rattle.picture.specs.Picture.{server_text, picture_text}
use Rattle.picture.proofs.picture.put_picture.Goals as goal

pub returns-clause-wrote : goal.returns-clause-wrote
unfolding picture_text
returns-clause-wrote c =
    let server = ap (λ z. server_text z c.args.state.service.server.table) c.in_force.ensures.value in
    wrote_then (wrote_as server c.put_server-store.ensures.wrote)
    (wrote_then c.put_store-asides.ensures.wrote
    (wrote_then c.put_asides-files.ensures.wrote
    (wrote_then c.put_files-refused.ensures.wrote
    (wrote_then c.put_refusals-end.ensures.wrote c.put_text.ensures.wrote))))

-- `write_block` meets its contract: refused, or what the client's write leaves is stored. Assumes nothing.
use Rattle.std.proofs.Common.{◌<◌, ◌≡◌, ap, ◌∙◌, arith}
use Rattle.sizes.specs.Sizes.{max_clients, max_files, max_blocks, place, cell}
use Rattle.protocol.specs.Refusal.{write_tests}
use Rattle.protocol.specs.Refused.{refusal_in}
use Rattle.protocol.proofs.Tested.{named_block}
use Rattle.blocks.proofs.Wrapped.{wrapped, wrapped_block}
use Rattle.access.proofs.Accessed.{leaves_refused, leaves_done, write_step, write-leaves}
use Rattle.access.proofs.access.write_block.Goals as goal

pub returns-in-Err : goal.returns-in-Err
returns-in-Err c =
    let a = c.args in
    leaves_refused
    (write_tests a.sizes a.embargoed a.recovering a.reported a.own a.takes a.full a.client a.file a.block a.value) _
    (write_step a.sizes a.embargoed a.recovering a.reported a.own a.takes a.full a.stores.now a.client a.file a.block a.value)
    (c.write_refusal.ensures a.value)
    c.in-Err.is c.from.ensures

pub returns : goal.returns
returns c =
    let a = c.args in
    let s = a.stores.now in
    let (client, file, block) =
    named_block a.sizes a.client a.file a.block (refusal_in c.write_refusal.result) _
    (c.write_refusal.ensures a.value) (ap refusal_in c.in_default.is) in
    let hi : a.client < max_clients = omega (arith, client, c.requires.clients) in
    let hf : a.file < max_files = omega (arith, file, c.requires.files) in
    let hb : a.block < max_blocks = omega (arith, block, c.requires.blocks) in
    let at : c.cell_of-cell.result ≡ cell a.client a.file a.block =
    c.cell_of-cell.ensures.value ∙ wrapped a.client a.file a.block hi hf hb in
    let to : c.place_of-place.result ≡ place a.file a.block =
    c.place_of-place.ensures.value ∙ wrapped_block a.file a.block hf hb in
    leaves_done
    (write_tests a.sizes a.embargoed a.recovering a.reported a.own a.takes a.full a.client a.file a.block a.value) s
    (write_step a.sizes a.embargoed a.recovering a.reported a.own a.takes a.full s a.client a.file a.block a.value)
    (c.write_refusal.ensures a.value)
    c.in_default.is
    (write-leaves a.own a.client a.file a.block s
    c.write-after.result c.cell_of-cell.result c.place_of-place.result at to a.value c.write-after.ensures)

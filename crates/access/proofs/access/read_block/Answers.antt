-- `read_block` meets its contract: refused, or what the client's read leaves is stored. Assumes nothing.
use Rattle.std.proofs.Common.{ℕ, ◌%◌, ◌<◌, ◌≡◌, Bool, false, List, ap, ◌∙◌, get_or, arith}
use Rattle.sizes.specs.declared.sizes.Sizes.{Sizes}
use Rattle.sizes.specs.Sizes.{max_clients, max_files, max_blocks, Permitted, place, cell}
use Rattle.decision.specs.Lists.{first_of}
use Rattle.protocol.specs.declared.client.ClientFile.{ClientFile}
use Rattle.protocol.specs.Refusal.{read_tests}
use Rattle.protocol.specs.Refused.{refusal_in}
use Rattle.protocol.proofs.Tested.{named_block}
use Rattle.blocks.specs.Stores.{held_in}
use Rattle.blocks.proofs.Wrapped.{wrapped, wrapped_block}
use Rattle.access.proofs.Accessed.{leaves_refused, leaves_done, read_step, read_tests_lem, read-leaves}
use Rattle.access.proofs.access.read_block.Goals as goal

-- the tests go by the flag of the block that the step names
tests-of :
    (z : Sizes) (embargoed recovering reported : Bool) (own : ClientFile) (held : List Bool) (i f b at k : ℕ)
    → Permitted z
    → at ≡ cell (i % max_clients) (f % max_files) (b % max_blocks)
    → k ≡ first_of (read_tests z embargoed recovering reported own (get_or held at false) i f b)
    → k ≡ first_of (read_tests z embargoed recovering reported own (get_or held (cell i f b) false) i f b)
tests-of z embargoed recovering reported own held i f b at k p is told =
    rw (← read_tests_lem z embargoed recovering reported own held i f b p) (rw (← is) told)

pub returns-in-Err : goal.returns-in-Err
returns-in-Err c takes full =
    let a = c.args in
    let s = a.stores.now in
    leaves_refused
    (read_tests a.sizes a.embargoed a.recovering a.reported a.own (held_in s a.client a.file a.block) a.client a.file a.block) _
    (read_step a.sizes a.embargoed a.recovering a.reported a.own takes full s a.client a.file a.block)
    (tests-of a.sizes a.embargoed a.recovering a.reported a.own s.held a.client a.file a.block _ _ c.requires
    c.cell_of-cell.ensures.value c.read_refusal.ensures)
    c.in-Err.is c.from.ensures

pub returns : goal.returns
returns c takes full =
    let a = c.args in
    let s = a.stores.now in
    let (client, file, block) =
    named_block a.sizes a.client a.file a.block (refusal_in c.read_refusal.result) _ c.read_refusal.ensures
    (ap refusal_in c.in_default.is) in
    let hi : a.client < max_clients = omega (arith, client, c.requires.clients) in
    let hf : a.file < max_files = omega (arith, file, c.requires.files) in
    let hb : a.block < max_blocks = omega (arith, block, c.requires.blocks) in
    let at : c.cell_of-cell.result ≡ cell a.client a.file a.block =
    c.cell_of-cell.ensures.value ∙ wrapped a.client a.file a.block hi hf hb in
    let to : c.place_of-place.result ≡ place a.file a.block =
    c.place_of-place.ensures.value ∙ wrapped_block a.file a.block hf hb in
    leaves_done
    (read_tests a.sizes a.embargoed a.recovering a.reported a.own (held_in s a.client a.file a.block) a.client a.file a.block) s
    (read_step a.sizes a.embargoed a.recovering a.reported a.own takes full s a.client a.file a.block)
    (tests-of a.sizes a.embargoed a.recovering a.reported a.own s.held a.client a.file a.block _ _ c.requires
    c.cell_of-cell.ensures.value c.read_refusal.ensures)
    c.in_default.is
    (read-leaves a.own a.client a.file a.block s
    c.read-after.result c.cell_of-cell.result c.place_of-place.result at to c.read-after.ensures)

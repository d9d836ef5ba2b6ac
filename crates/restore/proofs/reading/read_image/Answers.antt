-- `read_image` meets its contract, by whether the bytes are an image; that a slice holds bytes is known of it.
-- Assumes nothing.
use Rattle.restore.proofs.Exact.{exactly}
use Rattle.restore.proofs.Readings.{refused, accepted}
use Rattle.restore.proofs.reading.read_image.Goals as goal

pub returns-then-not-is_image-clause-value : goal.returns-then-not-is_image-clause-value
returns-then-not-is_image-clause-value c =
    let a = c.args in
    let d = c.decode-contents.ensures in
    refused a.service a.bytes.now _ c.in_force-sizes.ensures.value _ d.files_held _ d.used_held _
    d.blocks_held _ d.embargoes_held _ c.none-none.ensures _ c.is_image.ensures
    c.if-not-is_image.true _ c.from.ensures

pub returns-clause-value : goal.returns-clause-value
returns-clause-value c =
    let a = c.args in
    let d = c.decode-contents.ensures in
    accepted a.service a.bytes.now _ c.in_force-sizes.ensures.value _ d.files_held _ d.used_held _
    d.blocks_held _ d.embargoes_held _ c.none-none.ensures _ c.is_image.ensures
    c.if-not-is_image.false _ _ c.crashed-crashed.ensures.value c.with_contents.ensures

pub returns-then-not-is_image-clause-accepts_exactly : goal.returns-then-not-is_image-clause-accepts_exactly
returns-then-not-is_image-clause-accepts_exactly c =
    exactly c.args.service c.args.bytes.now (λ k. (c.type_inv.bytes k).fits) (returns-then-not-is_image-clause-value c)

pub returns-clause-accepts_exactly : goal.returns-clause-accepts_exactly
returns-clause-accepts_exactly c =
    exactly c.args.service c.args.bytes.now (λ k. (c.type_inv.bytes k).fits) (returns-clause-value c)

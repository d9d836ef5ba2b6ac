-- `put_block` meets its contract: the fields, each where it stands. Assumes nothing.
use Rattle.restore.proofs.Fields.{block_put}
use Rattle.restore.proofs.decoding.put_block.Goals as goal

pub returns : goal.returns
returns c = block_put c.args.bytes.now c.args.at c.args.blocks.now c.place_at-place.ensures.value c.eight_at.ensures

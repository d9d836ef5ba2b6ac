-- `put_open` meets its contract: the fields, each where it stands. Assumes nothing.
use Rattle.restore.proofs.Fields.{open_put}
use Rattle.restore.proofs.decoding.put_open.Goals as goal

pub returns : goal.returns
returns c = open_put c.args.bytes.now c.args.at c.args.files.now c.byte_at.ensures c.with_open.ensures

-- `put_file` meets its contract: the fields, each where it stands. Assumes nothing.
use Rattle.restore.proofs.Fields.{file_put}
use Rattle.restore.proofs.decoding.put_file.Goals as goal

pub returns : goal.returns
returns c = file_put c.args.bytes.now c.args.at c.args.files.now c.byte_at.ensures c.with_file.ensures

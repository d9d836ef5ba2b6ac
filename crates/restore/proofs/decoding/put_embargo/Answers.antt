-- `put_embargo` meets its contract: the fields, each where it stands. Assumes nothing.
use Rattle.restore.proofs.Fields.{embargo_put}
use Rattle.restore.proofs.decoding.put_embargo.Goals as goal

pub returns : goal.returns
returns c = embargo_put c.args.bytes.now c.args.at c.args.embargoed.now c.byte_at.ensures

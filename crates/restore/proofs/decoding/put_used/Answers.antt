-- `put_used` meets its contract: the fields, each where it stands. Assumes nothing.
use Rattle.restore.proofs.Fields.{used_put}
use Rattle.restore.proofs.decoding.put_used.Goals as goal

pub returns : goal.returns
returns c = used_put c.args.bytes.now c.args.at c.args.used.now c.place_at-place.ensures.value

-- `put_done` meets its contract, step by step. Assumes nothing.
use Rattle.std.proofs.Common.{sym, ap}
use Rattle.writer.proofs.Buffers.{wrote_as}
use Rattle.phrases.specs.Accepted.{done_text}
use Rattle.phrases.proofs.done.put_done.Goals as goal

pub returns-in-Report-clause-wrote : goal.returns-in-Report-clause-wrote
returns-in-Report-clause-wrote c =
    wrote_as (ap (done_text c.args.caching c.args.aside c.args.embargo) (sym c.in-Report.is)) c.put_of_client.ensures.wrote

pub returns-in-Lift-clause-wrote : goal.returns-in-Lift-clause-wrote
returns-in-Lift-clause-wrote c =
    wrote_as (ap (done_text c.args.caching c.args.aside c.args.embargo) (sym c.in-Lift.is)) c.put_of_client-in-Lift.ensures.wrote

-- `crash` meets its contract. Assumes nothing.
use Rattle.std.proofs.Common.{false}
use Rattle.service.proofs.Serving.{crash_moves}
use Rattle.service.proofs.recovering.crash.Goals as goal

pub returns : goal.returns
returns c stores =
    let a = c.args in
    let of = c.recovery_of-recovery.ensures in
    let put = c.put_recovery.ensures in
    crash_moves false false a.sizes a.table.now _ a.flags.now _ c.recovery_of-recovery.result c.crash-begun.result stores
    c.requires.permitted
    c.crash-begun.ensures
    of.0
    of.1
    of.2
    c.requires.flags_len
    c.crash_rows.ensures
    put.0
    put.1
    put.2
    put.3
    put.4

-- `put_recovery` meets its contract. Assumes nothing.
use Rattle.std.proofs.Common.{◌≡◌, length, rules}
use Rattle.sizes.specs.Sizes.{max_clients}
use Rattle.service.proofs.LentFlags.{flags_put_lem}
use Rattle.service.proofs.flags.put_recovery.Goals as goal

pub returns : goal.returns
returns c =
    let v = c.args.recovery in
    let reports_long : length v.reported ≡ max_clients = search rules in
    let embargoes_long : length v.embargoed ≡ max_clients = search rules in
    rw (c.copy_from_slice.ensures.after, c.copy_from_slice-2.ensures.after)
    (flags_put_lem c.args.flags.now v.reported v.recovering v.embargoed c.requires reports_long embargoes_long)

-- `hold_space` meets its contract. Assumes nothing.
use Rattle.std.proofs.Common.{◌≡◌, length, rules}
use Rattle.sizes.specs.Sizes.{max_places}
use Rattle.service.proofs.LentFlags.{used_put_lem}
use Rattle.service.proofs.holding.hold_space.Goals as goal

pub returns-clause-flags_after : goal.returns-clause-flags_after
returns-clause-flags_after c =
    let used_long : length c.args.used ≡ max_places = search rules in
    rw c.copy_from_slice.ensures.after (used_put_lem c.args.flags.now c.args.used c.requires.flags_len used_long)

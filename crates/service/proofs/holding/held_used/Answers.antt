-- `held_used` meets its contract. Assumes nothing.
use Rattle.std.proofs.Common.{◌∙◌}
use Rattle.service.proofs.LentFlags.{used_read}
use Rattle.service.proofs.holding.held_used.Goals as goal

pub returns : goal.returns
returns c = c.copy_from_slice.ensures.after ∙ used_read c.args.flags.now c.requires

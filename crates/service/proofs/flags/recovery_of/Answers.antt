-- `recovery_of` meets its contract. Assumes nothing.
use Rattle.std.proofs.Common.{refl, sym, ◌∙◌}
use Rattle.service.proofs.LentFlags.{embargoes_read}
use Rattle.service.proofs.flags.recovery_of.Goals as goal

pub returns : goal.returns
returns c = (
  refl,
  c.copy_from_slice.ensures.after,
  c.copy_from_slice-2.ensures.after ∙ sym (embargoes_read c.args.flags.now c.requires),
)

-- `is_used` meets its contract: the flag stands after those of the clients. Assumes nothing.
use mathlib.Core.Path.{◌∙◌}
use Rattle.blocks.proofs.Wrapped.{wrapped_block}
use Rattle.service.proofs.LentFlags.{flag_used}
use Rattle.service.proofs.space.is_used.Goals as goal

pub returns : goal.returns
returns c =
    let a = c.args in
    flag_used a.flags.now c.place_of.result a.file a.block
    (c.place_of.ensures.value ∙ wrapped_block a.file a.block c.requires.file_lt_max_files c.requires.block_lt_max_blocks)

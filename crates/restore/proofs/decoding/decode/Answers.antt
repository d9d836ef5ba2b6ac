-- `decode` meets its contract: each section stands past the one before it. Assumes nothing.
use mathlib.Core.Path.{◌∙◌, ap}
use mathlib.Core.Bool.{false}
use lib.ListN.{drop, replicate}
use Rattle.restore.specs.Decoded.{section_in, placed, put_file, put_open, put_block, put_used, put_embargo, opens_part}
use Rattle.restore.specs.Decoded.{decoded_files, decoded_used, decoded_blocks, decoded_embargoes}
use Rattle.restore.proofs.Placing.{opens_at, blocks_at, embargoes_at}
use Rattle.restore.proofs.decoding.decode.Goals as goal

pub returns-clause-files_held : goal.returns-clause-files_held
unfolding decoded_files
returns-clause-files_held c =
    let l = c.args.bytes.now in
    c.fold_section-2.ensures put_open (λ _ _ _ _ e. e)
    ∙ ap (λ x. placed put_open (section_in 5 x) c.fold_section.new.state) (opens_at l _ c.past_section-second.ensures.value)
    ∙ ap (placed put_open (section_in 5 (opens_part l)))
    (c.fold_section.ensures put_file (λ _ _ _ _ e. e)
    ∙ ap (λ e. placed put_file (section_in 6 (drop 5 l)) (replicate 64 e)) c.fresh-fresh.ensures)

pub returns-clause-used_held : goal.returns-clause-used_held
unfolding decoded_used
returns-clause-used_held c =
    c.fold_section-3.ensures put_used (λ _ _ _ _ e. e)
    ∙ ap (λ x. placed put_used (section_in 10 x) (replicate 512 false))
    (blocks_at c.args.bytes.now _ c.past_section-second.ensures.value _ c.past_section-third.ensures.value)

pub returns-clause-blocks_held : goal.returns-clause-blocks_held
unfolding decoded_blocks
returns-clause-blocks_held c =
    c.fold_section-4.ensures put_block (λ _ _ _ _ e. e)
    ∙ ap (λ x. placed put_block (section_in 10 x) (replicate 512 0))
    (blocks_at c.args.bytes.now _ c.past_section-second.ensures.value _ c.past_section-third.ensures.value)

pub returns-clause-embargoes_held : goal.returns-clause-embargoes_held
unfolding decoded_embargoes
returns-clause-embargoes_held c =
    c.fold_section-5.ensures put_embargo (λ _ _ _ _ e. e)
    ∙ ap (λ x. placed put_embargo (section_in 1 x) (replicate 8 false))
    (embargoes_at c.args.bytes.now _ c.past_section-second.ensures.value _ c.past_section-third.ensures.value _ c.past_section-fourth.ensures.value)

-- `put_block_section` meets its contract: the entries, and then their count before them. Assumes nothing.
use lib.Dec.{lit<}
use Rattle.image.specs.Image.{block_entries}
use Rattle.image.proofs.SectionLaws.{wide_blocks, counted}
use Rattle.image.proofs.sections.put_block_section.Goals as goal

pub returns-clause-wrote : goal.returns-clause-wrote
returns-clause-wrote c =
    let a = c.args in
    counted 10 (lit< tt) (block_entries a.sizes a.contents.now.used a.contents.now.blocks) (wide_blocks a.sizes a.contents.now.used a.contents.now.blocks) c.put_blocks-past.ensures.wrote c.put_count.ensures

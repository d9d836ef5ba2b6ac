-- `put_image` meets its contract: the four sizes, and then the four sections. Assumes nothing.
use Rattle.writer.proofs.Buffers.{wrote_then}
use Rattle.image.specs.Image.{image_bytes}
use Rattle.image.proofs.sections.put_image.Goals as goal

pub returns-clause-wrote : goal.returns-clause-wrote
unfolding image_bytes
returns-clause-wrote c =
    wrote_then c.put_sizes-first.ensures.wrote
    (wrote_then c.put_file_section-second.ensures.wrote
    (wrote_then c.put_open_section-third.ensures.wrote
    (wrote_then c.put_block_section-fourth.ensures.wrote c.put_embargo_section.ensures.wrote)))

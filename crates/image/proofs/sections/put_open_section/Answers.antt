-- `put_open_section` meets its contract: the entries, and then their count before them. Assumes nothing.
use lib.Dec.{lit<}
use Rattle.image.specs.Image.{open_entries}
use Rattle.image.proofs.SectionLaws.{wide_opens, counted}
use Rattle.image.proofs.sections.put_open_section.Goals as goal

pub returns-clause-wrote : goal.returns-clause-wrote
returns-clause-wrote c =
    let a = c.args in
    counted 5 (lit< tt) (open_entries a.sizes a.contents.now.files) (wide_opens a.sizes a.contents.now.files) c.put_opens-past.ensures.wrote c.put_count.ensures

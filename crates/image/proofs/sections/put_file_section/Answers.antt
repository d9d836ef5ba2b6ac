-- `put_file_section` meets its contract: the entries, and then their count before them. Assumes nothing.
use lib.Dec.{lit<}
use Rattle.image.specs.Image.{file_entries}
use Rattle.image.proofs.SectionLaws.{wide_files, counted}
use Rattle.image.proofs.sections.put_file_section.Goals as goal

pub returns-clause-wrote : goal.returns-clause-wrote
returns-clause-wrote c =
    let a = c.args in
    counted 6 (lit< tt) (file_entries a.sizes a.contents.now.files) (wide_files a.sizes a.contents.now.files) c.put_files-past.ensures.wrote c.put_count.ensures

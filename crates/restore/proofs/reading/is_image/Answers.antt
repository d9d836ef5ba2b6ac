-- `is_image` meets its contract: the image is put together and compared. Assumes nothing.
use mathlib.Core.Path.{◌∙◌, ap}
use Rattle.image.proofs.Outcomes.{written_first}
use Rattle.restore.specs.Reading.{same_bytes}
use Rattle.restore.proofs.reading.is_image.Goals as goal

pub returns : goal.returns
returns c = c.eq.ensures ∙ ap (same_bytes c.args.bytes.now) (written_first c.put_image-length.ensures.wrote)

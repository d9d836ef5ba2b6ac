-- `put_file` meets its contract, by whether the file is listed. Assumes nothing.
use native.Mathlib.Omega.{arith}
use Rattle.writer.proofs.Buffers.{wrote_none, wrote_as}
use Rattle.image.proofs.Listing.{file_listed, file_unlisted}
use Rattle.image.proofs.entries.put_file.Goals as goal

pub returns-then-is_first-none-clause-wrote : goal.returns-then-is_first-none-clause-wrote
returns-then-is_first-none-clause-wrote c =
    let a = c.args in
    wrote_as (file_unlisted a.clients a.file a.entry _ c.as_read-read.ensures _ c.is_first.ensures c.if-is_first-none.true)
    (wrote_none _ _ (omega arith))

pub returns-clause-wrote : goal.returns-clause-wrote
returns-clause-wrote c =
    let a = c.args in
    wrote_as
    (file_listed a.clients a.file a.entry _ c.as_read-read.ensures _ c.is_first.ensures c.if-is_first-none.false _ _ c.number.ensures c.last_read.ensures)
    c.put_file_fields.ensures.wrote

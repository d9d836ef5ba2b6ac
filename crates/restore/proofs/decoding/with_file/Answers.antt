-- `with_file` meets its contract: the version and the last writer of the entry. Assumes nothing.
use mathlib.Core.Path.{◌∙◌, ap}
use Rattle.records.specs.Version.{version_of}
use Rattle.restore.proofs.Fields.{file_fields}
use Rattle.restore.proofs.decoding.with_file.Goals as goal

pub returns : goal.returns
returns c =
    let a = c.args in
    file_fields a.bytes.now a.at a.entry
    (c.numbered-entry.ensures ∙ ap version_of c.four_at.ensures.value)
    c.byte_at.ensures

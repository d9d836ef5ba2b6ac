-- `put_files_open` meets its contract: its words, and the list. Assumes nothing.
use mathlib.Core.Path.{◌∙◌, ap}
use mathlib.Core.Bool.{Bool, false}
use mathlib.Core.List.{List}
use lib.ListN.{get_or, replicate}
use Rattle.sizes.specs.Sizes.{max_files}
use Rattle.records.specs.Record.{is_open}
use Rattle.protocol.specs.Client.{side_of}
use Rattle.words.specs.Rows.{sides_held}
use Rattle.phrases.specs.Phrase.{list_text}
use Rattle.phrases.proofs.Lists.{list_of_flags}
use Rattle.writer.proofs.Buffers.{wrote_as, wrote_then}
use Rattle.sentences.proofs.forgotten.put_files_open.Goals as goal

pub returns-clause-by_index : goal.returns-clause-by_index
returns-clause-by_index c t lines =
    let a = c.args in
    let n = a.sizes.files in
    let list =
    ap (λ (l : List Bool). list_text n (λ k. get_or l k false)) c.opened_by-opened.ensures
    ∙ list_of_flags n (λ f. is_open (side_of (sides_held a.before.now f) a.client).opens) (replicate max_files false)
    c.requires.permitted.files in
    wrote_then c.put_text-list.ensures.wrote (wrote_as list c.put_opened.ensures.wrote)

-- After f files theirs are stored.
use mathlib.Core.Bool.{false}
use lib.ListN.{replicate}
use Rattle.sizes.specs.Sizes.{max_files}
use Rattle.records.specs.Record.{is_open}
use Rattle.decision.proofs.Storing.{Stored}
use Rattle.protocol.specs.Client.{side_of}
use Rattle.words.specs.Rows.{sides_held}
use Rattle.sentences.proofs.forgotten.opened_by.Given as goal

abbrev pub invariant-loop-f : goal.invariant-loop-f
invariant-loop-f l =
    Stored l.files (λ k. k) (λ k. is_open (side_of (sides_held l.table k) l.client).opens) (replicate max_files false)
    l.flags l.f

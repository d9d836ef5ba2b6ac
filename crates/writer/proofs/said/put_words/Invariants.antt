-- After so many turns so many words are written.
use Rattle.std.proofs.Common.{◌+◌, ◌*◌, ◌≤◌, take}
use Rattle.stepfile.specs.Text.{values_text}
use Rattle.writer.specs.Buffer.{Wrote}
use Rattle.writer.proofs.said.put_words.Given as goal

abbrev pub invariant-loop-word : goal.invariant-loop-word
invariant-loop-word l =
    Wrote l.fn.out l.at (values_text (take l.word-index l.word-items)) l.out l.next × (l.next ≤ l.at + 21 * l.word-index)

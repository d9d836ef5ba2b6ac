-- `calls_word` meets its contract: the bytes of the word are those it was made of. Assumes nothing.
use mathlib.Core.Path.{sym, ◌∙◌}
use borrow.Author.Rules.{rules}
use Rattle.std.proofs.lemmas.Nat.{le_bytes_8}
use Rattle.words.proofs.Packing.{bytes_held}
use Rattle.words.proofs.words.calls_word.Goals as goal

pub returns : goal.returns
returns c =
    sym (bytes_held c.from_le_bytes.result) ∙ le_bytes_8 c.args.calls _ (search rules) (search rules) c.from_le_bytes.ensures

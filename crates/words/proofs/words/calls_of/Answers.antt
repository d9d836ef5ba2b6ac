-- `calls_of` meets its contract: the bytes of the word are its digits. Assumes nothing.
use mathlib.Core.Path.{◌∙◌, ap}
use native.Mathlib.Omega.{arith}
use Rattle.std.specs.Int.{to_le_bytes, w64}
use Rattle.words.proofs.Packing.{bytes_held}
use Rattle.words.proofs.words.calls_of.Goals as goal

pub returns : goal.returns
returns c = c.to_le_bytes.ensures ∙ ap (to_le_bytes w64) (omega arith) ∙ bytes_held c.args.word

-- `say_two` meets its contract. Assumes nothing.
use native.Mathlib.Omega.{arith}
use Rattle.words.proofs.SaidWords.{begun_two}
use Rattle.words.proofs.saying.say_two.Goals as goal

pub returns : goal.returns
returns c = begun_two c.args.words.now c.args.first c.args.second (omega (arith, c.requires))

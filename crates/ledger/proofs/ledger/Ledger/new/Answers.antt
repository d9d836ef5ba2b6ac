-- `new` meets its contract. Assumes nothing.
use mathlib.Core.Path.{refl}
use Rattle.ledger.specs.Ledger.{empty_ledger}
use Rattle.ledger.proofs.ledger.Ledger.new.Goals as goal

pub returns : goal.returns
unfolding empty_ledger
returns c = refl

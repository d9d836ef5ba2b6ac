-- `with_embargoes` meets its contract: the first embargoes are copied. Assumes nothing.
use mathlib.Core.Path.{◌∙◌, ap}
use mathlib.Core.Bool.{false}
use mathlib.Core.List.{◌++◌}
use native.Mathlib.Omega.{arith}
use lib.ListN.{drop}
use Rattle.restore.proofs.Pasting.{stored_first}
use Rattle.restore.proofs.reading.with_embargoes.Goals as goal

pub returns : goal.returns
returns c =
    let a = c.args in
    ap (λ l. l ++ drop a.count a.embargoed) c.copy_from_slice.ensures.after
    ∙ stored_first a.count false a.embargoed a.others.now (omega arith) (omega arith)

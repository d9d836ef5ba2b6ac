-- `count_missing` meets its contract: the clients that are still to be heard are counted. Assumes nothing.
use Rattle.std.proofs.Common.{ℕ, not, rules}
use Rattle.table.specs.TableStep.{is_heard}
use Rattle.table.proofs.refusal.count_missing.Goals as goal

pub returns : goal.returns
returns c =
    let a = c.args in
    c.count_below.ensures.counted (λ (k : ℕ). not (is_heard a.reported a.embargoed k)) (λ i b below post. search rules)

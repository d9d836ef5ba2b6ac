-- `without_reports` meets its contract: the first of them are filled. Assumes nothing.
use Rattle.std.proofs.Common.{◌≡◌, false, length, rules, arith}
use Rattle.decision.proofs.Storing.{stored_first}
use Rattle.table.proofs.recovery.without_reports.Goals as goal

pub returns : goal.returns
returns c =
    let a = c.args in
    let long : length c.fill.new.self ≡ a.clients = search rules in
    stored_first a.clients false (λ k. false) c.fill.new.self a.reports long (omega arith)
    (λ k below. search rules)

-- `count_calls` meets its contract: the chain counts the clients that are called. Assumes nothing.
use Rattle.std.proofs.Common.{◌≡◌, ◌∙◌, not, take, rules, arith}
use Rattle.std.specs.List.{count_by}
use Rattle.decision.specs.Callback.{asks_nothing}
use Rattle.decision.proofs.Chains.{counted_in}
use Rattle.protocol.proofs.entry.count_calls.Goals as goal

pub returns : goal.returns
returns c =
    let found : c.count.result ≡ count_by (λ k. not (asks_nothing k)) (take c.args.clients c.args.calls) = search rules in
    found ∙ counted_in c.args.clients 0 (λ k. not (asks_nothing k)) c.args.calls (omega arith)

-- `calls_out` meets its contract: where an open waits the chain counts the kinds, and else there are none.
-- Assumes nothing.
use Rattle.std.proofs.Common.{ℕ, ◌≡◌, ◌∙◌, sym, ap, not, Bool, cond, get_or, take, rules, arith}
use Rattle.std.specs.List.{count_by}
use Rattle.decision.specs.Lists.{count}
use Rattle.decision.specs.Callback.{asks_nothing}
use Rattle.decision.proofs.Counting.{count_none}
use Rattle.decision.proofs.Chains.{counted_in}
use Rattle.protocol.specs.Entry.{kind_of}
use Rattle.protocol.proofs.entry.Entry.calls_out.Goals as goal

-- the count, where a test tells whether there is anything to count
abbrev counted : ℕ → (ℕ → ℕ) → Bool → ℕ
counted n kinds waits = count n (λ k. not (asks_nothing (cond waits (kinds k) 0)))

pub returns-then-not-waits : goal.returns-then-not-waits
returns-then-not-waits c =
    let a = c.args in
    sym (ap (counted a.clients (λ k. kind_of (get_or a.self.calls k 0))) (sym c.waits.ensures ∙ c.if-not-waits.true) ∙ count_none a.clients)

pub returns : goal.returns
returns c =
    let a = c.args in
    let asks = λ (k : ℕ). not (asks_nothing (kind_of k)) in
    let found : c.count.result ≡ count_by asks (take a.clients a.self.calls) = search rules in
    found
    ∙ counted_in a.clients 0 asks a.self.calls (omega arith)
    ∙ sym (ap (counted a.clients (λ k. kind_of (get_or a.self.calls k 0))) (sym c.waits.ensures ∙ c.if-not-waits.false))

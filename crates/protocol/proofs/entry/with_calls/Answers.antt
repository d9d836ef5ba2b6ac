-- `with_calls` meets its contract: all the places, or as many as there are clients. Assumes nothing.
use Rattle.std.proofs.Common.{ℕ, ◌≡◌, sym, ap, ◌∙◌, get_or, take, length, rules, arith}
use Rattle.std.proofs.lemmas.List.{get_or-take}
use Rattle.decision.specs.Lists.{stored}
use Rattle.decision.proofs.Storing.{stored_whole, stored_first}
use Rattle.protocol.proofs.entry.with_calls.Goals as goal

pub returns-then-clients-eq-MAX_CLIENTS : goal.returns-then-clients-eq-MAX_CLIENTS
returns-then-clients-eq-MAX_CLIENTS c =
    let a = c.args in
    sym
    (ap (λ (n : ℕ). stored n (λ k. k) (λ k. get_or a.calls k 0) a.out) c.if-clients-eq-MAX_CLIENTS.true
    ∙ stored_whole 8 0 a.calls a.out (omega arith) (omega arith))

pub returns : goal.returns
returns c =
    let a = c.args in
    let front : c.copy_from_slice.new.self ≡ take a.clients a.calls = c.copy_from_slice.ensures.after in
    let long : length c.copy_from_slice.new.self ≡ a.clients = search rules in
    stored_first a.clients 0 (λ k. get_or a.calls k 0) c.copy_from_slice.new.self a.out long (omega arith)
    (λ k below. rw front (get_or-take a.clients a.calls k 0 below))

-- `calls_past` meets its contract: none of the clients is called. Assumes nothing.
use mathlib.Core.Path.{◌≡◌, ap, ◌∙◌}
use native.Mathlib.Omega.{arith}
use lib.ListN.{length, get_or, replicate, length-replicate}
use borrow.Author.Rules.{rules}
use Rattle.decision.specs.Lists.{filled, stored}
use Rattle.decision.proofs.Storing.{stored_first}
use Rattle.decision.proofs.Beyond.{get_d_alike}
use Rattle.words.specs.Words.{digits}
use Rattle.words.proofs.words.calls_past.Goals as goal

pub returns-then-clients-eq-MAX_CLIENTS : goal.returns-then-clients-eq-MAX_CLIENTS
unfolding digits stored
returns-then-clients-eq-MAX_CLIENTS c = rw c.if-clients-eq-MAX_CLIENTS.true

pub returns : goal.returns
returns c =
    let n = c.args.clients in
    let none : c.fill.new.self ≡ replicate n 0 = search rules in
    let long : length c.fill.new.self ≡ n = ap length none ∙ length-replicate n 0 in
    c.calls_word.ensures
    ∙ stored_first n 0 (λ k. 0) c.fill.new.self _ long (omega arith)
    (λ k below. ap (λ l. get_or l k 0) none ∙ get_d_alike n 0 k)
    ∙ ap (λ l. filled n 0 l) c.calls_of-calls.ensures

-- `side_in` meets its contract. Assumes nothing.
use Prim.Native.Nat.{◌+◌}
use mathlib.Core.Path.{sym, ◌∙◌}
use Rattle.sizes.specs.Sizes.{max_clients}
use Rattle.decision.proofs.Beyond.{get_d_past}
use Rattle.protocol.specs.Client.{no_client}
use Rattle.words.specs.Words.{side_held}
use Rattle.words.specs.Rows.{listed, word_at}
use Rattle.words.proofs.Listing.{length_listed}
use Rattle.words.proofs.Changing.{side_held_lem}
use Rattle.sentences.proofs.scene.side_in.Goals as goal

pub returns-then-client-lt-MAX_CLIENTS : goal.returns-then-client-lt-MAX_CLIENTS
returns-then-client-lt-MAX_CLIENTS c =
    let a = c.args in
    c.side_of.ensures ∙ sym (side_held_lem a.table.now a.f a.client c.if-client-lt-MAX_CLIENTS.true)

pub returns-else-client-lt-MAX_CLIENTS : goal.returns-else-client-lt-MAX_CLIENTS
returns-else-client-lt-MAX_CLIENTS c =
    let a = c.args in
    c.none.ensures
    ∙ sym
    (get_d_past no_client (listed max_clients (λ i. side_held (word_at a.table.now a.f (10 + i)))) _ max_clients
    (length_listed max_clients (λ i. side_held (word_at a.table.now a.f (10 + i))))
    c.if-client-lt-MAX_CLIENTS.false)

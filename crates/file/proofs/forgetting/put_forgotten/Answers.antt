-- `put_forgotten` meets its contract. Assumes nothing.
use mathlib.Core.Path.{ap, ◌∙◌}
use mathlib.Core.Bool.{cond}
use native.Mathlib.Omega.{arith}
use lib.Dec.{eqb}
use Rattle.decision.specs.Lists.{filled}
use Rattle.words.specs.Words.{calls_held}
use Rattle.words.specs.Rows.{word_at}
use Rattle.file.proofs.ForgottenRow.{forget_puts}
use Rattle.file.proofs.forgetting.put_forgotten.Goals as goal

pub returns : goal.returns
returns c =
    let a = c.args in
    let t = a.table.now in
    let kinds = calls_held (word_at t a.f 18) in
    forget_puts t a.f a.c c.record_word.result c.forgotten_head.result c.calls_left.result a.clients
    c.requires.c_lt_max_clients
    (omega arith)
    (c.record_word.ensures.0 ∙ c.not_open.ensures)
    c.forgotten_head.ensures
    (c.calls_left.ensures ∙ ap (λ w. cond (eqb w a.c) (filled a.clients 0 kinds) kinds) c.waiter_of.ensures)

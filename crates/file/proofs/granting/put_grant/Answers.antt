-- `put_grant` meets its contract. Assumes nothing.
use mathlib.Core.Path.{ap, ◌∙◌}
use native.Mathlib.Omega.{arith}
use Rattle.records.specs.Record.{opened}
use Rattle.protocol.specs.Client.{granted_client}
use Rattle.file.proofs.GrantedRow.{grant_puts}
use Rattle.file.proofs.granting.put_grant.Goals as goal

pub returns : goal.returns
returns c =
    let a = c.args in
    grant_puts a.table.now a.f a.c c.record_word.result c.granted_head.result c.calls_past.result
    c.side_word.result a.clients a.mode a.grant
    c.requires.c_lt_max_clients
    (omega arith)
    (c.record_word.ensures.0 ∙ c.opened.ensures ∙ ap (opened a.mode a.grant.caching) c.record_of-known.ensures)
    c.granted_head.ensures
    c.calls_past.ensures
    (c.side_word.ensures ∙ c.granted.ensures ∙ ap (granted_client a.mode a.grant) c.side_of-own.ensures)

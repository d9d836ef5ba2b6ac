-- `put_head` meets its contract. Assumes nothing.
use native.Mathlib.Omega.{arith}
use Rattle.file.proofs.WaitingRow.{wait_puts}
use Rattle.file.proofs.row.put_head.Goals as goal

pub returns : goal.returns
returns c =
    let a = c.args in
    wait_puts a.table.now a.f c.head_word.result c.calls_word.result a.entry (omega arith) c.requires.records_value
    c.head_word.ensures c.calls_word.ensures

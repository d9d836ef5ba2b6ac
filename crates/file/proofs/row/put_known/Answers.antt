-- `put_known` meets its contract. Assumes nothing.
use native.Mathlib.Omega.{arith}
use Rattle.decision.proofs.Beyond.{unmapped}
use Rattle.file.proofs.KnownRow.{record_puts, records_there}
use Rattle.file.proofs.Leaving.{entry_stored}
use Rattle.file.proofs.row.put_known.Goals as goal

pub put_head-requires-clause-records_value : goal.put_head-requires-clause-records_value
put_head-requires-clause-records_value c =
    let a = c.args in
    records_there a.table.now a.f a.c c.record_word.result a.entry c.requires.c_lt_max_clients (omega arith) (search unmapped)
    c.record_word.ensures.0 c.requires.by_index

pub returns : goal.returns
returns c =
    let a = c.args in
    entry_stored
    (record_puts a.table.now a.f a.c c.record_word.result a.entry c.requires.c_lt_max_clients (omega arith) (search unmapped)
    c.record_word.ensures.0 c.requires.by_index)
    c.put_head.ensures

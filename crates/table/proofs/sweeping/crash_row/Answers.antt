-- `crash_row` meets its contract. Assumes nothing.
use Rattle.table.proofs.ChangedRow.{crashed_puts}
use Rattle.table.proofs.sweeping.crash_row.Goals as goal

pub returns : goal.returns
returns c =
    crashed_puts c.args.table.now _ c.args.f c.args.clients c.head_word.result c.calls_past.result c.version_of-version.result
    c.requires.clients_le_max_clients
    c.requires.f_lt_max_files
    c.requires.table_len
    c.clear_records.ensures
    c.version_of-version.ensures
    c.head_word.ensures
    c.calls_past.ensures

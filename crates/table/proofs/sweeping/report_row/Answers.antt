-- `report_row` meets its contract, with the flag and without. Assumes nothing.
use Rattle.std.proofs.Common.{sym, ◌∙◌}
use Rattle.table.proofs.ChangedRow.{reported_marked, reported_unmarked}
use Rattle.table.proofs.sweeping.report_row.Goals as goal

pub returns-then-marked_in : goal.returns-then-marked_in
returns-then-marked_in c =
    reported_marked c.args.table.now c.args.f c.args.client c.record_part.result c.with_last.result
    c.requires.client_lt_max_clients
    c.requires.f_lt_max_files
    c.requires.table_len
    c.record_part.ensures
    (sym c.marked_in.ensures ∙ c.if-marked_in.true)
    c.with_last.ensures

pub returns-else-marked_in : goal.returns-else-marked_in
returns-else-marked_in c =
    reported_unmarked c.args.table.now c.args.f c.args.client c.record_part.result
    c.requires.client_lt_max_clients
    c.requires.f_lt_max_files
    c.requires.table_len
    c.record_part.ensures
    (sym c.marked_in.ensures ∙ c.if-marked_in.false)

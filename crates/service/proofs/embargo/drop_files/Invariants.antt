-- `drop_files`: file by file. Assumes nothing.
use Rattle.std.proofs.Common.{◌≤◌}
use Rattle.service.specs.Served.{Drops}
use Rattle.service.proofs.embargo.drop_files.Given as goal

abbrev pub invariant-loop-file : goal.invariant-loop-file
invariant-loop-file l =
    (l.file ≤ l.sizes.files)
    × Drops l.sizes l.client l.file l.initial.table l.initial.stores l.table l.stores

-- `forget_files`: file by file. Assumes nothing.
use Rattle.std.proofs.Common.{◌≡◌, ◌≤◌, List, ℕ, length}
use Rattle.words.specs.Said.{Begun}
use Rattle.service.specs.Served.{Forgets}
use Rattle.service.proofs.embargo.forget_files.Given as goal

abbrev pub invariant-loop-file : goal.invariant-loop-file
invariant-loop-file l =
    (l.file ≤ l.sizes.files)
    × ((came pre : List ℕ)
    → Begun came l.from pre l.initial.words
    → length pre ≡ l.from
    → Forgets l.sizes l.client l.file l.initial.table l.initial.stores came pre
    l.table l.stores l.words l.at)

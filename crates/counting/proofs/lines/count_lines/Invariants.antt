-- Between two lines: the lines before are counted, whatever the output buffer is; no line that can be counted chooses the
-- sizes, and the words of what is said are as many as they were.
use Prim.Native.Nat.{ℕ, ◌-◌}
use mathlib.Core.Path.{◌≡◌}
use mathlib.Core.Bool.{false, ◌&&◌}
use mathlib.Core.List.{List}
use lib.ListN.{length, drop}
use Rattle.words.specs.Said.{said_room}
use Rattle.telling.specs.Lines.{can_tell}
use Rattle.telling.proofs.LineByLine.{GoesOn}
use Rattle.playing.specs.Lines.{chooses_sizes}
use Rattle.counting.specs.Lines.{counting, counted_held}
use Rattle.counting.proofs.lines.count_lines.Given as goal

abbrev pub invariant-loop-words : goal.invariant-loop-words
invariant-loop-words l =
    ((out : List ℕ)
    → GoesOn (counting l.settable) l.input
    (counted_held l.given l.initial.counted.service.table l.initial.counted.service.flags
    l.initial.counted.service.stores l.initial.counted.totals)
    l.initial.number l.initial.used 0 out
    (counted_held l.given l.counted.service.table l.counted.service.flags l.counted.service.stores l.counted.totals)
    l.number l.used 0 out)
    × (((chooses_sizes l.settable l.number (drop l.used l.input) && can_tell 0 0 0 l.number) ≡ false)
    × (length l.words ≡ said_room))

abbrev pub decreases-loop-words : goal.decreases-loop-words
decreases-loop-words l = length l.input - l.used

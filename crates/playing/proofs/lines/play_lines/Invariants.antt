-- Between two lines: the lines before are told, no line that can be told chooses the sizes, and the words of what is said
-- are as many as they were.
use Prim.Native.Nat.{◌-◌}
use mathlib.Core.Path.{◌≡◌}
use mathlib.Core.Bool.{false, ◌&&◌}
use lib.ListN.{length, drop}
use Rattle.words.specs.Said.{said_room}
use Rattle.service.specs.Lent.{service_held}
use Rattle.writer.specs.Buffer.{line_room}
use Rattle.telling.specs.Lines.{can_tell}
use Rattle.telling.proofs.LineByLine.{GoesOn}
use Rattle.playing.specs.Lines.{playing, chooses_sizes}
use Rattle.playing.proofs.lines.play_lines.Given as goal

abbrev pub invariant-loop-words : goal.invariant-loop-words
invariant-loop-words l =
    GoesOn (playing l.settable) l.input
    (service_held l.given l.initial.service.table l.initial.service.flags l.initial.service.stores)
    l.initial.number l.initial.used l.initial.to l.initial.out
    (service_held l.given l.service.table l.service.flags l.service.stores) l.number l.used l.to l.out
    × (((chooses_sizes l.settable l.number (drop l.used l.input) && can_tell line_room (length l.out) l.to l.number) ≡ false)
    × (length l.words ≡ said_room))

abbrev pub decreases-loop-words : goal.decreases-loop-words
decreases-loop-words l = length l.input - l.used

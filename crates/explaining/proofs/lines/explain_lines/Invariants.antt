-- The lines before this one are told, no line that can be told chooses the sizes, and the words that are kept have their
-- lengths.
use Prim.Native.Nat.{◌-◌}
use mathlib.Core.Path.{◌≡◌}
use mathlib.Core.Bool.{false, ◌&&◌}
use lib.ListN.{length, drop}
use Rattle.words.specs.Rows.{table_words}
use Rattle.words.specs.Said.{said_room}
use Rattle.telling.specs.Lines.{can_tell}
use Rattle.telling.proofs.LineByLine.{GoesOn}
use Rattle.sentences.specs.Explained.{explained_room}
use Rattle.playing.specs.Lines.{chooses_sizes}
use Rattle.explaining.specs.Lines.{explaining, state_held}
use Rattle.explaining.proofs.lines.explain_lines.Given as goal

abbrev pub invariant-loop-force : goal.invariant-loop-force
invariant-loop-force l =
    let i = l.initial in
    let came = i.noted.service in
    let held = l.noted.service in
    GoesOn (explaining l.fresh) l.input
    (state_held l.given came.table came.flags came.stores i.noted.ledger i.noted.refusals)
    i.number i.used i.to i.out
    (state_held l.given held.table held.flags held.stores l.noted.ledger l.noted.refusals)
    l.number l.used l.to l.out
    × (((chooses_sizes l.fresh l.number (drop l.used l.input) && can_tell explained_room (length l.out) l.to l.number) ≡ false)
    × ((length l.words ≡ said_room) × (length l.before ≡ table_words)))

abbrev pub decreases-loop-force : goal.decreases-loop-force
decreases-loop-force l = length l.input - l.used

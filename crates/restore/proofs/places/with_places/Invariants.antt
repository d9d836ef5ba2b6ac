-- After f turns f files have what the others have.
use mathlib.Core.Path.{◌≡◌}
use Rattle.restore.specs.Reading.{with_places}
use Rattle.restore.proofs.places.with_places.Given as goal

abbrev pub invariant-loop-f : goal.invariant-loop-f
invariant-loop-f g l = (none : _) → l.held ≡ with_places none l.f l.sizes.blocks l.others l.fn.held

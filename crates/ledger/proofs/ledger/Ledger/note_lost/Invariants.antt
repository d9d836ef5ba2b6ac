-- After k turns of `note_lost` k places are done.
use Rattle.std.proofs.Common.{◌≡◌, ◌≤◌, ◌%◌}
use Rattle.sizes.specs.Sizes.{max_clients, max_places}
use Rattle.ledger.specs.Ledger.{lost_below}
use Rattle.ledger.proofs.ledger.Ledger.note_lost.Given as goal

abbrev pub invariant-loop-k : goal.invariant-loop-k
invariant-loop-k l =
    (l.k ≤ max_places) × (l.self ≡ lost_below (l.client % max_clients) l.k l.fn.self)

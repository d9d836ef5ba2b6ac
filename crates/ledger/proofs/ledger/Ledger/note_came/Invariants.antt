-- After k turns of `note_came` k places are done.
use Rattle.std.proofs.Common.{◌≡◌, ◌≤◌, ◌%◌}
use Rattle.sizes.specs.Sizes.{max_clients}
use Rattle.ledger.specs.Ledger.{came_from}
use Rattle.ledger.proofs.ledger.Ledger.note_came.Given as goal

abbrev pub invariant-loop-k : goal.invariant-loop-k
invariant-loop-k l =
    (l.k ≤ l.count) × (l.self ≡ came_from (l.client % max_clients) l.first l.k l.fn.self)

-- The openings before this one are tried; the words of what is said are as many as they were.
use mathlib.Core.Path.{◌≡◌}
use lib.ListN.{length, drop}
use Rattle.words.specs.Said.{said_room}
use Rattle.service.specs.Lent.{service_held}
use Rattle.batch.specs.Batch.{listed_from, listed, opens_of}
use Rattle.batch.proofs.Trying.{Reached}
use Rattle.batch.proofs.batch.open_batch.Given as goal

abbrev pub invariant-loop-k : goal.invariant-loop-k
invariant-loop-k l =
    Reached l.fn.service (opens_of l.client (listed l.files l.writes))
    (service_held l.sizes l.held.table l.held.flags l.held.stores)
    l.k
    (opens_of l.client (listed_from l.k (drop l.k l.files) l.writes))
    l.replies
    × (length l.words ≡ said_room)

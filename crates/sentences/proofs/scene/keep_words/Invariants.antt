-- After k words those are kept.
use Prim.Native.Nat.{◌+◌}
use lib.ListN.{get_or}
use Rattle.decision.proofs.Storing.{Stored}
use Rattle.sentences.proofs.scene.keep_words.Given as goal

abbrev pub invariant-loop-k : goal.invariant-loop-k
invariant-loop-k l =
    Stored l.count (λ j. l.first + j) (λ j. get_or l.table (l.first + j) 0) l.fn.before l.before l.k

-- After b turns b of the flags are taken away, and nothing else.
use Rattle.std.proofs.Common.{◌≡◌, ◌+◌, false}
use Rattle.decision.proofs.Storing.{Stored}
use Rattle.blocks.proofs.stores.Stores.clean_unless.Given as goal

abbrev pub invariant-loop-b : goal.invariant-loop-b
invariant-loop-b l =
    Stored l.count (λ k. l.base + k) (λ k. false) l.fn.self.dirty l.self.dirty l.b
    × (l.self.blocks ≡ l.fn.self.blocks) × (l.self.copies ≡ l.fn.self.copies) × (l.self.held ≡ l.fn.self.held)

-- After b turns b copies are dropped, and nothing else.
use Rattle.std.proofs.Common.{◌≡◌, ◌+◌, false}
use Rattle.decision.proofs.Storing.{Stored}
use Rattle.blocks.proofs.stores.Stores.drop_held_unless.Given as goal

abbrev pub invariant-loop-b : goal.invariant-loop-b
invariant-loop-b l =
    Stored l.count (λ k. l.base + k) (λ k. 0) l.fn.self.copies l.self.copies l.b
    × Stored l.count (λ k. l.base + k) (λ k. false) l.fn.self.held l.self.held l.b
    × (l.self.blocks ≡ l.fn.self.blocks) × (l.self.dirty ≡ l.fn.self.dirty)

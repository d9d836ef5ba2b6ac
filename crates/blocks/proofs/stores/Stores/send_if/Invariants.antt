-- After b turns b of the server's blocks are stored, each the client's where that is dirty, and nothing else.
use Rattle.std.proofs.Common.{ℕ, ◌≡◌, ◌+◌, Bool, false, cond, List, get_or}
use Rattle.decision.proofs.Storing.{Stored}
use Rattle.blocks.proofs.stores.Stores.send_if.Given as goal

-- what is stored for block k
abbrev pub sent_block : ℕ → ℕ → List Bool → List ℕ → List ℕ → ℕ → ℕ
sent_block base to dirty copies l k = cond (get_or dirty (base + k) false) (get_or copies (base + k) 0) (get_or l (to + k) 0)

abbrev pub invariant-loop-b : goal.invariant-loop-b
invariant-loop-b l =
    Stored l.count (λ k. l.to + k) (sent_block l.base l.to l.fn.self.dirty l.fn.self.copies l.fn.self.blocks)
    l.fn.self.blocks l.self.blocks l.b
    × (l.self.copies ≡ l.fn.self.copies) × (l.self.held ≡ l.fn.self.held) × (l.self.dirty ≡ l.fn.self.dirty)

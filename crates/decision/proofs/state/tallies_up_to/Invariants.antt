-- After i clients each sum is their tally.
use Rattle.std.proofs.Common.{ℕ, List}
use Rattle.records.specs.declared.record.ClientRecord.{ClientRecord}
use Rattle.decision.specs.declared.state.Property.{Property}
use Rattle.decision.specs.declared.state.Property.TheVariants.{Open, Uncached, Writing}
use Rattle.decision.specs.State.{record_in, has}
use Rattle.decision.proofs.Counting.{Counted}
use Rattle.decision.proofs.state.tallies_up_to.Given as goal

-- of the first i clients, x have the property
abbrev Tallied : ℕ → List ClientRecord → Property → ℕ → ℕ → Type 0
Tallied clients records p x i = Counted clients (λ k. has p (record_in records k)) x i

abbrev pub invariant-loop-i : goal.invariant-loop-i
invariant-loop-i l =
    Tallied l.clients l.fn.records Open l.«open» l.i
    × Tallied l.clients l.fn.records Uncached l.uncached l.i
    × Tallied l.clients l.fn.records Writing l.writing l.i

-- `permission_at_grant` meets its contract: an opener that keeps its permission has it as before, and for any other the
-- three tallies decide. Assumes nothing.
use Rattle.std.proofs.Common.{ap}
use Rattle.decision.specs.declared.state.Property.TheVariants.{Open, Writing}
use Rattle.decision.specs.declared.state.Tallies.{Tallies}
use Rattle.decision.specs.State.{record_in, has}
use Rattle.decision.specs.Permission.{permission_at_grant}
use Rattle.decision.proofs.Counting.{some_other}
use Rattle.decision.proofs.permission.permission_at_grant.Goals as goal

pub returns-then-keeps_permission : goal.returns-then-keeps_permission
unfolding permission_at_grant
returns-then-keeps_permission c =
    rw (← c.record_of-own.ensures, ← c.keeps_permission.ensures, c.if-keeps_permission.true)

pub returns : goal.returns
unfolding permission_at_grant
returns c =
    let a = c.args in
    rw (
      some_other a.clients (λ j. has Writing (record_in a.records j)) a.opener,
      some_other a.clients (λ j. has Open (record_in a.records j)) a.opener,
      ← c.record_of-own.ensures,
      ← c.keeps_permission.ensures,
      c.if-keeps_permission.false,
      ← c.is_write.ensures,
      ← c.has-2.ensures,
      ← c.one_if-2.ensures,
      ← ap (λ (t : Tallies). t.«open») c.tallies_of-counted.ensures,
      ← c.has.ensures,
      ← c.one_if.ensures,
      ← ap (λ (t : Tallies). t.writing) c.tallies_of-counted.ensures,
      ← ap (λ (t : Tallies). t.uncached) c.tallies_of-counted.ensures,
    )

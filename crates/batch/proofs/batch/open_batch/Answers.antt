-- `open_batch` meets its contract: each opening leaves in the arrays, and says, the outcome of its step, and `Trying`
-- carries it from opening to opening. Assumes nothing.
use Prim.Native.Nat.{◌≤◌}
use mathlib.Core.Path.{◌≡◌, ◌∙◌, subst}
use mathlib.Core.List.{List}
use native.Mathlib.Omega.{arith}
use borrow.Author.Rules.{rules}
use lib.ListN.{length, get_or, replicate}
use Rattle.protocol.specs.declared.step.Step.{Step}
use Rattle.protocol.specs.declared.step.Step.TheVariants.{Open}
use Rattle.service.specs.declared.service.Service.{Service}
use Rattle.service.specs.Lent.{service_held}
use Rattle.service.proofs.Speaking.{stepped_outcome}
use Rattle.batch.specs.Batch.{listed, max_openings, no_reply}
use Rattle.batch.proofs.Promised.{promised}
use Rattle.batch.proofs.Trying.{Reached, none_yet, one_opening, tried_all, refused_list}
use Rattle.batch.proofs.batch.open_batch.Goals as goal

pub returns-then-count-gt-MAX_OPENINGS-clause-value : goal.returns-then-count-gt-MAX_OPENINGS-clause-value
returns-then-count-gt-MAX_OPENINGS-clause-value c =
    rw c.from.ensures (refused_list c.args.service c.args.client c.args.files.now c.args.writes.now c.if-count-gt-MAX_OPENINGS.true)

-- before the first opening the service s is held in the arrays
none_held : (came s : Service) (xs : List Step) → came ≡ s → Reached s xs came 0 xs (replicate max_openings no_reply)
none_held came s xs is = subst (λ (s : Service). Reached s xs came 0 xs (replicate max_openings no_reply)) is (none_yet came xs)

pub loop-k-init : goal.loop-k-init
loop-k-init c = (
  none_held _ _ _ c.holding-held.ensures,
  search rules,
)

pub loop-k-preserved : goal.loop-k-preserved
loop-k-preserved c =
    let a = c.args in
    let turn = c.loop-k in
    let few : length a.files.now ≤ max_openings = omega (arith, c.if-count-gt-MAX_OPENINGS.false) in
    let stands = service_held a.service.sizes turn.held.table turn.held.flags turn.held.stores in
    let taken = c.take_step-said.new in
    let stepped = c.take_step-said.ensures in
    let is = stepped_outcome a.service.sizes (Open c.mode_at-mode.result a.client (get_or a.files.now turn.k 0))
    turn.held.table turn.held.flags turn.held.stores turn.words
    taken.self.table taken.self.flags taken.self.stores taken.words c.take_step-said.result stepped in (
      rw (c.reply_of.ensures, c.calls_with.ensures)
          (one_opening a.service a.client a.files.now a.writes.now stands turn.k c.mode_at-mode.result
          turn.replies _ turn.invariant.0 c.loop-k-test.true few c.mode_at-mode.ensures is),
      stepped.words_long ∙ turn.invariant.1,
    )

pub returns : goal.returns
returns c =
    let a = c.args in
    let turn = c.loop-k in
    let few : length a.files.now ≤ max_openings = omega (arith, c.if-count-gt-MAX_OPENINGS.false) in
    let stands = service_held a.service.sizes turn.held.table turn.held.flags turn.held.stores in
    let outcome = promised a.service a.client (listed a.files.now a.writes.now) _
    (rw c.to_service.ensures
    (tried_all a.service a.client a.files.now a.writes.now stands turn.k turn.replies turn.invariant.0 c.loop-k-test.false few)) in
    record {
      value = outcome.0;
      goes_on = outcome.1.0;
      count_le_max_openings = outcome.1.1;
    }

-- `clash_file` meets its contract: none of the files before the one that it has come to has a clash. Assumes nothing.
use mathlib.Core.Path.{sym, ap, ◌∙◌}
use mathlib.Core.Bool.{false}
use native.Mathlib.Omega.{arith}
use lib.ListN.{get_or}
use Rattle.decision.proofs.Finding.{first_is, first_none, found_is, found_none}
use Rattle.protocol.specs.declared.client.ClientFile.{ClientFile}
use Rattle.protocol.specs.Clash.{clashes_on}
use Rattle.words.specs.Rows.{entry_held}
use Rattle.service.proofs.Reporting.{clashes_here, none_on}
use Rattle.service.proofs.clashing.clash_file.Goals as goal

pub returns-then-clashes_on : goal.returns-then-clashes_on
returns-then-clashes_on c =
    let a = c.args in
    let here =
    c.clashes_on.ensures
    ∙ ap
    (λ (own : ClientFile).
    clashes_on a.sizes.clients (λ j. get_or a.flags.now j false) (entry_held a.table.now c.loop-f.f) own)
    c.side_of-own.ensures in
    sym
    (found_is a.sizes.files c.loop-f.f _ c.loop-f-test.true
    (first_is a.sizes.files (clashes_here a.sizes.clients a.client (λ j. get_or a.flags.now j false) a.table.now)
    c.loop-f.f
    c.loop-f-test.true
    (sym here ∙ c.if-clashes_on.true)
    c.loop-f.invariant.1))

pub loop-f-preserved : goal.loop-f-preserved
loop-f-preserved c =
    let a = c.args in
    let here =
    c.clashes_on.ensures
    ∙ ap
    (λ (own : ClientFile).
    clashes_on a.sizes.clients (λ j. get_or a.flags.now j false) (entry_held a.table.now c.loop-f.f) own)
    c.side_of-own.ensures in (
      c.next_said-f-in-loop-f.ensures.1,
      none_on a.sizes.clients a.client (λ j. get_or a.flags.now j false) a.table.now c.loop-f.f
          c.next_said-f-in-loop-f.result
          c.loop-f.invariant.1
          (sym here ∙ c.if-clashes_on.false)
          c.next_said-f-in-loop-f.ensures.2,
    )

pub returns : goal.returns
returns c =
    let a = c.args in
    sym
    (found_none a.sizes.files _
    (first_none a.sizes.files (clashes_here a.sizes.clients a.client (λ j. get_or a.flags.now j false) a.table.now)
    (λ f h. c.loop-f.invariant.1 f (omega (arith, h, c.loop-f-test.false)))))

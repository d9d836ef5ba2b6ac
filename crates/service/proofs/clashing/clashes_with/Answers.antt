-- `clashes_with` meets its contract: none of the clients before the one that it has come to clashes. Assumes nothing.
use mathlib.Core.Path.{sym, ap, ◌∙◌}
use mathlib.Core.Bool.{Bool, false, ◌&&◌}
use native.Mathlib.Numerals.{add-one}
use native.Mathlib.Omega.{arith}
use lib.ListN.{get_or}
use Rattle.decision.proofs.Finding.{none_next, first_is, first_none, found_is, found_none}
use Rattle.protocol.specs.declared.client.ClientFile.{ClientFile}
use Rattle.protocol.specs.Clash.{clash, accepted_of}
use Rattle.words.specs.Rows.{entry_held}
use Rattle.service.proofs.clashing.clashes_with.Goals as goal

pub returns-then-flags-j : goal.returns-then-flags-j
returns-then-flags-j c =
    let a = c.args in
    let here =
    ap (λ (x : Bool). get_or a.flags.now c.loop-j.j false && x)
    (sym (c.clashes.ensures ∙ ap (λ (d : ClientFile). clash a.own d) c.accepted_in-accepted.ensures)) in
    sym
    (found_is a.clients c.loop-j.j _ c.loop-j-test.true
    (first_is a.clients (λ i. get_or a.flags.now i false && clash a.own (accepted_of (entry_held a.table.now a.f) i))
    c.loop-j.j
    c.loop-j-test.true
    (here ∙ c.if-flags-j.true)
    c.loop-j.invariant.1))

pub loop-j-preserved : goal.loop-j-preserved
loop-j-preserved c =
    let a = c.args in
    let here =
    ap (λ (x : Bool). get_or a.flags.now c.loop-j.j false && x)
    (sym (c.clashes.ensures ∙ ap (λ (d : ClientFile). clash a.own d) c.accepted_in-accepted.ensures)) in (
      omega arith,
      rw (add-one c.loop-j.j)
          (none_next c.loop-j.j
          (λ i. get_or a.flags.now i false && clash a.own (accepted_of (entry_held a.table.now a.f) i))
          c.loop-j.invariant.1
          (here ∙ c.if-flags-j.false)),
    )

pub returns : goal.returns
returns c =
    let a = c.args in
    sym
    (found_none a.clients _
    (first_none a.clients (λ i. get_or a.flags.now i false && clash a.own (accepted_of (entry_held a.table.now a.f) i))
    (λ i h. c.loop-j.invariant.1 i (omega (arith, h, c.loop-j-test.false)))))

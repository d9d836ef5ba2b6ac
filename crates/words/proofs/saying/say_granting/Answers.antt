-- `say_granting` meets its contract: four words more. Assumes nothing.
use Prim.Native.Nat.{◌<◌}
use native.Mathlib.Omega.{arith}
use Rattle.words.proofs.SaidGranting.{granting-begun, granting-back, earlier-back}
use Rattle.words.proofs.saying.say_granting.Goals as goal

pub returns-clause-by_index : goal.returns-clause-by_index
returns-clause-by_index c =
    let a = c.args in
    let small : c.from.result < 256 = omega arith in
    let said = c.say_grant.ensures in
    granting-begun a.words.now _ a.at a.client _ a.grant (omega arith) c.from.ensures small said.by_index said.at_after

pub returns-clause-at_after : goal.returns-clause-at_after
returns-clause-at_after c =
    let a = c.args in
    let small : c.from.result < 256 = omega arith in
    let said = c.say_grant.ensures in
    granting-back a.words.now _ a.at a.client _ a.grant (omega arith) c.from.ensures small said.by_index said.at_after

pub returns-clause-by_index_2 : goal.returns-clause-by_index_2
returns-clause-by_index_2 c =
    let a = c.args in
    let small : c.from.result < 256 = omega arith in
    let said = c.say_grant.ensures in
    earlier-back a.words.now _ a.at a.client _ a.grant (omega arith) c.from.ensures small said.by_index said.at_after

-- `lift_embargo` meets its contract: a client that is not there or not under embargo is refused, any other drops what it
-- has on all files. Assumes nothing.
use Rattle.std.proofs.Common.{refl, ap, ◌∙◌, cond, not, ◌<◌, arith}
use Rattle.protocol.specs.declared.step.Step.TheVariants.{Lift}
use Rattle.sizes.proofs.InForce.{client_fits}
use Rattle.service.specs.Contents.{embargoed_at}
use Rattle.service.specs.Lent.{service_held}
use Rattle.service.proofs.EmbargoServing.{refused_moves, absent_lift_lem, lift_tested, lift_moves}
use Rattle.service.proofs.held_service.HeldService.lift_embargo.Goals as goal

pub returns-then-sizes-client : goal.returns-then-sizes-client
returns-then-sizes-client c =
    let a = c.args in
    let stores = a.self.now.stores in
    refused_moves a.sizes (Lift a.client) 2 a.self.now.table a.self.now.flags stores a.words.now _ _
    (λ given.
    absent_lift_lem a.sizes (embargoed_at (service_held given a.self.now.table a.self.now.flags stores) a.client) a.client
    c.if-sizes-client.true)
    refl
    (rw c.from.ensures at c.say.ensures)

pub returns-then-not-self-client : goal.returns-then-not-self-client
returns-then-not-self-client c =
    let a = c.args in
    let there : a.client < a.sizes.clients = omega (arith, c.if-sizes-client.false) in
    let stores = a.self.now.stores in
    refused_moves a.sizes (Lift a.client) 21 a.self.now.table a.self.now.flags stores a.words.now _ _
    (λ given.
    lift_tested a.sizes given a.self.now.table a.self.now.flags stores a.client there (client_fits c.requires.permitted there)
    ∙ ap (λ b. cond (not b) 21 0) c.if-not-self-client.true)
    refl
    (rw c.from-then-not-self-client.ensures at c.say-then-not-self-client.ensures)

pub returns : goal.returns
returns c =
    lift_moves c.requires.permitted (omega (arith, c.if-sizes-client.false)) c.drop_files.ensures c.args.self.now.flags _
    (omega arith) (ap not c.if-not-self-client.false) c.tell.ensures c.args.words.now _ _ c.say-2.ensures

-- `restart_client` meets its contract: a client that is not there is refused, any other restarts on all files. Assumes
-- nothing.
use Rattle.std.proofs.Common.{◌+◌, ◌*◌, ◌≤◌, refl, [], arith}
use Rattle.protocol.specs.declared.step.Step.TheVariants.{Restart}
use Rattle.service.proofs.EmbargoServing.{begun_none, refused_moves, absent_restart, restart_moves}
use Rattle.service.proofs.held_service.HeldService.restart_client.Goals as goal

pub returns-then-sizes-client : goal.returns-then-sizes-client
returns-then-sizes-client c =
    let a = c.args in
    refused_moves a.sizes (Restart a.client) 2 a.self.now.table a.self.now.flags
    a.self.now.stores a.words.now _ _
    (λ given. absent_restart a.sizes a.client c.if-sizes-client.true) refl
    (rw c.from.ensures at c.say.ensures)

pub drop_files-requires-clause-table_len : goal.drop_files-requires-clause-table_len
drop_files-requires-clause-table_len c =
    let words = c.args.words.now in
    let long = (c.forget_files-at.ensures words [] (begun_none words) refl).long in
    omega (arith, long)

pub overflow_mul-result : goal.overflow_mul-result
overflow_mul-result c =
    let words = c.args.words.now in
    let few : c.forget_files-at.result ≤ 0 + 4 * c.args.sizes.files =
    (c.forget_files-at.ensures words [] (begun_none words) refl).few in
    omega (arith, few, c.requires.permitted.files)

pub overflow_add-result : goal.overflow_add-result
overflow_add-result c =
    let words = c.args.words.now in
    let few : c.forget_files-at.result ≤ 0 + 4 * c.args.sizes.files =
    (c.forget_files-at.ensures words [] (begun_none words) refl).few in
    omega (arith, few, c.requires.permitted.files)

pub returns : goal.returns
returns c =
    let words = c.args.words.now in
    restart_moves c.requires.permitted (omega (arith, c.if-sizes-client.false))
    (c.forget_files-at.ensures words [] (begun_none words) refl)
    c.drop_files.ensures c.args.self.now.flags _ (omega arith) c.tell.ensures _ refl

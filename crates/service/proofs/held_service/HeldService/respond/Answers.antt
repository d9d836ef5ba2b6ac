-- `respond` meets its contract: the steps on which functions of other crates serve. Assumes nothing.
use Rattle.std.proofs.Common.{refl, false}
use Rattle.protocol.specs.declared.step.Step.TheVariants.{Close, Read}
use Rattle.service.proofs.Serving.{file_moves, block_moves}
use Rattle.service.proofs.FileStoring.{close_serves, read_serves}
use Rattle.service.proofs.held_service.HeldService.respond.Goals as goal

pub returns-in-Close : goal.returns-in-Close
returns-in-Close c =
    let a = c.args in
    let x = c.in-Close in
    rw (x.is, c.silent.ensures)
    (close_serves c.requires.permitted
    (file_moves false false a.sizes (Close x.mode x.client x.file) x.file a.self.now.table _ a.self.now.flags
    a.self.now.stores _ _ _ refl
    c.close.ensures (λ e. refl))
    refl)

pub returns-in-Read : goal.returns-in-Read
returns-in-Read c =
    let a = c.args in
    let x = c.in-Read in
    rw (x.is, c.silent-in-Read.ensures)
    (read_serves c.requires.permitted
    (block_moves false false a.sizes (Read x.client x.file x.block) x.client x.file a.self.now.table a.self.now.flags
    a.self.now.stores c.side_of-own.result _ _ refl c.side_of-own.ensures
    (c.read_block.ensures false false)))

-- `step_table` meets its contract. Assumes nothing.
use Rattle.service.proofs.TableStoring.{end_serves}
use Rattle.service.proofs.held_service.HeldService.step_table.Goals as goal

pub returns-in-Crash-clause-serves : goal.returns-in-Crash-clause-serves
returns-in-Crash-clause-serves c = λ on. rw c.in-Crash.is (c.crash_store.ensures c.args.self.now.stores)

pub returns-in-End-clause-serves : goal.returns-in-End-clause-serves
returns-in-End-clause-serves c = λ on.
    rw c.in-End.is
    (end_serves c.requires (c.end.ensures c.args.self.now.table c.args.self.now.stores))

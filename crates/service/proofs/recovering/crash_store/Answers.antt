-- `crash_store` meets its contract. Assumes nothing.
use Rattle.service.proofs.TableStoring.{crash_serves}
use Rattle.service.proofs.recovering.crash_store.Goals as goal

pub returns : goal.returns
returns c stores =
    crash_serves c.requires.permitted c.requires.table_len (c.crash.ensures stores) c.used_in-used.result c.saturating_sub.result
    c.used_in-used.ensures c.saturating_sub.ensures

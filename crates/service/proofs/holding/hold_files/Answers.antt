-- `hold_files` meets its contract. Assumes nothing.
use mathlib.Core.Path.{◌≡◌, ◌∙◌}
use lib.ListN.{length}
use Rattle.sizes.specs.Sizes.{max_files}
use Rattle.decision.proofs.Beyond.{unmapped}
use Rattle.service.proofs.Held.{rows_more, rows_all}
use Rattle.service.proofs.holding.hold_files.Goals as goal

pub loop-f-preserved : goal.loop-f-preserved
loop-f-preserved c = rows_more c.loop-f.invariant c.loop-f-test.true c.put_file.ensures

pub returns : goal.returns
returns c =
    let files : length c.args.files ≡ max_files = search unmapped in
    let clients : length c.args.clients ≡ max_files = search unmapped in
    let (all_files, all_clients) = rows_all c.loop-f.invariant c.loop-f-test.false files clients in
    (all_files, all_clients, c.loop-f.invariant.long ∙ c.requires)

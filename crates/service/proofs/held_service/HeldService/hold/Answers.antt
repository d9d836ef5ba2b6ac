-- `hold` meets its contract, part by part. Assumes nothing.
use mathlib.Core.Path.{◌∙◌}
use Rattle.service.proofs.Held.{space_held}
use Rattle.service.proofs.held_service.HeldService.hold.Goals as goal

pub returns : goal.returns
returns c =
    let rows = c.hold_files.ensures in
    let recovery = c.put_recovery.ensures in
    let last = c.hold_space.ensures in
    let kept =
    space_held c.hold_files.new.table c.hold_space.new.table c.put_recovery.new.flags c.hold_space.new.flags
    c.args.service.now.server.free
    rows.2
    last.table_after
    last.flags_after.1 in
    rw (
      kept.entries ∙ rows.0,
      kept.sides ∙ rows.1,
      kept.free,
      kept.recovering ∙ recovery.0,
      kept.reported ∙ recovery.1,
      kept.embargoed ∙ recovery.2,
      last.flags_after.0,
    )

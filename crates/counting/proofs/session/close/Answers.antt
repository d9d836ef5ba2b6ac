-- `close` meets its contract: the totals are written where there is room for them. Assumes nothing.
use mathlib.Core.Path.{refl}
use Rattle.telling.proofs.Parts.{close_out, close_fits}
use Rattle.playing.proofs.Ending.{close_moved}
use Rattle.counting.specs.Lines.{counting, counted_held}
use Rattle.counting.specs.Session.{standing}
use Rattle.counting.proofs.session.close.Goals as goal

pub returns-clause-moved : goal.returns-clause-moved
returns-clause-moved c =
    let σ = c.args.session in
    let now = c.args.counted.now in
    let held = now.service in
    let ends = c.after_close.ensures in
    close_moved (counting σ.settable) (λ z. counted_held z held.table held.flags held.stores now.totals) σ c.args.out.now
    c.after_close.result _ _ _ c.write_traffic-written.ensures.wrote_if_room refl ends.session ends.written

pub returns-clause-out_after : goal.returns-clause-out_after
returns-clause-out_after c =
    let σ = c.args.session in
    let now = c.args.counted.now in
    let held = now.service in
    close_out (counting σ.settable) (standing σ held.table held.flags held.stores now.totals) c.args.out.now _ _
    c.write_traffic-written.ensures.wrote_if_room

pub returns-clause-written_in_bounds : goal.returns-clause-written_in_bounds
returns-clause-written_in_bounds c =
    let σ = c.args.session in
    let now = c.args.counted.now in
    let held = now.service in
    rw c.after_close.ensures.written
    (close_fits (counting σ.settable) (standing σ held.table held.flags held.stores now.totals) c.args.out.now _ _
    c.write_traffic-written.ensures.wrote_if_room c.write_traffic-written.ensures.upper_bound)

-- `with_contents` meets its contract: the versions, used blocks, free places, blocks and embargoes change, and all else
-- stays. Assumes nothing.
use Prim.Native.Nat.{◌-◌}
use mathlib.Core.Bool.{false}
use mathlib.Core.Path.{◌∙◌, ap}
use Rattle.service.specs.Space.{used_in}
use Rattle.restore.specs.Reading.{with_versions, with_blocks, with_used, with_embargoes}
use Rattle.restore.proofs.reading.with_contents.Goals as goal

pub returns : goal.returns
returns c =
    let a = c.args in
    let held = a.contents.now in
    let s = a.service in
    let force = c.in_force-sizes in
    let files =
    c.with_versions.ensures ∙ ap (λ z. with_versions z.files held.files s.server.table.files) force.ensures.value in
    let blocks =
    c.with_places.ensures 0 ∙ ap (λ z. with_blocks z.files z.blocks held.blocks s.server.blocks) force.ensures.value in
    let used =
    c.with_places-used.ensures false ∙ ap (λ z. with_used z.files z.blocks held.used s.server.used) force.ensures.value in
    let free =
    c.places_left.ensures
    ∙ ap (λ n. force.result.store - n) c.count_used.ensures
    ∙ (λ k. let z = force.ensures.value k in z.store - used_in z (used k)) in
    let embargoed =
    c.with_embargoes.ensures ∙ ap (λ z. with_embargoes z.clients held.embargoed s.server.table.embargoed) force.ensures.value in
    λ k.
    record {
      sizes = s.sizes;
      server =
          record {
            table =
                record {
                  files = files k;
                  recovering = s.server.table.recovering;
                  reported = s.server.table.reported;
                  embargoed = embargoed k;
                };
            blocks = blocks k;
            used = used k;
            free = free k;
          };
      clients = s.clients;
      copies = s.copies;
      held = s.held;
      dirty = s.dirty;
    }

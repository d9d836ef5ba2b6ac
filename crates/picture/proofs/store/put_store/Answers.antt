-- `put_store` meets its contract: its parts, one after the other. Assumes nothing.
use mathlib.Core.Path.{ap, ◌∙◌}
use mathlib.Core.List.{◌++◌}
use Rattle.sizes.specs.Sizes.{at_most}
use Rattle.stepfile.specs.Text.{bytes, argument_text}
use Rattle.phrases.specs.Places.{places_text}
use Rattle.writer.proofs.Buffers.{wrote_as, wrote_then}
use Rattle.picture.proofs.store.put_store.Goals as goal

pub returns-clause-wrote : goal.returns-clause-wrote
returns-clause-wrote c =
    let s = c.args.state.service in
    let is = c.in_force-sizes.ensures.value in
    let places = ap (λ z. places_text z s.server.used s.server.table.embargoed s.dirty) is in
    let free = ap (λ n. bytes "; free:" ++ argument_text n) (c.at_most-free.ensures ∙ ap (λ z. at_most z.store s.server.free) is) in
    wrote_then (wrote_as places c.put_places-word.ensures.wrote)
    (wrote_then (wrote_as free c.put_numbered-feed.ensures.wrote) c.put_byte.ensures.wrote)
